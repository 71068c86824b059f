-- The place is where the library's `position` finds the byte. Assumes nothing.
use Rattle.std.proofs.Common.{rules, tests, eqb}
use Rattle.std.proofs.lemmas.Iterator.{YieldsList-from_slice}
use Rattle.std.proofs.lemmas.Iterator.Search.{position_from_yields_List}
use Rattle.hexlines.proofs.Scan.{found}
use Rattle.hexlines.proofs.find.Goals as goal

pub returns : goal.returns
returns c =
    let ran = c.position.ensures.ran in
    let at = position_from_yields_List (λ x. eqb x c.args.b) _ _ c.position.result ran (YieldsList-from_slice c.args.s.now cc)
    (λ x b q k. search (rules, tests)) in
    found _ _ _ _ at c.unwrap_or.ensures
