-- All bytes are digits where the library's `all` says so. Assumes nothing.
use Rattle.std.proofs.Common.{rules, tests}
use Rattle.std.proofs.lemmas.Iterator.{YieldsList-from_slice}
use Rattle.std.proofs.lemmas.Iterator.Search.{all_from_yields_List}
use Rattle.std.specs.Option.{is_some}
use Rattle.hexlines.specs.Digits.{digit_of, all_digits, is_hex}
use Rattle.hexlines.proofs.is_hex.Goals as goal

pub returns-then-all : goal.returns-then-all
unfolding is_hex all_digits
returns-then-all c =
    let all = all_from_yields_List (λ x. is_some (digit_of x)) _ _ c.all.result c.all.ensures.ran (YieldsList-from_slice c.args.s.now cc)
    (λ x b q k. search (rules, tests)) in
    simp (← all, c.if-all.true)

pub returns-else-all : goal.returns-else-all
unfolding is_hex all_digits
returns-else-all c =
    let all = all_from_yields_List (λ x. is_some (digit_of x)) _ _ c.all.result c.all.ensures.ran (YieldsList-from_slice c.args.s.now cc)
    (λ x b q k. search (rules, tests)) in
    simp (← all, c.if-all.false)
