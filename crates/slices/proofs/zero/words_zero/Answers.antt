-- `slices::zero::words_zero` meets its contract: what the library's `all` finds is what the test says. Assumes nothing.
use mathlib.Core.Bool.{true, false}
use mathlib.Core.Path.{◌≡◌}
use lib.Dec.{eqb}
use borrow.Author.Rules.{rules}
use borrow.Author.Tests.{tests}
use Rattle.std.proofs.lemmas.Iterator.{cases_from_all, YieldsList-from_slice}
use Rattle.slices.proofs.Tests.{every-found}
use Rattle.slices.proofs.zero.words_zero.Goals as goal

pub returns : goal.returns
returns c = let words = c.args.words.now in
    every-found (λ x. eqb x 0) words c.all.result
    (cases_from_all _ _ _ (λ x. eqb x 0 ≡ true) (λ x. eqb x 0 ≡ false) c.all.ensures.ran (YieldsList-from_slice words cc)
    (λ x q k. search (rules, tests)) (λ x q k. search (rules, tests)))
