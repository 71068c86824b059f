-- `halfread::sound::below_width` meets its contract: of 64 bits every word is below; of 32 each is asked. Assumes nothing.
use Prim.Native.Nat.{ℕ, ◌^◌}
use mathlib.Core.Bool.{Bool, true, false}
use mathlib.Core.Path.{◌≡◌, sym}
use mir.Syntax.{w64 as u64}
use mir.Val.{Fits}
use lib.Dec.{ltb}
use lib.ListN.{get_or}
use borrow.Author.Rules.{rules}
use borrow.Author.Tests.{tests}
use Rattle.std.proofs.lemmas.Iterator.{cases_from_all, YieldsList-from_slice}
use Rattle.fips.specs.Words.{word}
use Rattle.fips.specs.Sizes.{width_of}
use Rattle.slices.proofs.Tests.{every-found, below-all_below}
use Rattle.halfread.proofs.sound.below_width.Goals as goal

abbrev limits : Bool → ℕ
limits thin = 2 ^ word (width_of thin)

pub returns-then-not-thin : goal.returns-then-not-thin
returns-then-not-thin c = let words = c.args.words in
    let fits : (i : ℕ) → Fits u64 (get_or words i 0) = λ i. search rules in
    rw c.if-not-thin.true (sym (below-all_below (2 ^ 64) words (λ i. (fits i).fits)))

pub returns-else-not-thin : goal.returns-else-not-thin
returns-else-not-thin c = let words = c.args.words in
    rw c.if-not-thin.false
    (every-found (λ x. ltb x (2 ^ 32)) words c.all.result
    (cases_from_all _ _ _ (λ x. ltb x (2 ^ 32) ≡ true) (λ x. ltb x (2 ^ 32) ≡ false) c.all.ensures.ran (YieldsList-from_slice words cc)
    (λ x q k. search (rules, tests)) (λ x q k. search (rules, tests))))
