-- What the block rule gives: eight words below 2^w. Blocks one after another: FIPS 180-4 §6.2.2 and §6.4.2.
-- Main statements: `length-block`, `block-lt` and `blocks-append`.
use Prim.Native.Nat.{ℕ, ◌+◌, ◌^◌, ◌<◌}
use mathlib.Core.List.{List, [], ◌∷◌, ◌++◌}
use mathlib.Core.Path.{◌≡◌, refl, sym, ◌∙◌}
use native.Mathlib.Nat.{mod-lt}
use lib.Pow.{pow_pos}
use lib.ListN.{length, get_or}
use Rattle.fips.specs.Words.{Width, word, add}
use Rattle.fips.specs.Block.{schedule, rounds, block, blocks}
use Rattle.blockrule.proofs.Rounds.{length-rounds, length-zip, zip-lt}

module _ (p : Width) (K : List ℕ) where
  pub length-block : (H m : List ℕ) → length H ≡ 8 → length (block p K H m) ≡ 8
  unfolding block
  length-block H m e =
      let l = length-rounds p K (schedule p m p.rounds) p.rounds H e in
      length-zip (add p) (rounds p K (schedule p m p.rounds) p.rounds H) H (l ∙ sym e) ∙ l

  pub block-lt : (H m : List ℕ) (i : ℕ) → get_or (block p K H m) i 0 < 2 ^ word p
  unfolding block
  block-lt H m i =
      zip-lt (add p) (2 ^ word p) (pow_pos (word p)) (λ x y. mod-lt (x + y) (pow_pos (word p)))
      (rounds p K (schedule p m p.rounds) p.rounds H) H i

  pub blocks-none : (H : List ℕ) → blocks p K H [] ≡ H
  unfolding blocks
  blocks-none H = refl

  pub blocks-cons : (H m : List ℕ) (ms : List (List ℕ)) → blocks p K H (m ∷ ms) ≡ blocks p K (block p K H m) ms
  unfolding blocks
  blocks-cons H m ms = refl

  pub blocks-append : (H : List ℕ) (ms ns : List (List ℕ)) → blocks p K H (ms ++ ns) ≡ blocks p K (blocks p K H ms) ns
  unfolding blocks
  blocks-append H [] ns = refl
  blocks-append H (m ∷ ms) ns = blocks-append (block p K H m) ms ns

  pub length-blocks : (H : List ℕ) (ms : List (List ℕ)) → length H ≡ 8 → length (blocks p K H ms) ≡ 8
  unfolding blocks
  length-blocks H [] e = e
  length-blocks H (m ∷ ms) e = length-blocks (block p K H m) ms (length-block H m e)

  pub blocks-lt : (H : List ℕ) (ms : List (List ℕ)) → ((i : ℕ) → get_or H i 0 < 2 ^ word p)
      → (i : ℕ) → get_or (blocks p K H ms) i 0 < 2 ^ word p
  unfolding blocks
  blocks-lt H [] b = b
  blocks-lt H (m ∷ ms) b = blocks-lt (block p K H m) ms (block-lt H m)
