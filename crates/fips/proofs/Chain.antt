-- Chaining words are eight words of the width: FIPS 180-4 §6.2.2 and §6.4.2. `blocks-eight` says that blocks leave them so, and
-- `hash_from-eight` says it of a whole message.
use mathlib.Core.Path.{◌≡◌, refl, sym, ap, ◌∙◌}
use mathlib.Core.Bool.{Bool}
use mathlib.Core.List.{List, [], ◌∷◌, zip_with}
use Prim.Native.Nat.{ℕ, zero, suc, ◌+◌, ◌^◌, ◌<◌}
use native.Mathlib.Nat.{mod-lt, suc_inj}
use lib.ListN.{length, get_or}
use lib.Pow.{pow_pos}
use Rattle.fips.specs.Words.{Width, word, add}
use Rattle.fips.specs.Block.{round, rounds, schedule, block, blocks}
use Rattle.fips.specs.Padding.{pad, parse}
use Rattle.fips.specs.Constants.{round_words, hash_from}

-- eight words below 2^w; past the end a list reads as 0
pub record EightWords (p : Width) (H : List ℕ) : Type 0 where
  pub count : length H ≡ 8
  pub below : (i : ℕ) → get_or H i 0 < 2 ^ word p

length-zip_with : (f : ℕ → ℕ → ℕ) (xs ys : List ℕ) → length xs ≡ length ys → length (zip_with f xs ys) ≡ length ys
unfolding zip_with
length-zip_with f [] [] e = refl
length-zip_with f [] (y ∷ ys) e = e
length-zip_with f (x ∷ xs) [] e = refl
length-zip_with f (x ∷ xs) (y ∷ ys) e = ap suc (length-zip_with f xs ys (suc_inj e))

module _ (p : Width) where
  sums_lt : (xs ys : List ℕ) (i : ℕ) → get_or (zip_with (add p) xs ys) i 0 < 2 ^ word p
  unfolding zip_with
  sums_lt [] ys i = pow_pos (word p)
  sums_lt (x ∷ xs) [] i = pow_pos (word p)
  sums_lt (x ∷ xs) (y ∷ ys) zero = mod-lt (x + y) (pow_pos (word p))
  sums_lt (x ∷ xs) (y ∷ ys) (suc i) = sums_lt xs ys i

  length-rounds : (K W : List ℕ) (t : ℕ) (s : List ℕ) → length s ≡ 8 → length (rounds p K W t s) ≡ 8
  unfolding rounds round
  length-rounds K W zero s e = e
  length-rounds K W (suc t) s e = refl

  pub block-eight : (K H m : List ℕ) → length H ≡ 8 → EightWords p (block p K H m)
  unfolding block
  block-eight K H m e =
      let letters : List ℕ = rounds p K (schedule p m p.rounds) p.rounds H in
      let eight : length letters ≡ 8 = length-rounds K (schedule p m p.rounds) p.rounds H e in
      record { count = length-zip_with (add p) letters H (eight ∙ sym e) ∙ e; below = sums_lt letters H }

  pub blocks-eight : (K H : List ℕ) (ms : List (List ℕ)) → EightWords p H → EightWords p (blocks p K H ms)
  unfolding blocks
  blocks-eight K H [] h = h
  blocks-eight K H (m ∷ ms) h = blocks-eight K (block p K H m) ms (block-eight K H m h.count)

  pub hash_from-eight : (H : List ℕ) (m : List Bool) → EightWords p H → EightWords p (hash_from p H m)
  unfolding hash_from
  hash_from-eight H m = blocks-eight (round_words p) H (parse p (pad p m))
