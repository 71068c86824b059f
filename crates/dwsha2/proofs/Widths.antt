-- An edition's width, by whether its words have 32 bits; and words taken to a width: laws of `is_narrow`, `width_of` and `fit`.
use Prim.Native.Nat.{ℕ, zero, suc, ◌%◌, ◌^◌, ◌<◌}
use mathlib.Core.List.{List, [], ◌∷◌, ◌++◌}
use mathlib.Core.Path.{◌≡◌, refl, ap₂}
use native.Mathlib.Nat.{mod-eq_of_lt, mod-lt}
use lib.ListN.{length, take, get_or, length-map}
use lib.Pow.{pow_pos}
use Rattle.slices.specs.Below.{Below}
use Rattle.slices.proofs.Fill.{map_more}
use Rattle.fips.specs.Words.{Width, word}
use Rattle.dwsha2.specs.Code.Hashing.{fit}

-- ---- words at a width

pub length-fit : (p : Width) (H : List ℕ) → length (fit p H) ≡ length H
unfolding fit
length-fit p H = length-map H (λ (x : ℕ). x % 2 ^ word p)

pub fit_same : (p : Width) (H : List ℕ) → Below (2 ^ word p) H → fit p H ≡ H
unfolding fit
fit_same p [] h = refl
fit_same p (x ∷ H) h = ap₂ (λ (y : ℕ) (l : List ℕ). y ∷ l) (mod-eq_of_lt (h 0)) (fit_same p H (λ i. h (suc i)))

pub fit-below : (p : Width) (H : List ℕ) → Below (2 ^ word p) (fit p H)
unfolding fit
fit-below p [] i = pow_pos (word p)
fit-below p (x ∷ H) zero = mod-lt x (pow_pos (word p))
fit-below p (x ∷ H) (suc i) = fit-below p H i

-- one word more, for a loop that takes them one by one
pub fit-more : (p : Width) (H : List ℕ) (t : ℕ) → t < length H →
    fit p (take (suc t) H) ≡ fit p (take t H) ++ (get_or H t 0 % 2 ^ word p ∷ [])
unfolding fit
fit-more p H t h = map_more (λ x. x % 2 ^ word p) H t h
