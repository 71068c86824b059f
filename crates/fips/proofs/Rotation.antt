-- The shift-or form of ROTR is the rotation, once over the width: FIPS 180-4 §3.2, item 4. `rotr-rotation` says it of numbers,
-- `rotr-bits` of the bits of a word: the lower n bits come to the front.
use Prim.Native.Nat.{ℕ, ◌+◌, ◌-◌, ◌*◌, ◌/◌, ◌%◌, ◌^◌, ◌≤◌, ◌<◌}
use mathlib.Core.Bool.{Bool}
use mathlib.Core.List.{List, ◌++◌}
use mathlib.Core.Path.{◌≡◌, sym, ap, ap₂, subst, ◌∙◌}
use native.Mathlib.Nat.{add-sub_of_le, mul-mod_left, add_comm, add-zero}
use lib.Bits.{bit_or, or_shifted_r}
use lib.ListN.{take, drop}
use lib.Pow.{mod-pow-add, shl-shr, shr_lt, high, low}
use lib.Seq.{take_at, drop_at}
use Rattle.fips.specs.Bits.{bits}
use Rattle.fips.specs.Words.{Width, word, rotr}
use Rattle.fips.proofs.Bits.{bits-append, bits-low, bits-mod, length-bits}

module _ (n m x : ℕ) (fits : x < 2 ^ (n + m)) where
  upper : x / 2 ^ n < 2 ^ m
  upper = shr_lt m n (subst (λ (k : ℕ). x < 2 ^ k) (add_comm n m) fits)

  turned : bit_or (x / 2 ^ n) (x * 2 ^ m % 2 ^ (n + m)) ≡ x % 2 ^ n * 2 ^ m + x / 2 ^ n
  turned =
      ap (bit_or (x / 2 ^ n))
      (mod-pow-add (x * 2 ^ m) n m
      ∙ ap₂ (λ (a b : ℕ). a % 2 ^ n * 2 ^ m + b) (shl-shr x m) (mul-mod_left x (2 ^ m))
      ∙ add-zero (x % 2 ^ n * 2 ^ m))
      ∙ or_shifted_r (x % 2 ^ n) m (x / 2 ^ n) upper

  turned-bits : bits (n + m) (x % 2 ^ n * 2 ^ m + x / 2 ^ n) ≡ drop m (bits (n + m) x) ++ take m (bits (n + m) x)
  turned-bits =
      let y = x % 2 ^ n * 2 ^ m + x / 2 ^ n in
      let whole : bits (n + m) x ≡ bits m (x / 2 ^ n) ++ bits n x = ap (λ (k : ℕ). bits k x) (add_comm n m) ∙ bits-append m n x in
      let long = length-bits m (x / 2 ^ n) in
      bits-append n m y
      ∙ ap₂ (λ (a b : List Bool). a ++ b)
      (ap (bits n) (high (x % 2 ^ n) m upper) ∙ bits-mod n x ∙ sym (ap (drop m) whole ∙ drop_at (bits m (x / 2 ^ n)) (bits n x) m long))
      (bits-low m y (x / 2 ^ n) (low (x % 2 ^ n) m upper ∙ sym (native.Mathlib.Nat.mod-eq_of_lt upper))
      ∙ sym (ap (take m) whole ∙ take_at (bits m (x / 2 ^ n)) (bits n x) m long))

module _ (p : Width) (n x : ℕ) (within : n ≤ word p) (fits : x < 2 ^ word p) where
  whole : n + (word p - n) ≡ word p
  whole = add-sub_of_le within

  fits' : x < 2 ^ (n + (word p - n))
  fits' = subst (λ (k : ℕ). x < 2 ^ k) (sym whole) fits

  pub rotr-rotation : rotr p n x ≡ x % 2 ^ n * 2 ^ (word p - n) + x / 2 ^ n
  rotr-rotation =
      subst (λ (k : ℕ). bit_or (x / 2 ^ n) (x * 2 ^ (word p - n) % 2 ^ k) ≡ x % 2 ^ n * 2 ^ (word p - n) + x / 2 ^ n) whole
      (turned n (word p - n) x fits')

  pub rotr-bits : bits (word p) (rotr p n x) ≡ drop (word p - n) (bits (word p) x) ++ take (word p - n) (bits (word p) x)
  rotr-bits =
      ap (bits (word p)) rotr-rotation
      ∙ subst
      (λ (k : ℕ). bits k (x % 2 ^ n * 2 ^ (word p - n) + x / 2 ^ n) ≡ drop (word p - n) (bits k x) ++ take (word p - n) (bits k x))
      whole
      (turned-bits n (word p - n) x fits')
