-- Ones in a binary number. Those at its end are the zeros at the end of the next number: `ones-zeros`. The next number has so many ones
-- less, and one more: `ones-next`.
use Prim.Native.Nat.{ℕ, zero, suc, ◌+◌, ◌/◌, ◌%◌, ◌^◌, ◌<◌, ◌≤◌}
use mathlib.Core.Bool.{cond}
use mathlib.Core.Logic.{◌⊎◌, inl, inr}
use mathlib.Core.Path.{◌≡◌, refl, sym, ap, ◌∙◌}
use native.Mathlib.Omega.{arith}
use lib.Count.{ones, ones_step, count_trailing_zeros}
use lib.Dec.{eqb}
use Rattle.fips.proofs.Roots.{lt-two-pow}
use Rattle.streamrule.specs.Held.{ones_at_end_in, ones_at_end}

-- a number is even or odd
parity : (n : ℕ) → (n % 2 ≡ 0) ⊎ (n % 2 ≡ 1)
parity n = go (n % 2) (omega arith)
  where
    go : (r : ℕ) → r < 2 → (r ≡ 0) ⊎ (r ≡ 1)
    go zero h = inl refl
    go (suc zero) h = inr refl
    go (suc (suc r)) h = absurd (omega arith)

ends-even : (d n : ℕ) → n % 2 ≡ 0 → ones_at_end_in (suc d) n ≡ 0
unfolding ones_at_end_in
ends-even d n e = rw e

ends-odd : (d n : ℕ) → n % 2 ≡ 1 → ones_at_end_in (suc d) n ≡ suc (ones_at_end_in d (n / 2))
unfolding ones_at_end_in
ends-odd d n e = rw e

-- ---- the next number

zeros-odd : (d n : ℕ) → n % 2 ≡ 1 → count_trailing_zeros (suc d) n ≡ 0
unfolding count_trailing_zeros
zeros-odd d n e = rw e

zeros-even : (d n : ℕ) → n % 2 ≡ 0 → count_trailing_zeros (suc d) n ≡ suc (count_trailing_zeros d (n / 2))
unfolding count_trailing_zeros
zeros-even d n e = rw e

half-next : (n : ℕ) → n % 2 ≡ 1 → suc n / 2 ≡ suc (n / 2)
half-next n e = omega arith

pub ones-zeros-in : (d n : ℕ) → count_trailing_zeros d (suc n) ≡ ones_at_end_in d n
unfolding count_trailing_zeros ones_at_end_in
ones-zeros-in zero n = refl
ones-zeros-in (suc d) n = go (parity n) (ones-zeros-in d (n / 2))
  where
    go : (n % 2 ≡ 0) ⊎ (n % 2 ≡ 1) → count_trailing_zeros d (suc (n / 2)) ≡ ones_at_end_in d (n / 2) →
        count_trailing_zeros (suc d) (suc n) ≡ ones_at_end_in (suc d) n
    go (inl e) rest = zeros-odd d (suc n) (omega arith) ∙ sym (ends-even d n e)
    go (inr e) rest =
        zeros-even d (suc n) (omega arith) ∙ ap suc (ap (count_trailing_zeros d) (half-next n e) ∙ rest) ∙ sym (ends-odd d n e)

-- ---- how many digits are looked at does not count, where no one stands above them

ends-zero : (d : ℕ) → ones_at_end_in d 0 ≡ 0
unfolding ones_at_end_in
ends-zero zero = refl
ends-zero (suc d) = refl

ends-enough : (d e n : ℕ) → n < 2 ^ d → n < 2 ^ e → ones_at_end_in d n ≡ ones_at_end_in e n
unfolding ones_at_end_in
ends-enough zero e zero h g = sym (ends-zero e)
ends-enough zero e (suc n) h g = absurd (omega arith)
ends-enough (suc d) zero zero h g = ends-zero (suc d)
ends-enough (suc d) zero (suc n) h g = absurd (omega arith)
ends-enough (suc d) (suc e) n h g =
    ap (λ (r : ℕ). cond (eqb (n % 2) 1) (suc r) 0) (ends-enough d e (n / 2) (omega arith) (omega arith))

pub ends-in : (d n : ℕ) → n < 2 ^ d → ones_at_end n ≡ ones_at_end_in d n
unfolding ones_at_end
ends-in d n h = ends-enough n d n (lt-two-pow n) h

-- in so many digits
pub ones-zeros : (d n : ℕ) → n < 2 ^ d → count_trailing_zeros d (suc n) ≡ ones_at_end n
ones-zeros d n h = ones-zeros-in d n ∙ sym (ends-in d n h)

-- ---- ones

next-ones-in : (d n : ℕ) → n < 2 ^ d → ones (suc n) + ones_at_end_in d n ≡ suc (ones n)
unfolding ones_at_end_in ones
next-ones-in zero zero h = refl
next-ones-in zero (suc n) h = absurd (omega arith)
next-ones-in (suc d) n h = go (parity n) (next-ones-in d (n / 2) (omega arith))
  where
    go : (n % 2 ≡ 0) ⊎ (n % 2 ≡ 1) → ones (suc (n / 2)) + ones_at_end_in d (n / 2) ≡ suc (ones (n / 2)) →
        ones (suc n) + ones_at_end_in (suc d) n ≡ suc (ones n)
    go (inl e) rest =
        let half : suc n / 2 ≡ n / 2 = omega arith in
        omega (arith, ones_step (suc n), ones_step n, ends-even d n e, ap ones half)
    go (inr e) rest = omega (arith, ones_step (suc n), ones_step n, ends-odd d n e, ap ones (half-next n e), rest)

pub ones-next : (n : ℕ) → ones (suc n) + ones_at_end n ≡ suc (ones n)
unfolding ones_at_end
ones-next n = next-ones-in n n (lt-two-pow n)

-- there are no more at the end than in all
ends-le-in : (d n : ℕ) → ones_at_end_in d n ≤ ones n
unfolding ones_at_end_in
ends-le-in zero n = omega arith
ends-le-in (suc d) n = go (parity n) (ends-le-in d (n / 2))
  where
    go : (n % 2 ≡ 0) ⊎ (n % 2 ≡ 1) → ones_at_end_in d (n / 2) ≤ ones (n / 2) → ones_at_end_in (suc d) n ≤ ones n
    go (inl e) rest = omega (arith, ends-even d n e)
    go (inr e) rest = omega (arith, ends-odd d n e, ones_step n)

pub ends-le : (n : ℕ) → ones_at_end n ≤ ones n
unfolding ones_at_end
ends-le n = ends-le-in n n

-- ---- a digit above: it does not count where it stands apart; and a number that is all ones

ends-above-in : (e d r : ℕ) → suc r < 2 ^ d → ones_at_end_in e (2 ^ d + r) ≡ ones_at_end_in e r
unfolding ones_at_end_in
ends-above-in zero d r h = refl
ends-above-in (suc e) zero r h = absurd (omega arith)
ends-above-in (suc e) (suc d) r h = go (parity r) (λ odd. ends-above-in e d (r / 2) (omega arith))
  where
    go : (r % 2 ≡ 0) ⊎ (r % 2 ≡ 1) → (r % 2 ≡ 1 → ones_at_end_in e (2 ^ d + r / 2) ≡ ones_at_end_in e (r / 2)) →
        ones_at_end_in (suc e) (2 ^ suc d + r) ≡ ones_at_end_in (suc e) r
    go (inl even) rest = ends-even e (2 ^ suc d + r) (omega arith) ∙ sym (ends-even e r even)
    go (inr odd) rest =
        let half : (2 ^ suc d + r) / 2 ≡ 2 ^ d + r / 2 = omega arith in
        ends-odd e (2 ^ suc d + r) (omega arith) ∙ ap suc (ap (ones_at_end_in e) half ∙ rest odd) ∙ sym (ends-odd e r odd)

pub ends_above : (d r : ℕ) → suc r < 2 ^ d → ones_at_end (2 ^ d + r) ≡ ones_at_end r
ends_above d r h =
    ends-in (suc d) (2 ^ d + r) (omega arith) ∙ ends-above-in (suc d) d r h ∙ sym (ends-in (suc d) r (omega arith))

ends-all-in : (d n : ℕ) → suc n ≡ 2 ^ d → ones_at_end_in d n ≡ d
unfolding ones_at_end_in
ends-all-in zero n e = refl
ends-all-in (suc d) n e = ends-odd d n (omega arith) ∙ ap suc (ends-all-in d (n / 2) (omega arith))

pub ends-all : (d n : ℕ) → suc n ≡ 2 ^ d → ones_at_end n ≡ d
ends-all d n e = ends-in d n (omega arith) ∙ ends-all-in d n e
