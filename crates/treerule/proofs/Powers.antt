-- `power_below` is the largest power of two below a number, from 2 on: `power_below_lem`.
use Prim.Native.Nat.{ℕ, zero, suc, ◌*◌, ◌^◌, ◌<◌, ◌≤◌}
use mathlib.Core.Bool.{Bool, true, false, cond}
use mathlib.Core.Path.{◌≡◌, refl}
use native.Mathlib.Omega.{arith}
use lib.Dec.{ltb}
use borrow.Author.Tests.{ltb-true, ltb-false}
use Rattle.fips.proofs.Roots.{lt-two-pow}
use Rattle.treerule.specs.Split.{power_to, power_below}

-- k is the largest power of two below n
pub record Largest (n k : ℕ) : Type 0 where
  pub exponent : ℕ
  pub is : k ≡ 2 ^ exponent
  pub below : 2 ^ exponent < n
  pub reaches : n ≤ 2 * 2 ^ exponent

-- a power that is below n, or else the largest smaller one
larger : (j n : ℕ) {k : ℕ} (b : Bool) → ltb (2 ^ suc j) n ≡ b → n ≤ 2 * 2 ^ suc j → (n ≤ 2 * 2 ^ j → Largest n k) →
    Largest n (cond b (2 ^ suc j) k)
larger j n true e few smaller = record { exponent = suc j; is = refl; below = ltb-true (2 ^ suc j) n e; reaches = few }
larger j n false e few smaller = smaller (omega (arith, ltb-false (2 ^ suc j) n e))

power-to : (j n : ℕ) → 1 < n → n ≤ 2 * 2 ^ j → Largest n (power_to j n)
unfolding power_to
power-to zero n many few = record { exponent = 0; is = refl; below = many; reaches = few }
power-to (suc j) n many few = larger j n (ltb (2 ^ suc j) n) refl few (power-to j n many)

pub power_below_lem : (n : ℕ) → 1 < n → Largest n (power_below n)
unfolding power_below
power_below_lem n many = power-to n n many (omega (arith, lt-two-pow n))
