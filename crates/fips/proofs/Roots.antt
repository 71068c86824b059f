-- Roots and root words: SPEC, "Constants, by rule". For every width and number, and every exponent but 0, `root_word-rule` says that
-- `root_word` meets its rule, and `root_word-upper` that a word of fewer bits is the upper part of a longer one; for every exponent
-- `root_word-unique` says that no other word meets the rule.
use mathlib.Core.Path.{◌≡◌, refl, sym, ap, ◌∙◌}
use mathlib.Core.Bool.{Bool, true, false, cond}
use mathlib.Core.Logic.{◌≢◌}
use Prim.Native.Nat.{ℕ, zero, suc, ◌+◌, ◌*◌, ◌/◌, ◌%◌, ◌^◌, ◌≤◌, ◌<◌, zero-le}
use native.Mathlib.Nat.{le_trans, le_antisymm, le_of_eq, le_of_suc-le-suc, lt_of_lt_of_le, lt_of_not-le, not-le_of_lt, pos_of_ne-zero}
use native.Mathlib.Nat.{pow-zero, pow-suc, two-pow-succ, one-le-pow, pow-le-pow_left}
use native.Mathlib.Nat.{zero-add, add_assoc, mul_comm, mul_assoc, mul-mul-mul_comm, mul-zero, zero-mul, one-mul, suc-mul, mul-add, add-mul}
use native.Mathlib.Nat.{le-mul_of_pos_right, mul-lt-mul_of_pos_right, le_of_mul-le-mul_right, lt_of_mul-lt-mul_right}
use native.Mathlib.Nat.{mod-lt, div-mul-le_self, lt-div-mul-add}
use native.Mathlib.Omega.{arith}
use lib.Dec.{leb}
use lib.Pow.{pow_pos, pow_mono, pow-add, field}
use borrow.Author.Tests.{leb-true, leb-false}
use Rattle.fips.specs.Roots.{IsRoot, RootWord, root, root_word}

-- ---- powers

mul-pow : (a b e : ℕ) → (a * b) ^ e ≡ a ^ e * b ^ e
mul-pow a b zero = simp pow-zero
mul-pow a b (suc e) = simp pow-suc (ap (λ (x : ℕ). x * (a * b)) (mul-pow a b e) ∙ mul-mul-mul_comm (a ^ e) (b ^ e) a b)

pow-mul : (a k e : ℕ) → (a ^ k) ^ e ≡ a ^ (e * k)
pow-mul a k zero = simp (pow-zero, zero-mul)
pow-mul a k (suc e) = simp (pow-suc, suc-mul, pow-add) (ap (λ (x : ℕ). x * a ^ k) (pow-mul a k e))

zero-pow : (e : ℕ) → e ≢ 0 → 0 ^ e ≡ 0
zero-pow zero h = absurd (h refl)
zero-pow (suc e) h = simp (pow-suc, mul-zero)

pub lt-two-pow : (n : ℕ) → n < 2 ^ n
lt-two-pow zero = omega arith
lt-two-pow (suc n) = rw two-pow-succ (omega (arith, lt-two-pow n))

-- ---- the whole root

root-le : (e x n m : ℕ) → IsRoot e x n → IsRoot e x m → n ≤ m
root-le e x n m r s =
    le_of_suc-le-suc (lt_of_not-le (λ (h : m < n). not-le_of_lt s.high (le_trans (pow-le-pow_left (omega arith) e) r.low)))

pub root-unique : (e x n m : ℕ) → IsRoot e x n → IsRoot e x m → n ≡ m
root-unique e x n m r s = le_antisymm (root-le e x n m r s) (root-le e x m n s r)

-- one more binary digit of the root
next-digit : (e x k n : ℕ) (b : Bool) → leb ((n + 2 ^ k) ^ e) x ≡ b → n ^ e ≤ x → x < (n + 2 ^ suc k) ^ e
    → (cond b (n + 2 ^ k) n ^ e ≤ x) × (x < (cond b (n + 2 ^ k) n + 2 ^ k) ^ e)
next-digit e x k n true q low high = (leb-true ((n + 2 ^ k) ^ e) x q, rw (add_assoc, ← two-pow-succ) high)
next-digit e x k n false q low high = (low, leb-false ((n + 2 ^ k) ^ e) x q)

pub root-is-root : (e x k n : ℕ) → n ^ e ≤ x → x < (n + 2 ^ k) ^ e → IsRoot e x (root e x k n)
unfolding root
root-is-root e x zero n low high = record { low = low; high = high }
root-is-root e x (suc k) n low high =
    let b : Bool = leb ((n + 2 ^ k) ^ e) x in
    let next : (cond b (n + 2 ^ k) n ^ e ≤ x) × (x < (cond b (n + 2 ^ k) n + 2 ^ k) ^ e) = next-digit e x k n b refl low high in
    root-is-root e x k (cond b (n + 2 ^ k) n) next.0 next.1

-- ---- root words

-- p < 2^p, so a root of p·2^(ew) has at most w + p digits
digits-suffice : (e w p : ℕ) → e ≢ 0 → p * 2 ^ (e * w) < (0 + 2 ^ (w + p)) ^ e
digits-suffice e w p h =
    let few : p ≤ e * p = rw mul_comm (le-mul_of_pos_right p (pos_of_ne-zero h)) in
    rw (zero-add, pow-mul, mul-add, pow-add, mul_comm (2 ^ (e * w)) (2 ^ (e * p)))
    (mul-lt-mul_of_pos_right (lt_of_lt_of_le (lt-two-pow p) (pow_mono few)) (pow_pos (e * w)))

pub root_word-rule : (e w p : ℕ) → e ≢ 0 → RootWord e w p (root_word e w p)
unfolding root_word
root_word-rule e w p h =
    record {
      whole = root e (p * 2 ^ (e * w)) (w + p) 0;
      bounds = root-is-root e (p * 2 ^ (e * w)) (w + p) 0 (le_trans (le_of_eq (zero-pow e h)) zero-le) (digits-suffice e w p h);
      rest = refl;
    }

pub root_word-unique : (e w p x y : ℕ) → RootWord e w p x → RootWord e w p y → x ≡ y
root_word-unique e w p x y r s =
    let same : r.whole ≡ s.whole = root-unique e (p * 2 ^ (e * w)) r.whole s.whole r.bounds s.bounds in
    r.rest ∙ ap (λ (n : ℕ). n % 2 ^ w) same ∙ sym s.rest

pub root_word-lt : (e w p : ℕ) → root_word e w p < 2 ^ w
unfolding root_word
root_word-lt e w p = mod-lt (root e (p * 2 ^ (e * w)) (w + p) 0) (pow_pos w)

-- the root at fewer digits: its lowest k digits are left out
module _ (e w k p n : ℕ) (r : IsRoot e (p * 2 ^ (e * (w + k))) n) where
  scaled : p * 2 ^ (e * (w + k)) ≡ p * 2 ^ (e * w) * (2 ^ k) ^ e
  scaled = simp (mul-add, pow-add, pow-mul, mul_assoc)

  upper-low : (n / 2 ^ k) ^ e ≤ p * 2 ^ (e * w)
  upper-low =
      le_of_mul-le-mul_right {k = (2 ^ k) ^ e}
      (rw (← mul-pow, ← scaled) (le_trans (pow-le-pow_left (div-mul-le_self n (2 ^ k)) e) r.low)) (one-le-pow e (2 ^ k) (pow_pos k))

  upper-high : p * 2 ^ (e * w) < (n / 2 ^ k + 1) ^ e
  upper-high =
      let above : n + 1 ≤ (n / 2 ^ k + 1) * 2 ^ k = rw (add-mul, one-mul) (omega (arith, lt-div-mul-add {a = n} (pow_pos k))) in
      lt_of_mul-lt-mul_right ((2 ^ k) ^ e) (rw (← mul-pow, ← scaled) (lt_of_lt_of_le r.high (pow-le-pow_left above e)))

  root-upper : IsRoot e (p * 2 ^ (e * w)) (n / 2 ^ k)
  root-upper = record { low = upper-low; high = upper-high }

upper-rule : (e w k p x : ℕ) → RootWord e (w + k) p x → RootWord e w p (x / 2 ^ k)
upper-rule e w k p x r =
    record {
      whole = r.whole / 2 ^ k;
      bounds = root-upper e w k p r.whole r.bounds;
      rest = ap (λ (y : ℕ). y / 2 ^ k) r.rest ∙ field r.whole w k;
    }

-- the word of w bits is the upper part of the word of w + k
pub root_word-upper : (e w k p : ℕ) → e ≢ 0 → root_word e w p ≡ root_word e (w + k) p / 2 ^ k
root_word-upper e w k p h =
    root_word-unique e w p (root_word e w p) (root_word e (w + k) p / 2 ^ k) (root_word-rule e w p h)
    (upper-rule e w k p (root_word e (w + k) p) (root_word-rule e (w + k) p h))
