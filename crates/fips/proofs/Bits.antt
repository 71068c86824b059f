-- Bits, numbers and bytes: laws of specs/Bits.antt. Main: `value-bits` and `bits-value` (the two are inverse), `bits_of-be` (the bits of a
-- number's bytes are its bits), `value-bits_of` (bytes make the number of their bits), `pieces-bits_of` (a piece by bytes is one by bits).
use Prim.Native.Nat.{ℕ, zero, suc, ◌+◌, ◌*◌, ◌/◌, ◌%◌, ◌^◌, ◌<◌}
use mathlib.Core.Bool.{Bool, true, false}
use mathlib.Core.List.{List, [], ◌∷◌, ◌++◌, map, append_assoc}
use mathlib.Core.Path.{◌≡◌, refl, sym, ap, ap₂, ◌∙◌}
use native.Mathlib.Nat.{mod-one, mod-lt, zero-add, suc-add, add_comm, add_assoc, mul-suc, pow-succ'}
use native.Mathlib.Nat.{mod-eq_of_lt, lt-suc_self, mod-mod, mod_self, div_self, zero-div, zero-mod, add-mul, mul_assoc, zero-mul}
use native.Mathlib.Numerals.{one-add}
use native.Mathlib.Omega.{arith}
use lib.Arith.{digits_lt}
use lib.Dec.{eqb}
use lib.ListN.{length, take, drop, replicate, length-append, replicate-append-replicate}
use lib.Pow.{pow_pos, pow-add, mod-pow-add, mod-mod-pow, field, shr-shr, high, low, pow-lt}
use lib.Seq.{take-append-add, drop-append-add, take_at, take-nil, drop-nil}
use Rattle.bigendian.proofs.BigEndian.{pow-256}
use Rattle.bigendian.specs.BigEndian.{be, number}
use Rattle.slices.specs.Below.{Bytes}
use Rattle.bigendian.specs.Words.{to_words}
use Rattle.slices.proofs.Below.{below-take, below-drop}
use Rattle.fips.specs.Bits.{bits, digit, value, bits_of, pieces}

pub length-bits : (k x : ℕ) → length (bits k x) ≡ k
unfolding bits
length-bits zero x = refl
length-bits (suc k) x = ap suc (length-bits k x)

digit-eqb : (d : ℕ) → d < 2 → digit (eqb d 1) ≡ d
digit-eqb zero h = refl
digit-eqb (suc zero) h = refl
digit-eqb (suc (suc d)) h = absurd (omega arith)

eqb-digit : (b : Bool) → eqb (digit b) 1 ≡ b
eqb-digit true = refl
eqb-digit false = refl

digit_lt : (b : Bool) → digit b < 2
digit_lt true = omega arith
digit_lt false = omega arith

-- the highest of suc k bits, and the others
one_more : (x k : ℕ) → x % 2 ^ suc k ≡ x / 2 ^ k % 2 * 2 ^ k + x % 2 ^ k
one_more x k = ap (λ (n : ℕ). x % 2 ^ n) (sym (one-add k)) ∙ mod-pow-add x 1 k

highest : (x k : ℕ) → x % 2 ^ suc k / 2 ^ k ≡ x / 2 ^ k % 2
highest x k = ap (λ (n : ℕ). x % 2 ^ n / 2 ^ k) (sym (one-add k)) ∙ field x 1 k

others : (x k : ℕ) → x % 2 ^ suc k % 2 ^ k ≡ x % 2 ^ k
others x k = ap (λ (n : ℕ). x % 2 ^ n % 2 ^ k) (sym (one-add k)) ∙ mod-mod-pow x 1 k

pub value-bits : (k x : ℕ) → value (bits k x) ≡ x % 2 ^ k
unfolding bits value
value-bits zero x = sym (mod-one x)
value-bits (suc k) x =
    rw (length-bits k x, value-bits k x, digit-eqb (x / 2 ^ k % 2) (mod-lt (x / 2 ^ k) (omega arith))) (sym (one_more x k))

-- bits show of a number what it is modulo a power
pub bits-low : (k x y : ℕ) → x % 2 ^ k ≡ y % 2 ^ k → bits k x ≡ bits k y
unfolding bits
bits-low zero x y e = refl
bits-low (suc k) x y e =
    ap₂ (λ (d : ℕ) (l : List Bool). eqb d 1 ∷ l)
    (sym (highest x k) ∙ ap (λ (n : ℕ). n / 2 ^ k) e ∙ highest y k)
    (bits-low k x y (sym (others x k) ∙ ap (λ (n : ℕ). n % 2 ^ k) e ∙ others y k))

pub bits-mod : (k x : ℕ) → bits k (x % 2 ^ k) ≡ bits k x
bits-mod k x = bits-low k (x % 2 ^ k) x (mod-mod x (2 ^ k))

pub bits-append : (j k x : ℕ) → bits (j + k) x ≡ bits j (x / 2 ^ k) ++ bits k x
unfolding bits
bits-append zero k x = rw zero-add
bits-append (suc j) k x =
    rw suc-add
    (ap₂ (λ (n : ℕ) (l : List Bool). eqb (n % 2) 1 ∷ l)
    (ap (λ (n : ℕ). x / 2 ^ n) (add_comm j k) ∙ sym (shr-shr x k j))
    (bits-append j k x))

pub value-append : (a b : List Bool) → value (a ++ b) ≡ value a * 2 ^ length b + value b
unfolding value
value-append [] b = sym (rw (zero-mul, zero-add))
value-append (x ∷ a) b =
    rw (length-append a b, pow-add 2 (length a) (length b), value-append a b) (simp (add-mul, mul_assoc, add_assoc))

pub value-lt : (m : List Bool) → value m < 2 ^ length m
unfolding value
value-lt [] = omega arith
value-lt (x ∷ m) = rw (pow-succ' 2 (length m)) (digits_lt (digit_lt x) (value-lt m))

pub bits-value : (m : List Bool) → bits (length m) (value m) ≡ m
unfolding bits value
bits-value [] = refl
bits-value (x ∷ m) =
    let n = length m in
    let v = value m in
    ap₂ (λ (b : Bool) (l : List Bool). b ∷ l)
    (rw (high (digit x) n (value-lt m), mod-eq_of_lt (digit_lt x)) (eqb-digit x))
    (bits-low n (digit x * 2 ^ n + v) v (low (digit x) n (value-lt m) ∙ sym (mod-eq_of_lt (value-lt m))) ∙ bits-value m)

pub bits-zero : (k : ℕ) → bits k 0 ≡ replicate k false
unfolding bits
bits-zero zero = refl
bits-zero (suc k) = rw (zero-div (2 ^ k), bits-zero k)

-- the upper bits of a number
pub take-bits : (j k x : ℕ) → take j (bits (j + k) x) ≡ bits j (x / 2 ^ k)
take-bits j k x = rw (bits-append j k x) (take_at (bits j (x / 2 ^ k)) (bits k x) j (length-bits j (x / 2 ^ k)))

bits-one : (k : ℕ) → bits (suc k) (2 ^ k) ≡ true ∷ replicate k false
unfolding bits
bits-one k =
    rw (div_self (pow_pos k))
    (ap (λ (l : List Bool). true ∷ l) (bits-low k (2 ^ k) 0 (mod_self (2 ^ k) ∙ sym (zero-mod (2 ^ k))) ∙ bits-zero k))

-- the upper j bits of x, then a 1 bit, then k zeros
pub bits-closed : (j k x : ℕ) →
    bits (j + suc k) (x / 2 ^ suc k * 2 ^ suc k + 2 ^ k) ≡ take j (bits (j + suc k) x) ++ (true ∷ replicate k false)
bits-closed j k x =
    let q = x / 2 ^ suc k in
    let h : 2 ^ k < 2 ^ suc k = pow-lt (lt-suc_self k) in
    bits-append j (suc k) (q * 2 ^ suc k + 2 ^ k)
    ∙ ap₂ (λ (a b : List Bool). a ++ b)
    (ap (bits j) (high q (suc k) h) ∙ sym (take-bits j (suc k) x))
    (bits-low (suc k) (q * 2 ^ suc k + 2 ^ k) (2 ^ k) (low q (suc k) h ∙ sym (mod-eq_of_lt h)) ∙ bits-one k)

-- ---- bytes

pub length-bits_of : (xs : List ℕ) → length (bits_of xs) ≡ 8 * length xs
unfolding bits_of
length-bits_of [] = refl
length-bits_of (x ∷ xs) = rw (length-append (bits 8 x) (bits_of xs), length-bits 8 x, length-bits_of xs) (omega arith)

pub bits_of-append : (xs ys : List ℕ) → bits_of (xs ++ ys) ≡ bits_of xs ++ bits_of ys
unfolding bits_of
bits_of-append [] ys = refl
bits_of-append (x ∷ xs) ys = rw (bits_of-append xs ys) (sym (append_assoc (bits 8 x) (bits_of xs) (bits_of ys)))

pub bits_of-zeros : (k : ℕ) → bits_of (replicate k 0) ≡ replicate (8 * k) false
unfolding bits_of
bits_of-zeros zero = refl
bits_of-zeros (suc k) =
    rw (bits-zero 8, bits_of-zeros k, mul-suc 8 k, add_comm (8 * k) 8) (replicate-append-replicate 8 (8 * k) false)

pub bits_of-be : (n x : ℕ) → bits_of (be n x) ≡ bits (8 * n) x
unfolding bits_of be bits
bits_of-be zero x = refl
bits_of-be (suc n) x =
    rw (mul-suc 8 n, add_comm (8 * n) 8, bits-append 8 (8 * n) x, bits_of-be n x, pow-256 n)
    (ap (λ (l : List Bool). l ++ bits (8 * n) x) (bits-mod 8 (x / 2 ^ (8 * n))))

pub value-bits_of : (xs : List ℕ) → Bytes xs → value (bits_of xs) ≡ number xs
unfolding bits_of number value
value-bits_of [] h = refl
value-bits_of (x ∷ xs) h =
    rw (
      value-append (bits 8 x) (bits_of xs),
      value-bits 8 x,
      length-bits_of xs,
      value-bits_of xs (λ i. h (suc i)),
      mod-eq_of_lt (h 0),
      pow-256 (length xs),
    )

-- ---- pieces

pub take-bits_of : (n : ℕ) (xs : List ℕ) → take (8 * n) (bits_of xs) ≡ bits_of (take n xs)
unfolding bits_of bits
take-bits_of zero xs = refl
take-bits_of (suc n) [] = take-nil (8 * suc n)
take-bits_of (suc n) (x ∷ xs) =
    rw (mul-suc 8 n, add_comm (8 * n) 8)
    (take-append-add (bits 8 x) (bits_of xs) (8 * n) ∙ ap (λ (l : List Bool). bits 8 x ++ l) (take-bits_of n xs))

pub drop-bits_of : (n : ℕ) (xs : List ℕ) → drop (8 * n) (bits_of xs) ≡ bits_of (drop n xs)
unfolding bits_of bits
drop-bits_of zero xs = refl
drop-bits_of (suc n) [] = drop-nil (8 * suc n)
drop-bits_of (suc n) (x ∷ xs) =
    rw (mul-suc 8 n, add_comm (8 * n) 8) (drop-append-add (bits 8 x) (bits_of xs) (8 * n) ∙ drop-bits_of n xs)

-- a piece by bytes is a piece by bits
pub pieces-bits_of : (n k : ℕ) (xs : List ℕ) → pieces (8 * n) k (bits_of xs) ≡ map bits_of (pieces n k xs)
unfolding pieces
pieces-bits_of n zero xs = refl
pieces-bits_of n (suc k) xs =
    ap₂ (λ (a : List Bool) (l : List (List Bool)). a ∷ l) (take-bits_of n xs)
    (ap (pieces (8 * n) k) (drop-bits_of n xs) ∙ pieces-bits_of n k (drop n xs))

-- words of n bytes are words of 8 n bits
pub words-bits_of : (n k : ℕ) (xs : List ℕ) → Bytes xs → map value (pieces (8 * n) k (bits_of xs)) ≡ to_words k n xs
unfolding pieces to_words
words-bits_of n zero xs h = refl
words-bits_of n (suc k) xs h =
    ap₂ (λ (a : ℕ) (l : List ℕ). a ∷ l) (ap value (take-bits_of n xs) ∙ value-bits_of (take n xs) (below-take n xs h))
    (ap (λ (m : List Bool). map value (pieces (8 * n) k m)) (drop-bits_of n xs) ∙ words-bits_of n k (drop n xs) (below-drop n xs h))
