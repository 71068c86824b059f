-- Laws of `be` and `number`. Each undoes the other: `number-be` and `be-number`.
-- A list split in two is a number split in two, `number_append` and `be-append`; a number made of bytes is bounded, `number_lt`.
use mathlib.Core.Path.{◌≡◌, refl, sym, ◌∙◌, ap}
use mathlib.Core.List.{List, [], ◌∷◌, ◌++◌}
use Prim.Native.Nat.{ℕ, zero, suc, ◌+◌, ◌-◌, ◌*◌, ◌/◌, ◌%◌, ◌^◌, ◌<◌, ◌≤◌}
use native.Mathlib.Nat.{add_assoc, add_comm, zero-add, suc-add, add-mul, mul_assoc, zero-mul, pow-succ', one-le-pow, mod-lt}
use native.Mathlib.Nat.{mod-eq_of_lt, div-eq_of_lt, div-add-mod', div-div-eq-div-mul, mul-add-div_right, mul-add-mod_self_right}
use native.Mathlib.Nat.{mod-one, mul-suc, pow-suc, zero-div, suc-sub-suc, lt_of_lt_of_le, pow-le-pow_right}
use native.Mathlib.Omega.{arith}
use lib.Arith.{digits_lt, digits_div, mod-mul}
use lib.Dec.{lit<}
use lib.ListN.{length, get_or, replicate, length-append}
use lib.Pow.{pow-add}
use Rattle.slices.proofs.Below.{below-nil, below-cons}
use Rattle.bigendian.specs.BigEndian.{be, number, word64}
use Rattle.slices.specs.Below.{Bytes}

pub pow-256-pos : (n : ℕ) → zero < 256 ^ n
pow-256-pos n = one-le-pow n 256 (lit< tt)

-- n bytes are 8 n bits
pub pow-256 : (n : ℕ) → 256 ^ n ≡ 2 ^ (8 * n)
pow-256 zero = refl
pow-256 (suc n) = rw (pow-suc 256 n, pow-256 n, mul-suc 8 n, pow-add 2 (8 * n) 8)

pub length-be : (n x : ℕ) → length (be n x) ≡ n
unfolding be
length-be zero x = refl
length-be (suc n) x = ap suc (length-be n x)

pub be-bytes : (n x : ℕ) → Bytes (be n x)
unfolding be
be-bytes zero x = below-nil 256 (lit< tt)
be-bytes (suc n) x = below-cons (be n x) (mod-lt (x / 256 ^ n) (lit< tt)) (be-bytes n x)

-- the digits above the last n do not count
pub be-shift : (n q r : ℕ) → be n (q * 256 ^ n + r) ≡ be n r
unfolding be
be-shift zero q r = refl
be-shift (suc n) q r =
    rw (
      pow-succ' 256 n,
      ← mul_assoc q 256 (256 ^ n),
      mul-add-div_right (pow-256-pos n) (q * 256) r,
      mul-add-mod_self_right q 256 (r / 256 ^ n),
      be-shift n (q * 256) r,
    )

pub be-mod : (n x : ℕ) → be n (x % 256 ^ n) ≡ be n x
be-mod n x = sym (be-shift n (x / 256 ^ n) (x % 256 ^ n)) ∙ ap (be n) (div-add-mod' x (256 ^ n))

pub be-append : (n m x : ℕ) → be (n + m) x ≡ be n (x / 256 ^ m) ++ be m x
unfolding be
be-append zero m x = rw zero-add
be-append (suc n) m x =
    rw (suc-add n m, be-append n m x, div-div-eq-div-mul x (256 ^ m) (256 ^ n), ← pow-add 256 m n, add_comm m n)

pub be-zero : (n : ℕ) → be n 0 ≡ replicate n 0
unfolding be
be-zero zero = refl
be-zero (suc n) = rw (zero-div, be-zero n)

-- a small number has zeros in front
pub be-small : (k n x : ℕ) → x < 256 ^ n → be (k + n) x ≡ replicate k 0 ++ be n x
be-small k n x h = be-append k n x ∙ rw (div-eq_of_lt h, be-zero)

pub get_or-be : (n x i : ℕ) → i < n → get_or (be n x) i 0 ≡ x / 256 ^ (n - suc i) % 256
unfolding be
get_or-be zero x i h = absurd (omega arith)
get_or-be (suc n) x zero h = ap (λ (k : ℕ). x / 256 ^ k % 256) (omega arith)
get_or-be (suc n) x (suc i) h = rw (suc-sub-suc n (suc i)) (get_or-be n x i (omega arith))

pub number-be : (n x : ℕ) → number (be n x) ≡ x % 256 ^ n
unfolding be number
number-be zero x = sym (mod-one x)
number-be (suc n) x =
    rw (length-be n x, number-be n x, pow-succ' 256 n) (sym (mod-mul x (lit< tt) (pow-256-pos n)))

pub number-be-lt : (n x : ℕ) → x < 256 ^ n → number (be n x) ≡ x
number-be-lt n x h = number-be n x ∙ mod-eq_of_lt h

pub number_lt : (bs : List ℕ) → Bytes bs → number bs < 256 ^ length bs
unfolding number
number_lt [] h = lit< tt
number_lt (b ∷ bs) h = rw (pow-succ' 256 (length bs)) (digits_lt (h 0) (number_lt bs (λ i. h (suc i))))

pub be-number : (bs : List ℕ) → Bytes bs → be (length bs) (number bs) ≡ bs
unfolding be number
be-number [] h = refl
be-number (b ∷ bs) h =
    rw (digits_div b (number_lt bs (λ i. h (suc i))), mod-eq_of_lt (h 0), be-shift (length bs) b (number bs), be-number bs (λ i. h (suc i)))

pub number_append : (xs ys : List ℕ) → number (xs ++ ys) ≡ number xs * 256 ^ length ys + number ys
unfolding number
number_append [] ys = rw (zero-mul, zero-add)
number_append (x ∷ xs) ys =
    rw (length-append xs ys, pow-add 256 (length xs) (length ys), number_append xs ys, add-mul, mul_assoc, add_assoc)

pub number-zeros : (k : ℕ) (bs : List ℕ) → number (replicate k 0 ++ bs) ≡ number bs
unfolding number
number-zeros zero bs = refl
number-zeros (suc k) bs = rw (zero-mul, zero-add) (number-zeros k bs)

-- Up to eight bytes make a number that a word of 64 bits keeps whole. So the code's `put` and `get` undo each other.
pub word64-number : (bs : List ℕ) → Bytes bs → length bs ≤ 8 → word64 (number bs) ≡ number bs
word64-number bs h p = mod-eq_of_lt (lt_of_lt_of_le (number_lt bs h) (pow-le-pow_right (lit< tt) p))

pub put-get : (n x : ℕ) → 8 ≤ n → x < 2 ^ 64 → word64 (number (be n x)) ≡ x
put-get n x p h = ap word64 (number-be-lt n x (lt_of_lt_of_le h (pow-le-pow_right {n = 256} (lit< tt) p))) ∙ mod-eq_of_lt h

pub get-put : (bs : List ℕ) → Bytes bs → length bs ≤ 8 → be (length bs) (word64 (number bs)) ≡ bs
get-put bs h p = ap (be (length bs)) (word64-number bs h p) ∙ be-number bs h
