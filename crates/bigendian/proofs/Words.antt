-- Laws of `from_words` and `to_words`. Each undoes the other: `to_words-from_words` and `from_words-to_words`.
-- What stands where: `from_words-part`, `get_or-from_words`, `get_or-to_words`; lists and counts split in two: `from_words-append`,
-- `to_words-add`.
use mathlib.Core.Path.{◌≡◌, refl, sym, ◌∙◌, ap, ap₂}
use mathlib.Core.List.{List, [], ◌∷◌, ◌++◌, map, append_assoc, append-nil}
use Prim.Native.Nat.{ℕ, zero, suc, ◌+◌, ◌*◌, ◌/◌, ◌%◌, ◌^◌, ◌<◌, ◌≤◌}
use native.Mathlib.Nat.{zero-add, add_comm, suc-add, zero-mul, suc-mul, lt_of_lt_of_le, pow-le-pow_right, mod-eq_of_lt, mod-lt}
use native.Mathlib.Nat.{div-add-mod', div-lt_iff_lt-mul, min-le_left, mul-zero, zero-lt-suc}
use native.Mathlib.Nat.{le_of_eq, le_trans, min-eq_left, min-le_right, le-div_iff_mul-le, div-mul-le_self, mul-le-mul_right}
use native.Mathlib.Omega.{arith}
use lib.Dec.{lit<}
use lib.ListN.{length, get_or, take, drop, length-append, length-take, length-drop, drop_of_length-le}
use lib.Seq.{take_at, drop_at, take-add, drop-drop, take-append-le, drop-append-le, get_or-take, get_or-drop}
use lib.Seq.{length-take-le, take_all, take-suc, take-length}
use Rattle.slices.proofs.Below.{below-nil, below-cons, below-append, below-take, below-drop}
use Rattle.bigendian.proofs.BigEndian.{length-be, be-bytes, number-be-lt, be-number, number_lt, pow-256-pos}
use Rattle.bigendian.specs.BigEndian.{be, number, word64}
use Rattle.slices.specs.Below.{Below, Bytes}
use Rattle.bigendian.specs.Words.{from_words, to_words, fitting, with_words}

-- ---- words to bytes

pub length-from_words : (n : ℕ) (ws : List ℕ) → length (from_words n ws) ≡ length ws * n
unfolding from_words
length-from_words n [] = sym (zero-mul n)
length-from_words n (w ∷ ws) =
    rw (length-append (be n w) (from_words n ws), length-be n w, length-from_words n ws, suc-mul) (add_comm n (length ws * n))

pub from_words-append : (n : ℕ) (xs ys : List ℕ) → from_words n (xs ++ ys) ≡ from_words n xs ++ from_words n ys
unfolding from_words
from_words-append n [] ys = refl
from_words-append n (x ∷ xs) ys = rw (from_words-append n xs ys, append_assoc)

pub from_words-take-suc : (n : ℕ) (ws : List ℕ) (i : ℕ) → i < length ws →
    from_words n (take (suc i) ws) ≡ from_words n (take i ws) ++ be n (get_or ws i 0)
unfolding from_words
from_words-take-suc n ws i h = rw (take-suc ws i 0 h, from_words-append n (take i ws) (get_or ws i 0 ∷ []), append-nil)

pub from_words-bytes : (n : ℕ) (ws : List ℕ) → Bytes (from_words n ws)
unfolding from_words
from_words-bytes n [] = below-nil 256 (lit< tt)
from_words-bytes n (w ∷ ws) = below-append (be n w) (from_words n ws) (be-bytes n w) (from_words-bytes n ws)

-- the bytes of the word at place i
pub from_words-part : (n : ℕ) (ws : List ℕ) (i : ℕ) → i < length ws → take n (drop (i * n) (from_words n ws)) ≡ be n (get_or ws i 0)
unfolding from_words
from_words-part n [] i h = absurd (omega arith)
from_words-part n (w ∷ ws) zero h = rw zero-mul (take_at (be n w) (from_words n ws) n (length-be n w))
from_words-part n (w ∷ ws) (suc i) h =
    rw (
      suc-mul i n,
      add_comm (i * n) n,
      ← drop-drop (i * n) n (be n w ++ from_words n ws),
      drop_at (be n w) (from_words n ws) n (length-be n w),
    )
    (from_words-part n ws i (omega arith))

get_or-word : (n : ℕ) (ws : List ℕ) (i j : ℕ) → i < length ws → j < n → get_or (from_words n ws) (i * n + j) 0 ≡ get_or
    (be n (get_or ws i 0)) j 0
get_or-word n ws i j h p =
    sym (get_or-drop (i * n) (from_words n ws) j 0)
    ∙ sym (get_or-take n (drop (i * n) (from_words n ws)) j 0 p)
    ∙ ap (λ (l : List ℕ). get_or l j 0) (from_words-part n ws i h)

factor-pos : (m n : ℕ) {k : ℕ} → k < m * n → zero < n
factor-pos m zero h = absurd (omega (arith, mul-zero m))
factor-pos m (suc n) h = zero-lt-suc n

-- byte k lies in word k / n, and is its byte k % n from the most significant
pub get_or-from_words : (n : ℕ) (ws : List ℕ) (k : ℕ) → k < length ws * n →
    get_or (from_words n ws) k 0 ≡ get_or (be n (get_or ws (k / n) 0)) (k % n) 0
get_or-from_words n ws k h =
    let p : zero < n = factor-pos (length ws) n h in
    ap (λ (j : ℕ). get_or (from_words n ws) j 0) (sym (div-add-mod' k n))
    ∙ get_or-word n ws (k / n) (k % n) ((div-lt_iff_lt-mul p).1 h) (mod-lt k p)

-- ---- bytes to words

pub length-to_words : (k n : ℕ) (bs : List ℕ) → length (to_words k n bs) ≡ k
unfolding to_words
length-to_words zero n bs = refl
length-to_words (suc k) n bs = ap suc (length-to_words k n (drop n bs))

number-front : (n : ℕ) (bs : List ℕ) → Bytes bs → number (take n bs) < 256 ^ n
number-front n bs h =
    lt_of_lt_of_le (number_lt (take n bs) (below-take n bs h))
    (pow-le-pow_right (lit< tt) (simp length-take (min-le_left n (length bs))))

pub to_words-below : (k n : ℕ) (bs : List ℕ) → Bytes bs → Below (256 ^ n) (to_words k n bs)
unfolding to_words
to_words-below zero n bs h = below-nil (256 ^ n) (pow-256-pos n)
to_words-below (suc k) n bs h =
    below-cons (to_words k n (drop n bs)) (number-front n bs h) (to_words-below k n (drop n bs) (below-drop n bs h))

pub to_words-add : (j k n : ℕ) (bs : List ℕ) → to_words (j + k) n bs ≡ to_words j n bs ++ to_words k n (drop (j * n) bs)
unfolding to_words
to_words-add zero k n bs = rw (zero-add, zero-mul)
to_words-add (suc j) k n bs =
    rw (suc-add j k, suc-mul j n, add_comm (j * n) n, ← drop-drop (j * n) n bs, to_words-add j k n (drop n bs))

-- bytes past those of the k words do not count
pub to_words-front : (k n : ℕ) (xs ys : List ℕ) → k * n ≤ length xs → to_words k n (xs ++ ys) ≡ to_words k n xs
unfolding to_words
to_words-front zero n xs ys h = refl
to_words-front (suc k) n xs ys h =
    let e = suc-mul k n in
    rw (take-append-le n xs ys (omega arith), drop-append-le n xs ys (omega arith))
    (ap (λ (l : List ℕ). number (take n xs) ∷ l) (to_words-front k n (drop n xs) ys (simp length-drop (omega arith))))

pub get_or-to_words : (k n : ℕ) (bs : List ℕ) (i : ℕ) → i < k → get_or (to_words k n bs) i 0 ≡ number (take n (drop (i * n) bs))
unfolding to_words
get_or-to_words zero n bs i h = absurd (omega arith)
get_or-to_words (suc k) n bs zero h = rw zero-mul
get_or-to_words (suc k) n bs (suc i) h =
    rw (suc-mul i n, add_comm (i * n) n, ← drop-drop (i * n) n bs) (get_or-to_words k n (drop n bs) i (omega arith))

-- words of up to eight bytes are words of 64 bits
pub to_words-word64 : (k n : ℕ) (bs : List ℕ) → Bytes bs → n ≤ 8 → map word64 (to_words k n bs) ≡ to_words k n bs
unfolding to_words
to_words-word64 zero n bs h p = refl
to_words-word64 (suc k) n bs h p =
    rw (
      mod-eq_of_lt (lt_of_lt_of_le (number-front n bs h) (pow-le-pow_right {n = 256} (lit< tt) p)),
      to_words-word64 k n (drop n bs) (below-drop n bs h) p,
    )

-- ---- there and back

pub to_words-from_words : (n : ℕ) (ws : List ℕ) → Below (256 ^ n) ws → to_words (length ws) n (from_words n ws) ≡ ws
unfolding to_words from_words
to_words-from_words n [] h = refl
to_words-from_words n (w ∷ ws) h =
    rw (
      take_at (be n w) (from_words n ws) n (length-be n w),
      drop_at (be n w) (from_words n ws) n (length-be n w),
      number-be-lt n w (h 0),
      to_words-from_words n ws (λ i. h (suc i)),
    )

pub from_words-to_words : (k n : ℕ) (bs : List ℕ) → Bytes bs → k * n ≤ length bs → from_words n (to_words k n bs) ≡ take (k * n) bs
unfolding to_words from_words
from_words-to_words zero n bs h p = rw zero-mul
from_words-to_words (suc k) n bs h p =
    let e = suc-mul k n in
    let l : length (take n bs) ≡ n = length-take-le n bs (omega arith) in
    rw (suc-mul k n, add_comm (k * n) n, take-add n (k * n) bs)
    (ap₂ (λ (x y : List ℕ). x ++ y)
    (ap (λ (m : ℕ). be m (number (take n bs))) (sym l) ∙ be-number (take n bs) (below-take n bs h))
    (from_words-to_words k n (drop n bs) (below-drop n bs h) (simp length-drop (omega arith))))

pub from_words-to_words-all : (k n : ℕ) (bs : List ℕ) → Bytes bs → length bs ≡ k * n → from_words n (to_words k n bs) ≡ bs
from_words-to_words-all k n bs h e = from_words-to_words k n bs h (omega arith) ∙ take_all (k * n) bs (omega arith)

-- what `put_words` wrote, `get_words` reads
pub to_words-back : (n : ℕ) (ws rest : List ℕ) → Below (256 ^ n) ws → to_words (length ws) n (from_words n ws ++ rest) ≡ ws
to_words-back n ws rest h =
    to_words-front (length ws) n (from_words n ws) rest (le_of_eq (sym (length-from_words n ws))) ∙ to_words-from_words n ws h

-- ---- words written over bytes

pub fitting-le : (n : ℕ) (ws bs : List ℕ) → fitting n ws bs * n ≤ length bs
fitting-le n ws bs = le_trans (mul-le-mul_right n (min-le_right (length ws) (length bs / n))) (div-mul-le_self (length bs) n)

-- where there is room for all
pub with_words-room : (n : ℕ) (ws bs : List ℕ) → zero < n → length ws * n ≤ length bs →
    with_words n ws bs ≡ from_words n ws ++ drop (length ws * n) bs
unfolding with_words
with_words-room n ws bs p h =
    let e : fitting n ws bs ≡ length ws = min-eq_left ((le-div_iff_mul-le p).1 h) in
    rw (e, take-length ws)

-- and no more
pub with_words-all : (n : ℕ) (ws bs : List ℕ) → zero < n → length bs ≡ length ws * n → with_words n ws bs ≡ from_words n ws
with_words-all n ws bs p e =
    with_words-room n ws bs p (omega arith) ∙ rw (drop_of_length-le bs {i = length ws * n} (omega arith), append-nil)

pub length-with_words : (n : ℕ) (ws bs : List ℕ) → length (with_words n ws bs) ≡ length bs
unfolding with_words
length-with_words n ws bs =
    let m = fitting n ws bs in
    let l : length (from_words n (take m ws)) ≡ m * n =
    length-from_words n (take m ws) ∙ rw (length-take-le m ws (min-le_left (length ws) (length bs / n))) in
    simp (length-append, length-drop, l) (omega (arith, fitting-le n ws bs))
