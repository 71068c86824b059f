-- Loading: a word is the number of its bytes, and a block is its words, each taken one more at a time.
-- Main statements: `four-bytes` and `eight-bytes`, a word loaded, and `words_more`, one word more of a block.
use Prim.Native.Nat.{ℕ, zero, suc, ◌+◌, ◌*◌, ◌^◌, ◌≤◌, ◌<◌}
use mathlib.Core.List.{List, [], ◌∷◌, ◌++◌}
use mathlib.Core.Path.{◌≡◌, refl, ap, ◌∙◌}
use native.Mathlib.Nat.{mul_assoc, mul-suc, mul-zero, add_comm, pow-suc}
use native.Mathlib.Numerals.{add-one}
use native.Mathlib.Omega.{arith}
use lib.ListN.{length, get_or, set, take, drop, length-append}
use lib.Seq.{take-suc, take_all, drop-drop}
use Rattle.std.specs.Int.{w32, w64, from_be_bytes}
use Rattle.bigendian.specs.BigEndian.{number}
use Rattle.bigendian.specs.Words.{to_words}
use Rattle.slices.proofs.Fill.{Filled, fill_more}

-- ---- a word

pub number-snoc : (bs : List ℕ) (b : ℕ) → number (bs ++ (b ∷ [])) ≡ number bs * 256 + b
unfolding number
number-snoc [] b = omega arith
number-snoc (x ∷ bs) b =
    rw (number-snoc bs b, length-append bs (b ∷ []), add-one (length bs), pow-suc 256 (length bs), ← mul_assoc x (256 ^ length bs) 256)
    (omega arith)

-- the library reads a word's bytes as `number` does
module _ (bs : List ℕ) where
  none : number (take 0 bs) ≡ 0
  unfolding number
  none = refl

  one-more : (i : ℕ) → i < length bs → number (take (suc i) bs) ≡ number (take i bs) * 256 + get_or bs i 0
  one-more i h = rw (take-suc bs i 0 h, number-snoc)

  pub four-bytes : length bs ≡ 4 → from_be_bytes w32 bs ≡ number bs
  four-bytes e =
      let byte : (i : ℕ) → i < 4 → number (take (suc i) bs) ≡ number (take i bs) * 256 + get_or bs i 0 = λ i h. one-more i (omega arith) in
      let all : number (take 4 bs) ≡ number bs = rw (take_all 4 bs (omega arith)) in
      omega (arith, none, byte 0 (omega arith), byte 1 (omega arith), byte 2 (omega arith), byte 3 (omega arith), all)

  pub eight-bytes : length bs ≡ 8 → from_be_bytes w64 bs ≡ number bs
  eight-bytes e =
      let byte : (i : ℕ) → i < 8 → number (take (suc i) bs) ≡ number (take i bs) * 256 + get_or bs i 0 = λ i h. one-more i (omega arith) in
      let all : number (take 8 bs) ≡ number bs = rw (take_all 8 bs (omega arith)) in
      omega (
        arith,
        none,
        byte 0 (omega arith),
        byte 1 (omega arith),
        byte 2 (omega arith),
        byte 3 (omega arith),
        byte 4 (omega arith),
        byte 5 (omega arith),
        byte 6 (omega arith),
        byte 7 (omega arith),
        all,
      )

-- ---- a block

pub to_words-snoc : (k n : ℕ) (s : List ℕ) → to_words (suc k) n s ≡ to_words k n s ++ (number (take n (drop (n * k) s)) ∷ [])
unfolding to_words
to_words-snoc zero n s = rw (mul-zero n)
to_words-snoc (suc k) n s =
    ap (λ (ws : List ℕ). number (take n s) ∷ ws)
    (to_words-snoc k n (drop n s) ∙ rw (drop-drop (n * k) n s, mul-suc n k, add_comm (n * k) n))

-- a store of the next word
pub words_more : (n : ℕ) (s : List ℕ) {size t x : ℕ} {w : List ℕ} → t < 16 → 16 ≤ size → x ≡ number (take n (drop (n * t) s))
    → Filled size 16 (λ k. to_words k n s) w t → Filled size 16 (λ k. to_words k n s) (set w t x) (t + 1)
words_more n s {t = t} {x = x} h k e f = fill_more x h k (rw (e, to_words-snoc t n s)) f
