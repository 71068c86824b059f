-- Words read from bytes one after the other: after i words these and the words of what is left are all, `Read`; none yet, `read_none`, one
-- more, `read_more`, and all that have places, with those behind them, `read_all`. `Ahead`: the bytes have the next words whole.
use mathlib.Core.Path.{◌≡◌, sym, ◌∙◌, ap}
use mathlib.Core.List.{List, ◌++◌, map}
use Prim.Native.Nat.{ℕ, suc, ◌+◌, ◌-◌, ◌*◌, ◌<◌, ◌≤◌, min}
use native.Mathlib.Nat.{sub-zero, zero-add, suc-mul}
use native.Mathlib.Omega.{arith}
use native.Mathlib.Numerals.{add-one}
use lib.ListN.{length, take, drop, set, length-drop, length-set}
use lib.Seq.{append_snoc, drop-drop, take-suc-set, take_all}
use Rattle.bigendian.specs.BigEndian.{number, word64}
use Rattle.bigendian.specs.Words.{to_words, fitting}
use Rattle.bigendian.proofs.Words.{fitting-le}
use Rattle.slices.proofs.Parts.{take_within, drop-within}

-- k words in all, of which the places of d are to hold the first
pub record Read (k : ℕ) (s : List ℕ) (n : ℕ) (d : List ℕ) (at i : ℕ) : Type 0 where
  pub few : length d ≤ k
  pub inside : at ≤ length s
  pub words : map word64 (to_words k n s) ≡ take i d ++ map word64 (to_words (k - i) n (drop at s))

pub read_none : (k : ℕ) (s : List ℕ) (n : ℕ) (d : List ℕ) → length d ≤ k → Read k s n d 0 0
read_none k s n d h = record { few = h; inside = omega arith; words = rw sub-zero }

-- one word more
pub read_more : (k : ℕ) (s : List ℕ) (n : ℕ) (d : List ℕ) (at i end v : ℕ) → i < length d → end ≡ min (at + n) (length s)
    → v ≡ word64 (number (take (end - at) (drop at s))) → Read k s n d at i → Read k s n (set d i v) end (i + 1)
unfolding to_words
read_more k s n d at i end v h e q f =
    let left : k - i ≡ suc (k - (i + 1)) = omega (arith, f.few) in
    let w : end - at ≡ min n (length (drop at s)) = simp length-drop (omega arith) in
    let z : end ≡ at + (end - at) = omega arith in
    let part : take (end - at) (drop at s) ≡ take n (drop at s) = rw w (take_within n (drop at s)) in
    let rest : drop end s ≡ drop n (drop at s) = rw (z, ← drop-drop (end - at) at s, w) (drop-within n (drop at s)) in
    let word : v ≡ word64 (number (take n (drop at s))) = q ∙ ap (λ (l : List ℕ). word64 (number l)) part in
    record {
      few = simp length-set f.few;
      inside = omega arith;
      words = f.words ∙ rw (left, add-one, take-suc-set d i v h, rest, word, append_snoc);
    }

-- and those that are left, which may be none
pub read_all : (k : ℕ) (s : List ℕ) (n : ℕ) (d : List ℕ) (at i : ℕ) (left : List ℕ) → length d ≤ i →
    left ≡ map word64 (to_words (k - i) n (drop at s)) → Read k s n d at i → d ++ left ≡ map word64 (to_words k n s)
read_all k s n d at i left h e f = sym (f.words ∙ rw (take_all i d h, e))

-- ---- words that the bytes have whole, m of them

-- there is room for those that are left
pub record Ahead (s : List ℕ) (n m at i : ℕ) : Type 0 where
  pub left : i ≤ m
  pub space : at + (m - i) * n ≤ length s

pub ahead-all : (d s : List ℕ) (n m : ℕ) → m ≡ fitting n d s → Ahead s n m 0 0
ahead-all d s n m e = record { left = omega arith; space = rw (zero-add, sub-zero, e) (fitting-le n d s) }

module _ (s : List ℕ) (n m at i : ℕ) (h : i < m) (a : Ahead s n m at i) where
  pub ahead-next : Ahead s n m (at + n) (i + 1)
  ahead-next =
      let e : m - i ≡ suc (m - (i + 1)) = omega arith in
      let one : (m - i) * n ≡ (m - (i + 1)) * n + n = rw e (suc-mul (m - (i + 1)) n) in
      record { left = omega arith; space = omega (arith, a.space) }

  pub ahead-end : at + n ≤ length s
  ahead-end = omega (arith, ahead-next.space)
