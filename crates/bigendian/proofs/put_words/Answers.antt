-- `bigendian::put_words` meets its contract. The invariant: of the words that find room the first i stand at the front of d, in `at` bytes,
-- the rest of d is as it was, and there is room for those that are left.
use mathlib.Core.Path.{◌≡◌, refl, sym, ◌∙◌, ap}
use mathlib.Core.List.{List, ◌++◌}
use Prim.Native.Nat.{ℕ, suc, ◌+◌, ◌-◌, ◌*◌, ◌<◌, ◌≤◌}
use native.Mathlib.Nat.{add-sub_cancel_left, suc-mul, zero-mul, sub-zero, zero-add, min-le_left}
use native.Mathlib.Numerals.{add-one}
use native.Mathlib.Omega.{arith}
use lib.ListN.{length, get_or, take, drop, length-append, length-take, length-drop}
use lib.Seq.{length-take-le, take_all}
use Rattle.bigendian.specs.BigEndian.{be}
use Rattle.bigendian.specs.Words.{from_words, fitting, with_words}
use Rattle.slices.proofs.Parts.{part-joins}
use Rattle.bigendian.proofs.Words.{length-from_words, from_words-take-suc, fitting-le}
use Rattle.bigendian.proofs.put_words.Goals as goal
use Rattle.bigendian.proofs.put_words.Invariants.{Written}

-- those that find room
some : (d₀ words : List ℕ) (n m : ℕ) → m ≡ fitting n words d₀ → length (take m words) ≡ m
some d₀ words n m e = length-take-le m words (rw e (min-le_left (length words) _))

start : (d₀ words : List ℕ) (n m : ℕ) → m ≡ fitting n words d₀ → Written d₀ (take m words) n d₀ 0 0
unfolding from_words
start d₀ words n m e = record {
  within = omega arith;
  place = sym (zero-mul n);
  space = rw (zero-add, sub-zero, some d₀ words n m e, e) (fitting-le n words d₀);
  bytes = refl;
}

one_less : (m i n : ℕ) → i < m → (m - i) * n ≡ (m - (i + 1)) * n + n
one_less m i n h =
    let e : m - i ≡ suc (m - (i + 1)) = omega arith in
    rw e (suc-mul (m - (i + 1)) n)

module _ (d₀ ws : List ℕ) (n : ℕ) (d : List ℕ) (at i : ℕ) (f : Written d₀ ws n d at i) where
  front_length : length (from_words n (take i ws)) ≡ at
  front_length = length-from_words n (take i ws) ∙ rw (length-take-le i ws (omega arith), f.place)

  size : length d ≡ length d₀
  size = ap length f.bytes ∙ simp (length-append, length-drop, front_length) (omega (arith, f.space))

  next : i < length ws → at + n + (length ws - (i + 1)) * n ≤ length d₀
  next h = omega (arith, one_less (length ws) i n h, f.space)

  part_length : i < length ws → length (take (at + n - at) (drop at d)) ≡ n
  part_length h = simp (add-sub_cancel_left, length-take, length-drop) (omega (arith, size, next h))

  -- one word more
  turn : (ys : List ℕ) → i < length ws → ys ≡ be (length (take (at + n - at) (drop at d))) (get_or ws i 0) →
      Written d₀ ws n (take at d ++ (ys ++ drop (at + n - at) (drop at d))) (at + n) (i + 1)
  turn ys h e =
      let w = get_or ws i 0 in
      let front = from_words n (take i ws) in
      let y : ys ≡ be n w = e ∙ ap (λ (k : ℕ). be k w) (part_length h) in
      record {
        within = omega arith;
        place = rw (add-one, suc-mul i n) (ap (λ (k : ℕ). k + n) f.place);
        space = next h;
        bytes =
            rw (y, f.bytes, add-one)
            (part-joins front (be n w) d₀ at n front_length ∙ rw (from_words-take-suc n ws i (omega arith)));
      }

  whole : (words : List ℕ) (m : ℕ) → ws ≡ take m words → m ≡ fitting n words d₀ → length ws ≤ i → d ≡ with_words n words d₀
  unfolding with_words
  whole words m is e h =
      let k : i ≡ fitting n words d₀ = omega (arith, ap length is, some d₀ words n m e, f.within) in
      f.bytes ∙ rw (take_all i ws h, f.place, is, k, e)

pub loop-word-init : goal.loop-word-init
loop-word-init c = start _ _ _ _ c.room-m.ensures

pub overflow_add-end : goal.overflow_add-end
overflow_add-end c = omega (arith, next _ _ _ _ _ _ c.loop-word.invariant c.loop-word-test.true)

pub slice_bounds-put-end : goal.slice_bounds-put-end
slice_bounds-put-end c = let f = c.loop-word.invariant in
    omega (arith, next _ _ _ _ _ _ f c.loop-word-test.true, size _ _ _ _ _ _ f)

pub loop-word-preserved : goal.loop-word-preserved
loop-word-preserved c = let l = c.loop-word in
    turn _ _ _ l.d l.at l.word-index l.invariant c.put.new.d
    c.loop-word-test.true c.put.ensures

pub shape_of-d : goal.shape_of-d
shape_of-d c = size _ _ _ _ _ _ c.loop-word.invariant

pub returns : goal.returns
returns c = whole _ _ _ _ _ _ c.loop-word.invariant _ _ refl c.room-m.ensures c.loop-word-test.false
