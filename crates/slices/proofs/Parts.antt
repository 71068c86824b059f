-- Parts of a list, and a part put back. A part that is to end within the list: `take_within`, `drop-within`, and to its end: `part-all`.
-- With a part put back the length stays, `length-put`, so does what lies before it and behind it, `take_put`, `drop-put`, `part-before` and
-- `part-after`, and the part is the new one, `part-put`; parts put one behind another: `front-put`.
use mathlib.Core.Path.{◌≡◌, refl, sym, ap, ◌∙◌}
use mathlib.Core.List.{List, [], ◌∷◌, ◌++◌, append_assoc}
use Prim.Native.Nat.{ℕ, zero, suc, ◌+◌, ◌-◌, ◌≤◌, min}
use native.Mathlib.Nat.{add-sub_cancel_left, zero-min, min-zero, suc-min-suc}
use native.Mathlib.Omega.{arith}
use lib.ListN.{length, take, drop, length-append, length-take, length-drop, take-append-drop}
use lib.Seq.{take_at, drop_at, take_all, take-take, take-append-le, drop-append-le, take-append-add, drop-drop, length-take-le}
use Rattle.slices.specs.Below.{Below}
use Rattle.slices.specs.Parts.{part, put_part}
use Rattle.slices.proofs.Below.{below-append, below-take, below-drop}

-- ---- parts

pub take_within : (n : ℕ) (l : List ℕ) → take (min n (length l)) l ≡ take n l
take_within zero l = rw zero-min
take_within (suc n) [] = rw min-zero
take_within (suc n) (x ∷ xs) = rw suc-min-suc (ap (λ (l : List ℕ). x ∷ l) (take_within n xs))

pub drop-within : (n : ℕ) (l : List ℕ) → drop (min n (length l)) l ≡ drop n l
drop-within zero l = rw zero-min
drop-within (suc n) [] = rw min-zero
drop-within (suc n) (x ∷ xs) = rw suc-min-suc (drop-within n xs)

-- from a place to the end, as the borrow checker has it
abbrev pub part_to : ℕ → List ℕ → List ℕ
part_to at xs = part xs at (length xs - at)

pub part-all : (at : ℕ) (xs : List ℕ) → part_to at xs ≡ drop at xs
part-all at xs = take_all (length xs - at) (drop at xs) (rw (length-drop at xs) (omega arith))

pub length_part : (at k : ℕ) (xs : List ℕ) → at + k ≤ length xs → length (part xs at k) ≡ k
length_part at k xs h = simp (length-take, length-drop) (omega arith)

-- a part that ends within the front
pub part-front : (at k : ℕ) (xs ys : List ℕ) → at + k ≤ length xs → part (xs ++ ys) at k ≡ part xs at k
part-front at k xs ys h =
    rw (drop-append-le at xs ys (omega arith)) (take-append-le k (drop at xs) ys (rw (length-drop at xs) (omega arith)))

-- ---- a part put back

-- behind a front that is done; on the left, how the borrow checker has the whole with `&mut d[at..at + n]` come back as ys
pub part-joins : (front ys xs : List ℕ) (at n : ℕ) → length front ≡ at →
    put_part at (at + n - at) ys (front ++ drop at xs) ≡ front ++ ys ++ drop (at + n) xs
part-joins front ys xs at n e =
    rw (
      take_at front (drop at xs) at e,
      drop_at front (drop at xs) at e,
      add-sub_cancel_left at n,
      drop-drop n at xs,
      append_assoc front ys (drop (at + n) xs),
    )

-- written one behind another: what is done so far is the front up to the place
pub front-put : (at k : ℕ) (b mid a y z : List ℕ) → take at b ≡ a → length a ≡ at → mid ≡ y ++ z →
    take (at + length y) (put_part at k mid b) ≡ a ++ y
front-put at k b mid a y z is_a long is_mid =
    let tail = drop k (drop at b) in
    rw (is_a, is_mid, append_assoc y z tail)
    (ap (λ (n : ℕ). take (n + length y) (a ++ (y ++ (z ++ tail)))) (sym long)
    ∙ take-append-add a (y ++ (z ++ tail)) (length y)
    ∙ ap (λ (l : List ℕ). a ++ l) (take_at y (z ++ tail) (length y) refl))

pub length-put : (at k : ℕ) (b mid : List ℕ) → length mid ≡ length (part b at k) → length (put_part at k mid b) ≡ length b
length-put at k b mid e = simp (length-append, e, length-take, length-drop) (omega arith)

pub put_same : (at k : ℕ) (xs : List ℕ) → put_part at k (part xs at k) xs ≡ xs
put_same at k xs = rw (take-append-drop k (drop at xs)) (take-append-drop at xs)

pub below_put : {m : ℕ} (at k : ℕ) (new xs : List ℕ) → Below m xs → Below m new → Below m (put_part at k new xs)
below_put at k new xs h n =
    below-append (take at xs) (new ++ drop k (drop at xs)) (below-take at xs h)
    (below-append new (drop k (drop at xs)) n (below-drop k (drop at xs) (below-drop at xs h)))

-- k elements within the list, and as many new ones
module _ (at k : ℕ) (new xs : List ℕ) (fits : length new ≡ k) (inside : at + k ≤ length xs) where
  front_long : length (take at xs) ≡ at
  front_long = length-take-le at xs (omega arith)

  drop-front : drop at (put_part at k new xs) ≡ new ++ drop k (drop at xs)
  drop-front = drop_at (take at xs) (new ++ drop k (drop at xs)) at front_long

  pub length-put-in : length (put_part at k new xs) ≡ length xs
  length-put-in = length-put at k xs new (fits ∙ sym (length_part at k xs inside))

  pub part-put : part (put_part at k new xs) at k ≡ new
  part-put = rw drop-front (take_at new (drop k (drop at xs)) k fits)

  pub take_put : (n : ℕ) → n ≤ at → take n (put_part at k new xs) ≡ take n xs
  take_put n h = take-append-le n (take at xs) (new ++ drop k (drop at xs)) (rw front_long h) ∙ take-take n at xs h

  drop-after : drop (at + k) (put_part at k new xs) ≡ drop (at + k) xs
  drop-after =
      sym (drop-drop k at (put_part at k new xs)) ∙ ap (drop k) drop-front ∙ drop_at new (drop k (drop at xs)) k fits ∙ drop-drop k at xs

  pub drop-put : (n : ℕ) → at + k ≤ n → drop n (put_part at k new xs) ≡ drop n xs
  drop-put n h =
      let m = n - (at + k) in
      let e : n ≡ at + k + m = omega arith in
      rw e (sym (drop-drop m (at + k) (put_part at k new xs)) ∙ ap (drop m) drop-after ∙ drop-drop m (at + k) xs)

  -- a part that ends before it
  pub part-before : (a n : ℕ) → a + n ≤ at → part (put_part at k new xs) a n ≡ part xs a n
  part-before a n h =
      let room : a + n ≤ length (take at xs) = rw front_long h in
      part-front a n (take at xs) (new ++ drop k (drop at xs)) room
      ∙ sym (part-front a n (take at xs) (drop at xs) room)
      ∙ ap (λ (l : List ℕ). part l a n) (take-append-drop at xs)

  -- a part that begins behind it
  pub part-after : (a n : ℕ) → at + k ≤ a → part (put_part at k new xs) a n ≡ part xs a n
  part-after a n h = ap (take n) (drop-put a h)
