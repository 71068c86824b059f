-- `bigendian::rows::put_row` meets its contract. The invariant: what is to be there in the end is what stands in front of `at`, and what
-- the sizes and values that are left make of the rest.
use mathlib.Core.Logic.{◌⊎◌, inl, inr}
use mathlib.Core.Path.{◌≡◌, refl, sym, ◌∙◌, ap}
use mathlib.Core.List.{List, [], ◌∷◌, ◌++◌, append_assoc}
use Prim.Native.Nat.{ℕ, ◌+◌, ◌-◌, ◌<◌, ◌≤◌}
use native.Mathlib.Nat.{add-sub_cancel_left}
use native.Mathlib.Omega.{arith}
use lib.ListN.{length, take, drop, length-append, length-take, length-drop, take-append-drop}
use lib.Seq.{take_at, drop_at}
use borrow.Author.Tests.{lt-ltb, le-ltb}
use Rattle.std.proofs.lemmas.Slice.Zip.{either_empty_from_Zip}
use Rattle.bigendian.specs.BigEndian.{be}
use Rattle.bigendian.specs.Code.PutRow.{put_row}
use Rattle.bigendian.proofs.BigEndian.{length-be}
use Rattle.bigendian.proofs.rows.put_row.Goals as goal
use Rattle.bigendian.proofs.rows.put_row.Invariants.{Written}

-- ---- the definition, step by step

put_full : (n x : ℕ) (ns xs bs : List ℕ) → length bs < n → put_row (n ∷ ns) (x ∷ xs) bs ≡ bs
unfolding put_row
put_full n x ns xs bs full = rw (lt-ltb (length bs) n full)

put-more : (n x : ℕ) (ns xs bs : List ℕ) → n ≤ length bs → put_row (n ∷ ns) (x ∷ xs) bs ≡ be n x ++ put_row ns xs (drop n bs)
unfolding put_row
put-more n x ns xs bs room = rw (le-ltb (length bs) n room)

put-end : (ns xs bs : List ℕ) → (ns ≡ []) ⊎ (xs ≡ []) → put_row ns xs bs ≡ bs
unfolding put_row
put-end ns xs bs (inl e) = rw e
put-end [] xs bs (inr e) = refl
put-end (n ∷ ns) xs bs (inr e) = rw e

-- ---- the loop

start : (ns xs d : List ℕ) → Written (put_row ns xs d) ns xs d 0
start ns xs d = record { within = omega arith; all = refl }

-- no field more
whole : (w ns xs d : List ℕ) (at : ℕ) → Written w ns xs d at → (ns ≡ []) ⊎ (xs ≡ []) → d ≡ w
whole w ns xs d at f none = sym (f.all ∙ rw (put-end ns xs (drop at d) none) (take-append-drop at d))

module _ (w ns xs d : List ℕ) (at n x : ℕ) (f : Written w (n ∷ ns) (x ∷ xs) d at) where
  -- no room for the next field
  full : length d - at < n → d ≡ w
  full p =
      let q : length (drop at d) < n = simp length-drop p in
      sym (f.all ∙ rw (put_full n x ns xs (drop at d) q) (take-append-drop at d))

  -- one field more
  turn : (ys : List ℕ) → n ≤ length d - at → ys ≡ be (length (take (at + n - at) (drop at d))) x →
      Written w ns xs (take at d ++ (ys ++ drop (at + n - at) (drop at d))) (at + n)
  turn ys room e =
      let rest = drop n (drop at d) in
      let front = take at d ++ be n x in
      let part : length (take (at + n - at) (drop at d)) ≡ n =
      simp (add-sub_cancel_left, length-take, length-drop) (omega (arith, f.within)) in
      let bytes : ys ≡ be n x = e ∙ ap (λ (k : ℕ). be k x) part in
      let drops = add-sub_cancel_left at n in
      let joined : take at d ++ (ys ++ drop (at + n - at) (drop at d)) ≡ front ++ rest = rw (bytes, drops, append_assoc) in
      let long : length front ≡ at + n = simp (length-append, length-take, length-be) (omega (arith, f.within)) in
      let more = put-more n x ns xs (drop at d) (simp length-drop room) in
      record {
        within = rw joined (simp (length-append, length-take, length-be, length-drop) (omega (arith, f.within)));
        all = f.all ∙ rw (joined, take_at front rest (at + n) long, drop_at front rest (at + n) long, more, append_assoc);
      }

pub loop-size-init : goal.loop-size-init
loop-size-init c =
    rw (
      c.into_iter-size-iterator.ensures.into_iter_gives,
      c.zip-size-items.ensures.first,
      c.zip-size-items.ensures.second.0,
      c.iter.ensures.rest,
    )
    (start _ _ _)

pub loop-size-preserved : goal.loop-size-preserved
loop-size-preserved c = let e = c.in-Some.ensures.steps in
    turn _ _ _ _ _ _ _ (rw (e.0, e.1) at c.loop-size.invariant) c.put.new.d c.if-d-at.false c.put.ensures

pub returns-then-d-at : goal.returns-then-d-at
returns-then-d-at c = let e = c.in-Some.ensures.steps in
    full _ _ _ _ _ _ _ (rw (e.0, e.1) at c.loop-size.invariant) c.if-d-at.true

pub returns : goal.returns
returns c =
    whole _ _ _ _ _ c.loop-size.invariant
    (either_empty_from_Zip c.loop-size.size-iterator c.next.new.self _ c.in-None.is c.next.ensures.steps)
