-- Laws of the moves of `put`. Entries with their offsets raised: as long as before, `length-raised`; one entry more from the end,
-- `raised-more`; the entries of a list whose names lie farther on, `raise-run`. Entries and names of pairs behind others:
-- `entry_run-append`, `name_run-append`. An entry and a name put in by two slides and two writes: `both-put`.
use mathlib.Core.Bool.{true}
use mathlib.Core.List.{List, [], ◌∷◌, ◌++◌, append_assoc, append-nil}
use mathlib.Core.Path.{◌≡◌, refl, sym, ap, ◌∙◌}
use Prim.Native.Nat.{ℕ, zero, suc, ◌+◌, ◌-◌, ◌*◌, ◌^◌, ◌≤◌, ◌<◌}
use native.Mathlib.Nat.{add_assoc, add-zero, suc-mul, add-sub_cancel_left}
use native.Mathlib.Omega.{arith}
use lib.ListN.{length, take, drop, length-append, length-take, length-drop, take-append-drop}
use lib.Seq.{take_at, drop_at, take-add, drop-drop, length-take-le}
use Rattle.bigendian.specs.BigEndian.{be}
use Rattle.bigendian.specs.Rows.{row_bytes, field_in}
use Rattle.bigendian.proofs.BigEndian.{length-be}
use Rattle.lists.specs.Lists.{Pair, pair_allowed}
use Rattle.lists.specs.Layout.{offset_size, entry_size, entry_bytes, entry_run, name_run, name_offset}
use Rattle.lists.proofs.Written.{AllowedPair, allowed-pair, entry-offset, entry_past}
use Rattle.slices.specs.AtFront.{at_front}
use Rattle.slices.specs.Parts.{part, put_part}
use Rattle.slices.specs.Tests.{every}
use Rattle.slices.proofs.Tests.{cond_both}
use Rattle.slices.proofs.AtFront.{at_front-room}
use Rattle.slices.proofs.Parts.{part_to, part-all, length_part}
use Rattle.writer.specs.Code.Moves.{slid, raised, with_both}

-- ---- offsets raised

pub length-raised : (n size by : ℕ) (xs : List ℕ) → offset_size ≤ size → n * size ≤ length xs → length (raised n size by xs) ≡ length xs
unfolding raised
length-raised zero size by xs p h = refl
length-raised (suc n) size by xs p h =
    let e = suc-mul n size in
    let m : n * size ≤ length (drop size xs) = simp length-drop (omega arith) in
    simp (length-append, length-be, length-take, length-drop, length-raised n size by (drop size xs) p m) (omega arith)

-- the bytes behind the entry at a are done
module _ (a m size by : ℕ) (xs₀ xs : List ℕ) (p : offset_size ≤ size) (h : a + size ≤ length xs₀)
    (done : xs ≡ take (a + size) xs₀ ++ raised m size by (drop (a + size) xs₀)) where
  before : length (take a xs₀) ≡ a
  before = length-take-le a xs₀ (omega arith)

  offset-bytes : List ℕ
  offset-bytes = part xs₀ a offset_size

  rest : List ℕ
  rest = part (drop a xs₀) offset_size (size - offset_size) ++ raised m size by (drop size (drop a xs₀))

  offset-long : length offset-bytes ≡ offset_size
  unfolding offset-bytes
  offset-long = length-take-le offset_size (drop a xs₀) (simp length-drop (omega arith))

  pieces : xs ≡ take a xs₀ ++ (offset-bytes ++ rest)
  unfolding offset-bytes rest
  pieces =
      let k = size - offset_size in
      let s : size ≡ offset_size + k = omega arith in
      let split : take size (drop a xs₀) ≡ part xs₀ a offset_size ++ part (drop a xs₀) offset_size k =
      ap (λ (l : ℕ). take l (drop a xs₀)) s ∙ take-add offset_size k (drop a xs₀) in
      done ∙ rw (take-add a size xs₀, split, ← drop-drop size a xs₀) (simp append_assoc)

  from-there : drop a xs ≡ offset-bytes ++ rest
  from-there = ap (drop a) pieces ∙ drop_at (take a xs₀) (offset-bytes ++ rest) a before

  -- its own offset is as it was
  pub offset-kept : field_in xs a offset_size ≡ name_offset (drop a xs₀)
  unfolding offset-bytes
  offset-kept = rw (from-there, take_at offset-bytes rest offset_size offset-long)

  pub raised-more :
      put_part a offset_size (be offset_size (name_offset (drop a xs₀) + by)) xs ≡ take a xs₀ ++ raised (suc m) size by (drop a xs₀)
  unfolding raised rest
  raised-more =
      rw (from-there, drop_at offset-bytes rest offset_size offset-long, pieces, take_at (take a xs₀) (offset-bytes ++ rest) a before)

-- ---- entries as a list has them

pub name_run-append : (ps qs : List Pair) → name_run (ps ++ qs) ≡ name_run ps ++ name_run qs
unfolding name_run
name_run-append [] qs = refl
name_run-append (p ∷ ps) qs = rw (name_run-append ps qs, append_assoc)

pub entry_run-append : (at : ℕ) (ps qs : List Pair) → entry_run at (ps ++ qs) ≡ entry_run at ps ++ entry_run (at + length (name_run ps)) qs
unfolding entry_run name_run
entry_run-append at [] qs = rw add-zero
entry_run-append at (p ∷ ps) qs =
    let len = length p.name in
    rw (
      entry_run-append (at + len) ps qs,
      append_assoc (entry_bytes at p) (entry_run (at + len) ps),
      length-append p.name (name_run ps),
      add_assoc at len (length (name_run ps)),
    )

-- an entry by its offset and what follows that
abbrev behind_offset : Pair → List ℕ
behind_offset p = be offset_size (length p.name) ++ p.digest

entry-split : (at : ℕ) (p : Pair) → entry_bytes at p ≡ be offset_size at ++ behind_offset p
unfolding entry_bytes row_bytes
entry-split at p = simp (append_assoc, append-nil)

entry-behind : (d at : ℕ) (p : Pair) (rest : List ℕ) → AllowedPair d p →
    part (entry_bytes at p ++ rest) offset_size (entry_size d - offset_size) ≡ behind_offset p
entry-behind d at p rest a =
    let o = be offset_size at in
    let joined : entry_bytes at p ++ rest ≡ o ++ (behind_offset p ++ rest) = rw (entry-split at p) (append_assoc o (behind_offset p) rest)
    in
    let long : length (behind_offset p) ≡ entry_size d - offset_size = simp (length-append, length-be, a.sized) (omega arith) in
    rw (joined, drop_at o (behind_offset p ++ rest) offset_size (length-be offset_size at)) (take_at (behind_offset p) rest _ long)

pub raise-run : (d at by : ℕ) (ps : List Pair) → every (pair_allowed d) ps ≡ true → at + length (name_run ps) + by < 256 ^ offset_size →
    raised (length ps) (entry_size d) by (entry_run at ps) ≡ entry_run (at + by) ps
unfolding raised every entry_run name_run
raise-run d at by [] e h = refl
raise-run d at by (p ∷ ps) e h =
    let t = cond_both (pair_allowed d p) (every (pair_allowed d) ps) e in
    let a = allowed-pair d p t.0 in
    let len = length p.name in
    let tail = entry_run (at + len) ps in
    let l : at + len + length (name_run ps) + by < 256 ^ offset_size = omega (arith, simp length-append at h) in
    let swap : at + len + by ≡ at + by + len = omega arith in
    rw (
      entry-offset d at p tail a (omega arith),
      entry-behind d at p tail a,
      entry_past d at p tail a,
      raise-run d (at + len) by ps t.1 l,
      swap,
      entry-split (at + by) p,
    )
    (sym (append_assoc (be offset_size (at + by)) (behind_offset p) (entry_run (at + by + len) ps)))

-- ---- an entry and a name put in

-- other bytes in the place of b
pub put-over : (a b back xs new : List ℕ) (at k : ℕ) → xs ≡ a ++ (b ++ back) → length a ≡ at → length b ≡ k →
    put_part at k new xs ≡ a ++ (new ++ back)
put-over a b back xs new at k e la lb =
    rw (e, take_at a (b ++ back) at la, drop_at a (b ++ back) at la, drop_at b back k lb)

pub part-there : (a b back xs : List ℕ) (at k : ℕ) → xs ≡ a ++ (b ++ back) → length a ≡ at → length b ≡ k → part xs at k ≡ b
part-there a b back xs at k e la lb = rw (e, drop_at a (b ++ back) at la, take_at b back k lb)

slid-into : (b room : List ℕ) (by : ℕ) → length room ≡ by → slid by (b ++ room) ≡ take by (b ++ room) ++ b
unfolding slid
slid-into b room by e =
    let k : length (b ++ room) - by ≡ length b = simp length-append (omega arith) in
    rw (k, take_at b room (length b) refl)

-- b moved to the end of the room behind it
put-slid : (a b room back xs new : List ℕ) (at k by : ℕ) → xs ≡ a ++ (b ++ (room ++ back)) → length a ≡ at → length room ≡ by →
    k ≡ length b + by → new ≡ slid by (part xs at k) → put_part at k new xs ≡ a ++ (take by (b ++ room) ++ (b ++ back))
put-slid a b room back xs new at k by e la lr lk q =
    let joined : xs ≡ a ++ ((b ++ room) ++ back) = e ∙ simp append_assoc in
    let long : length (b ++ room) ≡ k = simp length-append (omega arith) in
    let is : new ≡ take by (b ++ room) ++ b =
    q ∙ ap (slid by) (part-there a (b ++ room) back xs at k joined la long) ∙ slid-into b room by lr in
    put-over a (b ++ room) back xs new at k joined la long ∙ rw is (simp append_assoc)

-- a name written at the front of all that stands from a place on
put-name : (a b back xs new name : List ℕ) (at : ℕ) → xs ≡ a ++ (b ++ back) → length a ≡ at → length b ≡ length name →
    new ≡ at_front name (part_to at xs) → put_part at (length xs - at) new xs ≡ a ++ (name ++ back)
put-name a b back xs new name at e la lb q =
    let all : xs ≡ a ++ ((b ++ back) ++ []) = e ∙ rw (append-nil (b ++ back)) in
    let long : length (b ++ back) ≡ length xs - at = rw e (simp length-append (omega arith)) in
    let from : part_to at xs ≡ b ++ back = part-all at xs ∙ rw (e, drop_at a (b ++ back) at la) in
    let is : new ≡ name ++ back =
    q ∙ rw from (at_front-room name (b ++ back) (simp length-append (omega arith)) ∙ rw (drop_at b back (length name) lb)) in
    put-over a (b ++ back) [] xs new at (length xs - at) all la long ∙ rw (append-nil new, is)

-- the four steps on a list of five pieces; the new entry has s bytes
module _ (x1 x2 x3 x4 back name entry : List ℕ) (p q w s : ℕ) (xs xs1 xs2 xs3 new1 new2 new3 : List ℕ)
    (is : xs ≡ x1 ++ (x2 ++ (x3 ++ (x4 ++ back)))) (l1 : length x1 ≡ p) (l2 : p + length x2 ≡ q) (l3 : q + length x3 ≡ w)
    (l4 : length x4 ≡ s + length name) (is1 : xs1 ≡ put_part q (w + (s + length name) - q) new1 xs)
    (e1 : new1 ≡ slid (s + length name) (part xs q (w + (s + length name) - q)))
    (is2 : xs2 ≡ put_part (q + s) (length xs1 - (q + s)) new2 xs1) (e2 : new2 ≡ at_front name (part_to (q + s) xs1))
    (is3 : xs3 ≡ put_part p (q + s - p) new3 xs2) (e3 : new3 ≡ slid s (part xs2 p (q + s - p))) where
  -- what stands where the names behind were
  y : List ℕ
  y = take (s + length name) (x3 ++ x4)

  -- what stands where the entries behind and the names between were
  z : List ℕ
  z = take s (x2 ++ take s y)

  y-long : length y ≡ s + length name
  unfolding y
  y-long = simp (length-take, length-append) (omega arith)

  front_long : length (x1 ++ x2) ≡ q
  front_long = simp length-append (omega arith)

  y-front : length (take s y) ≡ s
  y-front = length-take-le s y (omega (arith, y-long))

  after-names : xs1 ≡ ((x1 ++ x2) ++ take s y) ++ (drop s y ++ (x3 ++ back))
  unfolding y
  after-names =
      let grouped : xs ≡ (x1 ++ x2) ++ (x3 ++ (x4 ++ back)) = is ∙ simp append_assoc in
      is1
      ∙ put-slid (x1 ++ x2) x3 x4 back xs new1 q (w + (s + length name) - q) (s + length name) grouped front_long l4 (omega arith) e1
      ∙ ap (λ (l : List ℕ). (x1 ++ x2) ++ (l ++ (x3 ++ back))) (sym (take-append-drop s y))
      ∙ simp append_assoc

  after-name : xs2 ≡ x1 ++ (x2 ++ (take s y ++ (name ++ (x3 ++ back))))
  after-name =
      let long : length ((x1 ++ x2) ++ take s y) ≡ q + s = simp (length-append, y-front) (omega arith) in
      let room : length (drop s y) ≡ length name = simp length-drop (omega (arith, y-long)) in
      is2 ∙ put-name ((x1 ++ x2) ++ take s y) (drop s y) (x3 ++ back) xs1 new2 name (q + s) after-names long room e2 ∙ simp append_assoc

  after-entries : xs3 ≡ x1 ++ (z ++ (x2 ++ (name ++ (x3 ++ back))))
  unfolding z
  after-entries =
      is3 ∙ put-slid x1 x2 (take s y) (name ++ (x3 ++ back)) xs2 new3 p (q + s - p) s after-name l1 y-front (omega arith) e3

  z-long : length z ≡ s
  unfolding z
  z-long = length-take-le s (x2 ++ take s y) (simp (length-append, y-front) (omega arith))

  all-put : put_part p (p + s - p) entry xs3 ≡ x1 ++ (entry ++ (x2 ++ (name ++ (x3 ++ back))))
  all-put =
      let k : length z ≡ p + s - p = z-long ∙ sym (add-sub_cancel_left p s) in
      put-over x1 z (x2 ++ (name ++ (x3 ++ back))) xs3 entry p (p + s - p) after-entries l1 k

cut : (at k to : ℕ) (xs : List ℕ) → at + k ≡ to → drop at xs ≡ part xs at k ++ drop to xs
cut at k to xs e =
    sym (take-append-drop k (drop at xs)) ∙ ap (λ (l : List ℕ). part xs at k ++ l) (drop-drop k at xs ∙ ap (λ (n : ℕ). drop n xs) e)

-- the same on any bytes that have room, step by step as the parts come back
pub both-put : (p q w s : ℕ) (name entry xs new1 new2 new3 new4 : List ℕ) → p ≤ q → q ≤ w → w + s + length name ≤ length xs →
    length entry ≡ s → new1 ≡ slid (s + length name) (part xs q (w + (s + length name) - q)) →
    let xs1 = put_part q (w + (s + length name) - q) new1 xs in
    new2 ≡ at_front name (part_to (q + s) xs1) →
    let xs2 = put_part (q + s) (length xs1 - (q + s)) new2 xs1 in
    new3 ≡ slid s (part xs2 p (q + s - p)) →
    new4 ≡ entry → put_part p (p + s - p) new4 (put_part p (q + s - p) new3 xs2) ≡ with_both p entry q name w xs
unfolding with_both
both-put p q w s name entry xs new1 new2 new3 new4 a b c d e1 e2 e3 e4 =
    let m = s + length name in
    let pieces : xs ≡ take p xs ++ (part xs p (q - p) ++ (part xs q (w - q) ++ (part xs w m ++ drop (w + m) xs))) =
    sym (take-append-drop p xs)
    ∙ ap (λ (l : List ℕ). take p xs ++ l)
    (cut p (q - p) q xs (omega arith)
    ∙ ap (λ (l : List ℕ). part xs p (q - p) ++ l)
    (cut q (w - q) w xs (omega arith) ∙ ap (λ (l : List ℕ). part xs q (w - q) ++ l) (cut w m (w + m) xs refl))) in
    let n : w + length entry + length name ≡ w + m = omega arith in
    rw (e4, n)
    (all-put (take p xs) (part xs p (q - p)) (part xs q (w - q)) (part xs w m) (drop (w + m) xs) name entry p q w s xs _ _ _ new1 new2 new3
    pieces (length-take-le p xs (omega arith))
    (rw (length_part p (q - p) xs (omega arith)) (omega arith))
    (rw (length_part q (w - q) xs (omega arith)) (omega arith))
    (length_part w m xs (omega arith))
    refl e1 refl e2 refl e3)
