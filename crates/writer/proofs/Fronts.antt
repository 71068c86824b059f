-- What is at the front of a buffer: a list that was written there is found again, `front_of`, and where there can be none: `short-front`,
-- `past-front`, `low-front`. What a start and a put leave there that are done: `start-front`, `put_front`, which is a list again, of the
-- same length in all, the rest of the buffer as it was. `CanPut` has what is known of a put that is done, and by `put-done` it then is.
use mathlib.Core.Bool.{true, false}
use mathlib.Core.List.{List, ◌++◌}
use mathlib.Core.Path.{◌≡◌, refl, sym, ap, ◌∙◌}
use Prim.Native.Nat.{ℕ, ◌+◌, ◌-◌, ◌<◌, ◌≤◌}
use native.Mathlib.Nat.{zero-mul}
use native.Mathlib.Omega.{arith}
use borrow.Author.Tests.{ltb-false, leb-false, eqb-true, not-false, le-ltb, lt-leb, eq-eqb}
use lib.ListN.{length, drop, length-append, length-take, take-append-drop}
use lib.Seq.{take_at, drop-append-add, drop-drop}
use Rattle.answers.specs.Judged.{Test, Judged, first, after}
use Rattle.answers.proofs.Tests.{passed}
use Rattle.bigendian.specs.BigEndian.{number}
use Rattle.bigendian.specs.Rows.{field_in}
use Rattle.fips.specs.Editions.{known, digest_bytes}
use Rattle.slices.specs.Below.{Bytes}
use Rattle.slices.specs.Tests.{holds, every}
use Rattle.slices.proofs.AtFront.{length-at_front, at_front-room}
use Rattle.slices.proofs.Parts.{drop-within, part-front}
use Rattle.slices.proofs.Tests.{below-all_below}
use Rattle.lists.specs.Calls.{listed}
use Rattle.lists.specs.Layout.{offset_size, whole_field_at, entries_at, entry_size, name_run, whole_length, list_bytes, edition_in}
use Rattle.lists.specs.Layout.{digest_size_in}
use Rattle.lists.specs.Layout.{read_list, accepted}
use Rattle.lists.specs.Lists.{DigestList, most_entries, name_allowed, pair_allowed, ascending, valid}
use Rattle.lists.proofs.ByRules.{accepted-header}
use Rattle.lists.proofs.Lists.{list_bytes-accepted, accepted-valid, accepted-bytes, read-list}
use Rattle.lists.proofs.Written.{valid-list, list_length, list-edition}
use Rattle.writer.specs.Writing.{pair, empty_list, start_tests, started, front_list, with_pair, put_tests, put_in}
use Rattle.writer.proofs.Inserted.{refuted, list-valid, inserted-valid, whole-inserted}

-- ---- a list and what lies behind it

-- a length field stands in a header, whatever lies behind it
whole-field-front : (bs rest : List ℕ) → entries_at ≤ length bs →
    field_in (bs ++ rest) whole_field_at offset_size ≡ field_in bs whole_field_at offset_size
whole-field-front bs rest h = ap number (part-front whole_field_at offset_size bs rest (omega arith))

pub front-accepted : (bs rest : List ℕ) → accepted bs ≡ true → front_list (bs ++ rest) ≡ bs
front-accepted bs rest e =
    let h = accepted-header bs e in
    take_at bs rest (field_in (bs ++ rest) whole_field_at offset_size)
    (sym (whole-field-front bs rest h.long ∙ h.whole-field))

pub front_of : (l : DigestList) (rest : List ℕ) → valid l ≡ true → front_list (list_bytes l ++ rest) ≡ list_bytes l
front_of l rest v = front-accepted (list_bytes l) rest (list_bytes-accepted l v)

-- the buffer is its front and the rest
pub front_rest : (b : List ℕ) → b ≡ front_list b ++ drop (length (front_list b)) b
front_rest b =
    let n = field_in b whole_field_at offset_size in
    sym (rw (length-take n b, drop-within n b) (take-append-drop n b))

-- what was written at the front leaves what lies behind it
pub behind-front : (xs b : List ℕ) (n : ℕ) → length xs ≤ n → drop n (xs ++ drop (length xs) b) ≡ drop n b
behind-front xs b n h =
    let m = n - length xs in
    let e : n ≡ length xs + m = omega arith in
    rw e (drop-append-add xs (drop (length xs) b) m ∙ drop-drop m (length xs) b)

-- ---- a buffer with a list at its front

pub record Fronted (b : List ℕ) : Type 0 where
  pub long : entries_at ≤ length (front_list b)
  pub within : length (front_list b) ≤ length b
  pub whole-field : field_in b whole_field_at offset_size ≡ length (front_list b)

pub fronted : (b : List ℕ) → accepted (front_list b) ≡ true → Fronted b
fronted b e =
    let h = accepted-header (front_list b) e in
    let bs = front_list b in
    let rest = drop (length bs) b in
    let sum : length b ≡ length bs + length rest = ap length (front_rest b) ∙ length-append bs rest in
    record {
      long = h.long;
      within = omega arith;
      whole-field =
          ap (λ (l : List ℕ). field_in l whole_field_at offset_size) (front_rest b)
          ∙ whole-field-front bs rest h.long
          ∙ h.whole-field;
    }

-- too short for a header
pub short-front : (b : List ℕ) → length b < entries_at → accepted (front_list b) ≡ false
short-front b h =
    refuted (accepted (front_list b)) (λ e. let f = fronted b e in omega (arith, f.long, f.within))

-- the length field says more than there is
pub past-front : (b : List ℕ) → length b < field_in b whole_field_at offset_size → accepted (front_list b) ≡ false
past-front b h =
    refuted (accepted (front_list b)) (λ e. let f = fronted b e in omega (arith, f.whole-field, f.within))

-- it says less than a header has
pub low-front : (b : List ℕ) → field_in b whole_field_at offset_size < entries_at → accepted (front_list b) ≡ false
low-front b h =
    refuted (accepted (front_list b)) (λ e. let f = fronted b e in omega (arith, f.whole-field, f.long))

-- ---- a start that is done

-- a call that no test refuses leaves the new
pub judged-new : {A : Type 0} {ts : List Test} {old new left : A} {n : ℕ} → Judged ts old new n left → first ts ≡ 0 → left ≡ new
judged-new {old = old} {new = new} j e = j.leaves ∙ ap (λ (k : ℕ). after k old new) e

pub record CanStart (e : ℕ) (b : List ℕ) : Type 0 where
  pub edition-known : known e ≡ true
  pub room : entries_at ≤ length b

pub start-passed : (e : ℕ) (b : List ℕ) → first (start_tests e b) ≡ 0 → CanStart e b
unfolding start_tests
start-passed e b h =
    let p = passed _ tt h in
    record { edition-known = not-false (known e) (p 0); room = ltb-false (length b) entries_at (p 1) }

pub start-done : (e : ℕ) (b : List ℕ) → CanStart e b → first (start_tests e b) ≡ 0
unfolding start_tests first
start-done e b c = rw (c.edition-known, le-ltb (length b) entries_at c.room)

pub empty-valid : (e : ℕ) → known e ≡ true → valid (empty_list e) ≡ true
unfolding every ascending
empty-valid e k = list-valid (empty_list e) (record { edition-known = k; few = omega arith; allowed = refl; ascends = refl })

pub empty-length : (e : ℕ) → known e ≡ true → length (list_bytes (empty_list e)) ≡ entries_at
unfolding name_run
empty-length e k =
    list_length (empty_list e) (valid-list (empty_list e) (empty-valid e k)) ∙ omega (arith, zero-mul (entry_size (digest_bytes e)))

module _ (e : ℕ) (b : List ℕ) (c : CanStart e b) where
  pub start_left : started e b ≡ list_bytes (empty_list e) ++ drop entries_at b
  unfolding started
  start_left =
      let n = empty-length e c.edition-known in
      at_front-room (list_bytes (empty_list e)) b (omega (arith, c.room))
      ∙ ap (λ (k : ℕ). list_bytes (empty_list e) ++ drop k b) n

  pub start-front : front_list (started e b) ≡ list_bytes (empty_list e)
  start-front =
      ap (λ (l : List ℕ). front_list l) start_left ∙ front_of (empty_list e) (drop entries_at b) (empty-valid e c.edition-known)

  pub start-length : length (started e b) ≡ length b
  unfolding started
  start-length = length-at_front (list_bytes (empty_list e)) b

  pub start-behind : (n : ℕ) → entries_at ≤ n → drop n (started e b) ≡ drop n b
  start-behind n h =
      let k = empty-length e c.edition-known in
      ap (drop n) (start_left ∙ ap (λ (m : ℕ). list_bytes (empty_list e) ++ drop m b) (sym k))
      ∙ behind-front (list_bytes (empty_list e)) b n (omega arith)

-- ---- a put that is done

-- no test refuses it
pub record CanPut (b name digest : List ℕ) : Type 0 where
  pub is_list : accepted (front_list b) ≡ true
  pub named : name_allowed name ≡ true
  pub sized : length digest ≡ digest_size_in (front_list b)
  pub new : listed name (read_list (front_list b)).pairs ≡ false
  pub few : length (read_list (front_list b)).pairs < most_entries
  pub room : length (front_list b) + entry_size (length digest) + length name ≤ length b

pub put-passed : (b name digest : List ℕ) → first (put_tests b name digest) ≡ 0 → CanPut b name digest
unfolding put_tests
put-passed b name digest h =
    let p = passed _ tt h in
    let bs = front_list b in
    record {
      is_list = not-false (accepted bs) (p 0);
      named = not-false (name_allowed name) (p 1);
      sized = eqb-true (length digest) (digest_size_in bs) (not-false _ (p 2));
      new = p 3;
      few = leb-false most_entries (length (read_list bs).pairs) (p 4);
      room = ltb-false (length b) (length bs + entry_size (length digest) + length name) (p 5);
    }

pub put-done : (b name digest : List ℕ) → CanPut b name digest → first (put_tests b name digest) ≡ 0
unfolding put_tests first
put-done b name digest t =
    let bs = front_list b in
    rw (
      t.is_list,
      t.named,
      eq-eqb (length digest) (digest_size_in bs) t.sized,
      t.new,
      lt-leb most_entries (length (read_list bs).pairs) t.few,
      le-ltb (length b) (length bs + entry_size (length digest) + length name) t.room,
    )

-- the list at the front, with the pair
abbrev pub list_with : List ℕ → List ℕ → List ℕ → DigestList
list_with b name digest = with_pair (pair name digest) (read_list (front_list b))

pub read-edition : (bs : List ℕ) → (read_list bs).edition ≡ edition_in bs
unfolding read_list
read-edition bs = refl

pub accepted-whole : (bs : List ℕ) → accepted bs ≡ true → whole_length (read_list bs) ≡ length bs
accepted-whole bs e =
    let l = read_list bs in
    sym (list_length l (valid-list l (accepted-valid bs e))) ∙ ap length (accepted-bytes bs e)

pair-allowed : (d : ℕ) (name digest : List ℕ) → name_allowed name ≡ true → length digest ≡ d → Bytes digest →
    pair_allowed d (pair name digest) ≡ true
unfolding pair_allowed holds
pair-allowed d name digest n s h = rw (n, eq-eqb (length digest) d s, below-all_below 256 digest h)

module _ (b name digest : List ℕ) (t : CanPut b name digest) (bytes : Bytes digest) where
  size-read : length digest ≡ digest_bytes (read_list (front_list b)).edition
  size-read = t.sized ∙ ap digest_bytes (sym (read-edition (front_list b)))

  pub put-valid : valid (list_with b name digest) ≡ true
  put-valid =
      inserted-valid (pair name digest) (read_list (front_list b)) (accepted-valid (front_list b) t.is_list)
      (pair-allowed (digest_bytes (read_list (front_list b)).edition) name digest t.named size-read bytes)
      t.new
      t.few

  -- an entry and a name more than before
  pub put_whole : length (list_bytes (list_with b name digest)) ≡ length (front_list b) + (entry_size (length digest) + length name)
  put_whole =
      list_length (list_with b name digest) (valid-list (list_with b name digest) put-valid)
      ∙ whole-inserted (pair name digest) (read_list (front_list b))
      ∙ rw (accepted-whole (front_list b) t.is_list, ← size-read)

  pub put-left : put_in b name digest ≡ list_bytes (list_with b name digest) ++ drop (length (list_bytes (list_with b name digest))) b
  unfolding put_in
  put-left = at_front-room (list_bytes (list_with b name digest)) b (omega (arith, put_whole, t.room))

  pub put_front : front_list (put_in b name digest) ≡ list_bytes (list_with b name digest)
  put_front =
      ap (λ (l : List ℕ). front_list l) put-left
      ∙ front_of (list_with b name digest) (drop (length (list_bytes (list_with b name digest))) b) put-valid

  pub left-accepted : accepted (front_list (put_in b name digest)) ≡ true
  left-accepted = rw put_front (list_bytes-accepted (list_with b name digest) put-valid)

  pub put-read : read_list (front_list (put_in b name digest)) ≡ list_with b name digest
  put-read = rw put_front (read-list (list_with b name digest) put-valid)

  pub put-edition : edition_in (front_list (put_in b name digest)) ≡ edition_in (front_list b)
  put-edition =
      rw put_front
      (list-edition (list_with b name digest) (valid-list (list_with b name digest) put-valid) ∙ read-edition (front_list b))

  pub put-behind : (n : ℕ) → length (front_list b) + (entry_size (length digest) + length name) ≤ n →
      drop n (put_in b name digest) ≡ drop n b
  put-behind n h =
      rw put-left (behind-front (list_bytes (list_with b name digest)) b n (omega (arith, put_whole)))

pub put-length : (b name digest : List ℕ) → length (put_in b name digest) ≡ length b
unfolding put_in
put-length b name digest = length-at_front (list_bytes (list_with b name digest)) b
