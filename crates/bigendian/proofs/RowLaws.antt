-- Laws of rows of fields. What was written is read back, `row_read`, one field for itself, `field-read`; bytes that read so are that row,
-- `row_is`. Where a row finds room, the code's `put_row` writes it: `put-row`. A field of two halves: `field-halves`, `row-halves`.
use mathlib.Core.Path.{◌≡◌, refl, sym, ◌∙◌, ap, ap₂}
use mathlib.Core.List.{List, [], ◌∷◌, ◌++◌, append_assoc, append-nil}
use Prim.Native.Nat.{ℕ, zero, suc, ◌+◌, ◌*◌, ◌%◌, ◌^◌, ◌<◌, ◌≤◌}
use native.Mathlib.Nat.{add_assoc, add-zero, zero-add, lt_of_lt_of_le, pow-le-pow_right, mod-eq_of_lt, min-le_left}
use native.Mathlib.Omega.{arith}
use lib.Arith.{digits_div}
use lib.Dec.{lit<}
use lib.ListN.{length, get_or, take, drop, length-append, length-take, length-drop, drop_of_length-le}
use lib.Seq.{take_at, drop_at, take-add, drop-drop, take_all}
use borrow.Author.Tests.{le-ltb}
use Rattle.slices.proofs.Below.{below-nil, below-append, below-take, below-drop}
use Rattle.bigendian.proofs.BigEndian.{length-be, be-bytes, be-append, be-shift, be-number}
use Rattle.bigendian.proofs.BigEndian.{number-be, number_lt, number_append, word64-number}
use Rattle.bigendian.specs.BigEndian.{be, number, word64}
use Rattle.slices.specs.Below.{Bytes}
use Rattle.slices.specs.Parts.{part}
use Rattle.bigendian.specs.Rows.{Field, ◌for◌is◌, sizes, values, InOrder, Fitting}
use Rattle.bigendian.specs.Rows.{row_bytes, row_length, field_in, read_row, Reads}
use Rattle.bigendian.specs.Code.PutRow.{put_row}

-- ---- rows

pub length-row : (row : List Field) → length (row_bytes row) ≡ row_length row
unfolding row_bytes
length-row [] = refl
length-row (f ∷ fs) = rw (length-append (be f.bytes f.value) (row_bytes fs), length-be, length-row fs)

pub row-bytes : (row : List Field) → Bytes (row_bytes row)
unfolding row_bytes
row-bytes [] = below-nil 256 (lit< tt)
row-bytes (f ∷ fs) = below-append (be f.bytes f.value) (row_bytes fs) (be-bytes f.bytes f.value) (row-bytes fs)

pub row-append : (row more : List Field) → row_bytes (row ++ more) ≡ row_bytes row ++ row_bytes more
unfolding row_bytes
row-append [] more = refl
row-append (f ∷ fs) more = rw (row-append fs more, append_assoc)

pub row_length-append : (row more : List Field) → row_length (row ++ more) ≡ row_length row + row_length more
row_length-append [] more = sym (zero-add (row_length more))
row_length-append (f ∷ fs) more = rw (row_length-append fs more, add_assoc)

-- `InOrder` field by field, for a row over variables: `omega` sees that a place is the sum of what stands before it where `refl` does not
abbrev pub InTurn : ℕ → List Field → Type 0
InTurn at [] = Unit {0}
InTurn at (f ∷ fs) = (f.place ≡ at) × InTurn (at + f.bytes) fs

pub in_order : (row : List Field) (at : ℕ) → InTurn at row → InOrder at row
in_order [] at h = refl
in_order (f ∷ fs) at h = ap₂ ◌∷◌ h.0 (in_order fs (at + f.bytes) h.1)

pub in-turn : (row : List Field) (at : ℕ) → InOrder at row → InTurn at row
in-turn [] at e = tt
in-turn (f ∷ fs) at e =
    let here : f.place ≡ at = cc in
    let next : InOrder (at + f.bytes) fs = cc in
    (here, in-turn fs (at + f.bytes) next)

pub in-order-append : (row more : List Field) (at : ℕ) → InOrder at row → InOrder (at + row_length row) more → InOrder at (row ++ more)
in-order-append [] more at e h = rw add-zero at h
in-order-append (f ∷ fs) more at e h =
    let t = in-turn (f ∷ fs) at e in
    let rest : InOrder (at + f.bytes + row_length fs) more = rw add_assoc h in
    ap₂ ◌∷◌ t.0 (in-order-append fs more (at + f.bytes) (in_order fs (at + f.bytes) t.1) rest)

-- ---- one field

pub field_lt : (bs : List ℕ) (at n : ℕ) → Bytes bs → field_in bs at n < 256 ^ n
field_lt bs at n h =
    let p = below-take n (drop at bs) (below-drop at bs h) in
    lt_of_lt_of_le (number_lt (part bs at n) p)
    (pow-le-pow_right (lit< tt) (simp length-take (min-le_left n (length (drop at bs)))))

-- what `rows::field` hands out is the number itself, where a word of 64 bits has room for it
pub field-word64 : (bs : List ℕ) (at n : ℕ) → Bytes bs → n ≤ 8 → word64 (field_in bs at n) ≡ field_in bs at n
field-word64 bs at n h p =
    word64-number (part bs at n) (below-take n (drop at bs) (below-drop at bs h)) (simp length-take (omega arith))

-- the bytes of a field that is there whole
pub be-field : (bs : List ℕ) (at n : ℕ) → Bytes bs → at + n ≤ length bs → be n (field_in bs at n) ≡ part bs at n
be-field bs at n h p =
    let size : length (part bs at n) ≡ n = simp (length-take, length-drop) (omega arith) in
    ap (λ (k : ℕ). be k (field_in bs at n)) (sym size) ∙ be-number (part bs at n) (below-take n (drop at bs) (below-drop at bs h))

-- a number of n + m bytes is one of n and one of m behind it
pub field-halves : (bs : List ℕ) (at n m : ℕ) → at + (n + m) ≤ length bs →
    field_in bs at (n + m) ≡ field_in bs at n * 256 ^ m + field_in bs (at + n) m
field-halves bs at n m p =
    let size : length (take m (drop (at + n) bs)) ≡ m = simp (length-take, length-drop) (omega arith) in
    rw (take-add n m (drop at bs), drop-drop n at bs, number_append (take n (drop at bs)) (take m (drop (at + n) bs)), size)

-- so a field for a number of two words is laid out as two fields
pub row-halves : (front : List Field) (at n m high low : ℕ) (fs : List Field) → low < 256 ^ m →
    row_bytes (front ++ at for n + m is (high * 256 ^ m + low) ∷ fs) ≡ row_bytes (front ++ at for n is high ∷ (at + n) for m is low ∷ fs)
unfolding row_bytes
row-halves [] at n m high low fs h =
    rw (be-append n m (high * 256 ^ m + low), digits_div high h, be-shift m high low, append_assoc)
row-halves (f ∷ front) at n m high low fs h = rw (row-halves front at n m high low fs h)

-- ---- what was written is read back

-- what a field keeps of its value
abbrev pub kept : Field → ℕ
kept f = f.value % 256 ^ f.bytes

abbrev pub kept_row : List Field → List ℕ
kept_row [] = []
kept_row (f ∷ fs) = kept f ∷ kept_row fs

written-here : (front rest : List ℕ) (f : Field) → f.place ≡ length front →
    field_in (front ++ (be f.bytes f.value ++ rest)) f.place f.bytes ≡ kept f
written-here front rest f e =
    let b = be f.bytes f.value in
    rw (drop_at front (b ++ rest) f.place (sym e), take_at b rest f.bytes (length-be f.bytes f.value))
    (number-be f.bytes f.value)

-- a row that stands behind anything
pub row_kept : (row : List Field) (front rest : List ℕ) → InOrder (length front) row →
    read_row row (front ++ (row_bytes row ++ rest)) ≡ kept_row row
unfolding row_bytes read_row
row_kept [] front rest e = refl
row_kept (f ∷ fs) front rest e =
    let b = be f.bytes f.value in
    let more = row_bytes fs ++ rest in
    let t = in-turn (f ∷ fs) (length front) e in
    let size : length (front ++ b) ≡ length front + f.bytes = length-append front b ∙ rw length-be in
    let regroup : front ++ ((b ++ row_bytes fs) ++ rest) ≡ (front ++ b) ++ more = simp append_assoc in
    let behind : InOrder (length (front ++ b)) fs = rw size (in_order fs (length front + f.bytes) t.1) in
    rw regroup
    (ap₂ ◌∷◌ (rw append_assoc (written-here front more f t.0)) (row_kept fs (front ++ b) rest behind))

pub fitting-kept : (row : List Field) → Fitting row → kept_row row ≡ values row
fitting-kept [] h = refl
fitting-kept (f ∷ fs) h = ap₂ ◌∷◌ (mod-eq_of_lt h.0) (fitting-kept fs h.1)

-- a row of fields read back is what was written
pub row_read : (row : List Field) (rest : List ℕ) → InOrder 0 row → Fitting row → Reads row (row_bytes row ++ rest)
row_read row rest e h = row_kept row [] rest e ∙ fitting-kept row h

-- no field, behind the last of a row
abbrev pub no_field : Field
no_field = 0 for 0 is 0

get_or-read_row : (row : List Field) (bs : List ℕ) (i : ℕ) →
    get_or (read_row row bs) i 0 ≡ field_in bs (get_or row i no_field).place (get_or row i no_field).bytes
unfolding read_row number
get_or-read_row [] bs i = refl
get_or-read_row (f ∷ fs) bs zero = refl
get_or-read_row (f ∷ fs) bs (suc i) = get_or-read_row fs bs i

get_or-kept_row : (row : List Field) (i : ℕ) → get_or (kept_row row) i 0 ≡ kept (get_or row i no_field)
get_or-kept_row [] i = refl
get_or-kept_row (f ∷ fs) zero = refl
get_or-kept_row (f ∷ fs) (suc i) = get_or-kept_row fs i

get_or-values : (row : List Field) (i : ℕ) → get_or (values row) i 0 ≡ (get_or row i no_field).value
get_or-values [] i = refl
get_or-values (f ∷ fs) zero = refl
get_or-values (f ∷ fs) (suc i) = get_or-values fs i

-- one field of a row by its number, whether or not the others keep their values
pub field-kept : (row : List Field) (rest : List ℕ) (i : ℕ) → InOrder 0 row →
    field_in (row_bytes row ++ rest) (get_or row i no_field).place (get_or row i no_field).bytes ≡ kept (get_or row i no_field)
field-kept row rest i e =
    sym (get_or-read_row row (row_bytes row ++ rest) i) ∙ ap (λ (l : List ℕ). get_or l i 0) (row_kept row [] rest e) ∙ get_or-kept_row row i

pub field-read : (row : List Field) (rest : List ℕ) (i : ℕ) → InOrder 0 row → (get_or row i no_field).value < 256 ^
    (get_or row i no_field).bytes →
    field_in (row_bytes row ++ rest) (get_or row i no_field).place (get_or row i no_field).bytes ≡ (get_or row i no_field).value
field-read row rest i e h = field-kept row rest i e ∙ mod-eq_of_lt h

-- one field of bytes that hold a row
pub reads-field : (row : List Field) (bs : List ℕ) (i : ℕ) → Reads row bs →
    field_in bs (get_or row i no_field).place (get_or row i no_field).bytes ≡ (get_or row i no_field).value
reads-field row bs i e = sym (get_or-read_row row bs i) ∙ ap (λ (l : List ℕ). get_or l i 0) e ∙ get_or-values row i

-- ---- bytes that read so are that row

pub reads_fit : (row : List Field) (bs : List ℕ) → Bytes bs → Reads row bs → Fitting row
unfolding read_row
reads_fit [] bs h e = tt
reads_fit (f ∷ fs) bs h e =
    let here : field_in bs f.place f.bytes ≡ f.value = cc in
    let next : read_row fs bs ≡ values fs = cc in
    (rw (← here) (field_lt bs f.place f.bytes h), reads_fit fs bs h next)

-- from any place on
pub row-is-at : (row : List Field) (at : ℕ) (bs : List ℕ) → Bytes bs → InOrder at row → Reads row bs → at + row_length row ≤ length bs →
    part bs at (row_length row) ≡ row_bytes row
unfolding row_bytes read_row
row-is-at [] at bs h e r p = refl
row-is-at (f ∷ fs) at bs h e r p =
    let n = f.bytes in
    let t = in-turn (f ∷ fs) at e in
    let says : field_in bs f.place n ≡ f.value = cc in
    let more : read_row fs bs ≡ values fs = cc in
    let this : be n f.value ≡ part bs at n = rw (← says, t.0) (be-field bs at n h (omega arith)) in
    take-add n (row_length fs) (drop at bs)
    ∙ rw (drop-drop n at bs, row-is-at fs (at + n) bs h (in_order fs (at + n) t.1) more (omega arith), this)

-- bytes that hold a row's values at its places begin with that row
pub row_is : (row : List Field) (bs : List ℕ) → Bytes bs → InOrder 0 row → Reads row bs → row_length row ≤ length bs →
    take (row_length row) bs ≡ row_bytes row
row_is row bs h e r p = row-is-at row 0 bs h e r (omega arith)

-- and where they are no longer, are that row
pub row-is-all : (row : List Field) (bs : List ℕ) → Bytes bs → InOrder 0 row → Reads row bs → row_length row ≡ length bs →
    bs ≡ row_bytes row
row-is-all row bs h e r p = sym (take_all (row_length row) bs (omega arith)) ∙ row_is row bs h e r (omega arith)

-- ---- written by code

-- where a row finds room
pub put-row : (row : List Field) (bs : List ℕ) → row_length row ≤ length bs →
    put_row (sizes row) (values row) bs ≡ row_bytes row ++ drop (row_length row) bs
unfolding put_row row_bytes
put-row [] bs p = refl
put-row (f ∷ fs) bs p =
    rw (
      le-ltb (length bs) f.bytes (omega arith),
      put-row fs (drop f.bytes bs) (simp length-drop (omega arith)),
      drop-drop (row_length fs) f.bytes bs,
      append_assoc,
    )

-- bytes as long as the row
pub put-row-all : (row : List Field) (bs : List ℕ) → row_length row ≡ length bs → put_row (sizes row) (values row) bs ≡ row_bytes row
put-row-all row bs e = put-row row bs (omega arith) ∙ rw (drop_of_length-le bs {i = row_length row} (omega arith), append-nil)
