-- The fields of a record, read where they stand: SPEC, "The saved record". Main statement: `fields-law`, which the code cites.
use Prim.Native.Nat.{ℕ, ◌/◌, ◌≤◌}
use mathlib.Core.List.{List, map}
use mathlib.Core.Path.{◌≡◌, ap, ap₂, ◌∙◌}
use native.Mathlib.Omega.{arith}
use lib.ListN.{length, drop, length-drop}
use lib.Seq.{take_all}
use Rattle.slices.specs.Below.{Bytes}
use Rattle.slices.specs.Parts.{part}
use Rattle.slices.proofs.Below.{below-drop}
use Rattle.bigendian.specs.BigEndian.{word64}
use Rattle.bigendian.specs.Rows.{field_in}
use Rattle.bigendian.specs.Words.{to_words}
use Rattle.bigendian.proofs.RowLaws.{field-word64}
use Rattle.bigendian.proofs.Words.{to_words-word64}
use Rattle.fips.specs.Words.{block_bytes}
use Rattle.fips.specs.Editions.{width}
use Rattle.fips.proofs.Sizes.{bytes-within}
use Rattle.halfread.specs.State.{padded}
use Rattle.halfread.proofs.Fields.{same-state}
use Rattle.records.specs.Record.{Form, word_count, count_at, words_at, tail_at, read_in}

-- a part that is asked to be as long as the whole ends where the whole does
to_end : (s : List ℕ) (at : ℕ) → part s at (length s) ≡ drop at s
to_end s at = take_all (length s) (drop at s) (rw (length-drop at s) (omega arith))

pub fields-law : (f : Form) → f.count_bytes ≤ 8 → (s : List ℕ) → Bytes s → {e c size at : ℕ} {ws t : List ℕ} →
    e ≡ word64 (field_in s 0 2) → c ≡ word64 (field_in s count_at f.count_bytes) → size ≡ block_bytes (width e) →
    ws ≡ map word64 (to_words word_count (size / 16) (part s (words_at f) (length s))) → at ≡ tail_at f e →
    t ≡ padded (part s at (length s)) →
    record { edition = e; count = c; words = ws; tail = t } ≡ read_in f s
unfolding read_in
fields-law f short s bytes {e} {c} {size} {at} {ws} {t} is_e is_c is_size is_ws is_at is_t =
    let is_e' : e ≡ field_in s 0 2 = is_e ∙ field-word64 s 0 2 bytes (omega arith) in
    let n : size / 16 ≡ (width e).bytes = omega arith in
    let words : ws ≡ to_words word_count (width e).bytes (drop (words_at f) s) =
    is_ws
    ∙ ap₂ (λ (k : ℕ) (l : List ℕ). map word64 (to_words word_count k l)) n (to_end s (words_at f))
    ∙ to_words-word64 word_count (width e).bytes (drop (words_at f) s) (below-drop (words_at f) s bytes) (bytes-within e) in
    let tail : t ≡ padded (drop (tail_at f e) s) = is_t ∙ ap padded (to_end s at ∙ ap (λ (k : ℕ). drop k s) is_at) in
    same-state (record { edition = e; count = c; words = ws; tail = t }) (read_in f s) is_e'
    (is_c ∙ field-word64 s count_at f.count_bytes bytes short)
    (words ∙ ap (λ (k : ℕ). to_words word_count (width k).bytes (drop (words_at f) s)) is_e')
    (tail ∙ ap (λ (k : ℕ). padded (drop (tail_at f k) s)) is_e')
