-- Records of any form: SPEC, "The saved record". `form-saved-loads`: a sound state's record is one of its form and reads as that state.
-- `form-loaded-saves`: bytes that are a record are the record of what they read as. `form-one-record`: so no state has two in one form.
use Prim.Native.Nat.{ℕ, ◌+◌, ◌*◌, ◌^◌, ◌≤◌}
use mathlib.Core.Bool.{true}
use mathlib.Core.List.{List, ◌++◌}
use mathlib.Core.Path.{◌≡◌, refl, sym, ap, ap₂, subst, ◌∙◌}
use native.Mathlib.Nat.{pow-le-pow_right, lt_of_lt_of_le}
use native.Mathlib.Omega.{arith}
use lib.ListN.{length, drop, length-append}
use lib.Seq.{drop_at, drop-drop}
use Rattle.slices.specs.Below.{Below, Bytes}
use Rattle.slices.proofs.Below.{below-append, below-take, below-drop, below_more}
use Rattle.slices.proofs.Tests.{holds_at, holds_on, holds-last, same-eq, same_refl}
use Rattle.bigendian.specs.Rows.{InOrder, row_bytes, row_length, field_in}
use Rattle.bigendian.specs.Words.{from_words, to_words}
use Rattle.bigendian.proofs.BigEndian.{pow-256}
use Rattle.bigendian.proofs.RowLaws.{length-row, row-bytes, field_lt, field-read}
use Rattle.bigendian.proofs.Words.{length-from_words, from_words-bytes, length-to_words, to_words-below, to_words-back}
use Rattle.fips.specs.Editions.{width}
use Rattle.fips.proofs.Sizes.{known_small, bytes-within}
use Rattle.halfread.specs.declared.HalfRead.{HalfRead}
use Rattle.halfread.specs.State.{tail_room, tail_length, pending, padded, sound, Shaped}
use Rattle.halfread.proofs.Fields.{same-state}
use Rattle.halfread.proofs.Soundness.{Sound, sound-facts}
use Rattle.halfread.proofs.Tails.{length-pending, length-padded, padded-bytes}
use Rattle.records.specs.Record.{Form, word_count, number_bytes, edition_at, count_at, words_at, tail_at, length_in, header}
use Rattle.records.specs.Record.{record_in, read_in, is_record_in}

-- ---- what a record looks like

module _ (f : Form) (h : HalfRead) where
  pub header-in-order : InOrder 0 (header f h)
  unfolding header
  header-in-order = refl

  pub length-header : row_length (header f h) ≡ words_at f
  unfolding header
  length-header = omega arith

  abbrev B : ℕ
  B = (width h.edition).bytes

  abbrev W : List ℕ
  W = from_words B h.words

  length-words : length h.words ≡ word_count → length W ≡ word_count * B
  length-words e = length-from_words B h.words ∙ ap (λ (n : ℕ). n * B) e

  pub length_front : length (row_bytes (header f h)) ≡ words_at f
  length_front = length-row (header f h) ∙ length-header

  -- of the shape only the two lengths count
  pub length-record : length h.words ≡ word_count → length h.tail ≡ tail_room → length (record_in f h) ≡ length_in f h
  unfolding record_in
  length-record eight wide =
      length-append (row_bytes (header f h)) (W ++ pending h)
      ∙ ap₂ ◌+◌ length_front (length-append W (pending h) ∙ ap₂ ◌+◌ (length-words eight) (length-pending h wide))
      ∙ omega arith

  pub length-record_in : Shaped h → length (record_in f h) ≡ length_in f h
  length-record_in s = length-record s.eight s.wide

  pub record_in-bytes : Shaped h → Bytes (record_in f h)
  unfolding record_in
  record_in-bytes s =
      below-append (row_bytes (header f h)) (W ++ pending h) (row-bytes (header f h))
      (below-append W (pending h) (from_words-bytes B h.words) (below-take (tail_length h) h.tail s.bytes))

-- ---- loading any bytes

module _ (f : Form) (bytes : List ℕ) where
  -- where the count's field holds no more than a state's count
  pub form-loaded-shaped : 256 ^ f.count_bytes ≤ 2 ^ 64 → Bytes bytes → Shaped (read_in f bytes)
  unfolding read_in
  form-loaded-shaped holds-few all =
      let e = field_in bytes edition_at number_bytes in
      let n = (width e).bytes in
      record {
        eight = length-to_words word_count n (drop (words_at f) bytes);
        wide = length-padded (drop (tail_at f e) bytes);
        number = omega (arith, field_lt bytes edition_at number_bytes all);
        counted = lt_of_lt_of_le (field_lt bytes count_at f.count_bytes all) holds-few;
        fitting =
            below_more (to_words word_count n (drop (words_at f) bytes)) (pow-le-pow_right {n = 256} (omega arith) (bytes-within e))
            (to_words-below word_count n (drop (words_at f) bytes) (below-drop (words_at f) bytes all));
        bytes = padded-bytes (drop (tail_at f e) bytes) (below-drop (tail_at f e) bytes all);
      }

  module _ (is_one : is_record_in f bytes ≡ true) where
    pub form-loaded-sound : sound (read_in f bytes) ≡ true
    unfolding is_record_in
    form-loaded-sound = holds_at _ is_one 0

    pub form-loaded-saves : record_in f (read_in f bytes) ≡ bytes
    unfolding is_record_in
    form-loaded-saves = same-eq (record_in f (read_in f bytes)) bytes (holds_at _ is_one 1)

pub form-one-record : (f : Form) (a b : List ℕ) → is_record_in f a ≡ true → is_record_in f b ≡ true → read_in f a ≡ read_in f b → a ≡ b
form-one-record f a b p q e = sym (form-loaded-saves f a p) ∙ ap (record_in f) e ∙ form-loaded-saves f b q

-- ---- loading a record, where the count's field has room for every count of a state

module _ (f : Form) (room : 2 ^ 64 ≤ 256 ^ f.count_bytes) (h : HalfRead) (is_sound : sound h ≡ true) (s : Shaped h) where
  facts : Sound h
  facts = sound-facts h is_sound s

  R : List ℕ
  R = record_in f h

  abbrev behind : List ℕ
  behind = W f h ++ pending h

  past-header : drop (words_at f) R ≡ behind
  unfolding R record_in
  past-header = drop_at (row_bytes (header f h)) behind (words_at f) (length_front f h)

  edition-read : field_in R edition_at number_bytes ≡ h.edition
  unfolding R record_in header
  edition-read = field-read (header f h) behind 0 refl (omega (arith, known_small h.edition facts.known))

  count-read : field_in R count_at f.count_bytes ≡ h.count
  unfolding R record_in header
  count-read = field-read (header f h) behind 4 refl (lt_of_lt_of_le s.counted room)

  words-read : to_words word_count (B f h) (drop (words_at f) R) ≡ h.words
  words-read =
      let small : Below (256 ^ B f h) h.words = subst (λ (m : ℕ). Below m h.words) (sym (pow-256 (B f h))) facts.below in
      ap (to_words word_count (B f h)) past-header
      ∙ ap (λ (k : ℕ). to_words k (B f h) behind) (sym s.eight)
      ∙ to_words-back (B f h) h.words (pending h) small

  tail-read : padded (drop (tail_at f h.edition) R) ≡ h.tail
  tail-read =
      ap padded
      (sym (drop-drop (word_count * B f h) (words_at f) R)
      ∙ ap (drop (word_count * B f h)) past-header
      ∙ drop_at (W f h) (pending h) (word_count * B f h) (length-words f h s.eight))
      ∙ sym facts.tail

  reads : read_in f R ≡ h
  unfolding read_in
  reads =
      same-state (read_in f R) h edition-read count-read
      (ap (λ (e : ℕ). to_words word_count (width e).bytes (drop (words_at f) R)) edition-read ∙ words-read)
      (ap (λ (e : ℕ). padded (drop (tail_at f e) R)) edition-read ∙ tail-read)

  pub form-saved-loads : (read_in f (record_in f h) ≡ h) × (is_record_in f (record_in f h) ≡ true)
  unfolding R is_record_in
  form-saved-loads = (reads, holds_on _ _ (ap sound reads ∙ is_sound) ∙ holds-last _ ∙ rw reads (same_refl (record_in f h)))
