-- The saved record: SPEC, "The saved record". A row of fields, then the chaining words, then what waits in the tail.
-- A form says how wide the count and the zeros of the header are; all is stated for any form, and `newest` is the one that is saved.
use Rattle.std.specs.Prelude.{ℕ, ◌+◌, ◌*◌, Bool, not, List, [], ◌∷◌, ◌++◌, ltb, length, drop}
use Rattle.answers.specs.Judged.{Test, ◌when◌}
use Rattle.slices.specs.Tests.{holds, same}
use Rattle.bigendian.specs.Rows.{Field, ◌for◌is◌, row_bytes, field_in}
use Rattle.bigendian.specs.Words.{from_words, to_words}
use Rattle.fips.specs.Editions.{width}
use Rattle.halfread.specs.declared.HalfRead.{HalfRead}
use Rattle.halfread.specs.State.{chain_room, tail_length, pending, padded, sound}

pub record Form : Type 0 where
  pub count_bytes : ℕ
  pub zero_bytes : ℕ

abbrev pub newest : Form
newest = record { count_bytes = 8; zero_bytes = 4 }

-- how many chaining words a record holds
abbrev pub word_count : ℕ
word_count = chain_room

-- the bytes of an edition, an offset or a length
abbrev pub number_bytes : ℕ
number_bytes = 2

-- where the fields stand that every form has at one place: the edition, how many words, where they begin, where the tail does, the count
abbrev pub edition_at : ℕ
edition_at = 0

abbrev pub word_count_at : ℕ
word_count_at = 2

abbrev pub words_field_at : ℕ
words_field_at = 4

abbrev pub tail_field_at : ℕ
tail_field_at = 6

abbrev pub count_at : ℕ
count_at = 8

module _ (f : Form) where
  -- and behind the count: how long the tail is, how long the whole, the zeros
  abbrev pub tail_length_at : ℕ
  tail_length_at = count_at + f.count_bytes

  abbrev pub whole_length_at : ℕ
  whole_length_at = tail_length_at + number_bytes

  abbrev pub zeros_at : ℕ
  zeros_at = whole_length_at + number_bytes

  -- where the words begin, and the tail behind them
  abbrev pub words_at : ℕ
  words_at = zeros_at + f.zero_bytes

  abbrev pub tail_at : ℕ → ℕ
  tail_at e = words_at + word_count * (width e).bytes

  module _ (h : HalfRead) where
    abbrev pub length_in : ℕ
    length_in = tail_at h.edition + tail_length h

    -- the fields as SPEC's table has them, each where the one before it ends
    unfoldable pub header : List Field
    header =
        edition_at for number_bytes is h.edition
        ∷ word_count_at for number_bytes is word_count
        ∷ words_field_at for number_bytes is words_at
        ∷ tail_field_at for number_bytes is tail_at h.edition
        ∷ count_at for f.count_bytes is h.count
        ∷ tail_length_at for number_bytes is tail_length h
        ∷ whole_length_at for number_bytes is length_in
        ∷ zeros_at for f.zero_bytes is 0
        ∷ []

    unfoldable pub record_in : List ℕ
    record_in = row_bytes header ++ (from_words (width h.edition).bytes h.words ++ pending h)

  -- the state that the fields of bytes give: edition, bytes taken, words and tail
  unfoldable pub read_in : List ℕ → HalfRead
  read_in bytes =
      let e : ℕ = field_in bytes edition_at number_bytes in
      record {
        edition = e;
        count = field_in bytes count_at f.count_bytes;
        words = to_words word_count (width e).bytes (drop words_at bytes);
        tail = padded (drop (tail_at e) bytes);
      }

  -- a record of the form: its state is sound, and every byte is as that state's record has it
  unfoldable pub is_record_in : List ℕ → Bool
  is_record_in bytes = holds (sound (read_in bytes) ∷ same (record_in (read_in bytes)) bytes ∷ [])

-- ---- what is saved, and what loads

abbrev pub record_length : HalfRead → ℕ
record_length h = length_in newest h

abbrev pub record_of : HalfRead → List ℕ
record_of h = record_in newest h

abbrev pub loaded : List ℕ → HalfRead
loaded bytes = read_in newest bytes

abbrev pub is_record : List ℕ → Bool
is_record bytes = is_record_in newest bytes

-- save: 6, 9
unfoldable pub save_tests : HalfRead → List ℕ → List Test
save_tests h out = 6 when not (sound h) ∷ 9 when ltb (length out) (record_length h) ∷ []

-- load: 10
unfoldable pub load_tests : List ℕ → List Test
load_tests bytes = 10 when not (is_record bytes) ∷ []
