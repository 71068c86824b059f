-- The night of the accident: three files half-read in a table that is lost, and the record of one of them. SPEC, "The saved record".
-- `Night` says what is answered, and what the three outputs hold in the morning: the standard's digests of the files. Of the tables and
-- the record it says nothing but the room that they have.
use Rattle.std.specs.Prelude.{ℕ, ◌+◌, ◌%◌, not, List, [], ◌∷◌, ltb, length, take}
use Rattle.answers.specs.Judged.{Test, ◌when◌, Judged}
use Rattle.slices.specs.AtFront.{at_front}
use Rattle.fips.specs.Words.{block_bytes}
use Rattle.fips.specs.Editions.{known, width, digest_bytes, digest}
use Rattle.fips.specs.Message.{message}
use Rattle.dwsha2.specs.Limit.{too_long}
use Rattle.records.specs.Record.{newest, tail_at}
use Rattle.bays.specs.Table.{room_for}

-- the outputs, one for each file
pub record Digests : Type 0 where
  pub of_a : List ℕ
  pub of_b : List ℕ
  pub of_c : List ℕ

abbrev pub digests : List ℕ → List ℕ → List ℕ → Digests
digests a b c = record { of_a = a; of_b = b; of_c = c }

-- how long the record is of a message of which so many bytes came
abbrev pub record_room : ℕ → ℕ → ℕ
record_room e count = tail_at newest e + count % block_bytes (width e)

-- what the night refuses, in order: by the words of the two tables, the edition, the bytes of the three files, those of the record, and
-- the room that is lent for it and for the three digests
unfoldable pub night_tests : (table anew e a b c size saved first second third : ℕ) → List Test
night_tests table anew e a b c size saved first second third =
    11 when not (room_for 3 table)
    ∷ 11 when not (room_for 3 anew)
    ∷ 5 when not (known e)
    ∷ 7 when too_long e 0 a
    ∷ 7 when too_long e 0 b
    ∷ 7 when too_long e 0 c
    ∷ 9 when ltb saved size
    ∷ 9 when ltb first (digest_bytes e)
    ∷ 9 when ltb second (digest_bytes e)
    ∷ 9 when ltb third (digest_bytes e)
    ∷ []

-- the digest of a file, at the front of its output
abbrev pub digest_at_front : ℕ → List ℕ → List ℕ → List ℕ
digest_at_front e file out = at_front (digest e (message file 0 0)) out

unfoldable pub file_digests : ℕ → List ℕ → List ℕ → List ℕ → Digests → Digests
file_digests e a b c out = digests (digest_at_front e a out.of_a) (digest_at_front e b out.of_b) (digest_at_front e c out.of_c)

-- the night answered the number n, and left the outputs as they are then; of the first file `cut` bytes had come when it was saved, or all
-- where it has no more
abbrev pub Night : (table anew : List ℕ) (e : ℕ) (a : List ℕ) (cut : ℕ) (b c saved : List ℕ) (out : Digests) (n : ℕ) (left : Digests) →
    Type 0
Night table anew e a cut b c saved out n left =
    Judged
    (night_tests (length table) (length anew) e (length a) (length b) (length c) (record_room e (length (take cut a))) (length saved)
    (length out.of_a) (length out.of_b) (length out.of_c))
    out (file_digests e a b c out) n left
