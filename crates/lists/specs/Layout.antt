-- The bytes of a digest list: SPEC, "Digest list". `list_bytes` lays a list out, `read_list` reads any bytes where the layout has them, and
-- `accepted` says of any bytes that they are exactly the bytes of a list that is valid.
use Rattle.std.specs.Prelude.{Bool, List, [], ◌∷◌, ◌++◌, ℕ, zero, suc, ◌+◌, ◌*◌, length, drop}
use Rattle.bigendian.specs.Rows.{Field, ◌for◌is◌, row_bytes, field_in}
use Rattle.fips.specs.Editions.{digest_bytes}
use Rattle.slices.specs.Parts.{part}
use Rattle.slices.specs.Tests.{holds, same}
use Rattle.lists.specs.Lists.{Pair, DigestList, most_entries, longest_name, valid}

-- ---- where things stand

-- a list's own numbers have two bytes, offsets and lengths four
abbrev pub number_size : ℕ
number_size = 2

abbrev pub offset_size : ℕ
offset_size = 4

-- the fields of the header: edition, how many entries, where the entries begin, where the names begin, how long the list is
abbrev pub edition_at : ℕ
edition_at = 0

abbrev pub count_at : ℕ
count_at = 2

abbrev pub entries_field_at : ℕ
entries_field_at = 4

abbrev pub names_field_at : ℕ
names_field_at = 8

abbrev pub whole_field_at : ℕ
whole_field_at = 12

-- the entries begin where the header ends
abbrev pub entries_at : ℕ
entries_at = 16

-- the fields of an entry: where its name begins in the list, how long the name is
abbrev pub name_offset_at : ℕ
name_offset_at = 0

abbrev pub name_length_at : ℕ
name_length_at = 4

-- its digest stands behind them
abbrev pub entry_head : ℕ
entry_head = 8

-- how long an entry is whose digest has d bytes
abbrev pub entry_size : ℕ → ℕ
entry_size d = entry_head + d

-- where the names begin behind n such entries
abbrev pub names_at : ℕ → ℕ → ℕ
names_at n d = entries_at + n * entry_size d

-- no list is longer: the header, and the most entries, with digests of 64 bytes and the longest names
unfoldable pub longest_list : ℕ
longest_list = names_at most_entries 64 + most_entries * longest_name

-- ---- laid out

abbrev pub list_row : ℕ → ℕ → ℕ → ℕ → List Field
list_row edition n names whole =
    edition_at for number_size is edition
    ∷ count_at for number_size is n
    ∷ entries_field_at for offset_size is entries_at
    ∷ names_field_at for offset_size is names
    ∷ whole_field_at for offset_size is whole
    ∷ []

abbrev pub entry_row : ℕ → ℕ → List Field
entry_row at len = name_offset_at for offset_size is at ∷ name_length_at for offset_size is len ∷ []

unfoldable pub entry_bytes : ℕ → Pair → List ℕ
entry_bytes at p = row_bytes (entry_row at (length p.name)) ++ p.digest

-- the entries in order, where the first name stands at the offset given and each next one right after it
unfoldable pub entry_run : ℕ → List Pair → List ℕ
entry_run at [] = []
entry_run at (p ∷ ps) = entry_bytes at p ++ entry_run (at + length p.name) ps

-- the names, one behind the other
unfoldable pub name_run : List Pair → List ℕ
name_run [] = []
name_run (p ∷ ps) = p.name ++ name_run ps

abbrev pub names_of : DigestList → ℕ
names_of l = names_at (length l.pairs) (digest_bytes l.edition)

abbrev pub whole_length : DigestList → ℕ
whole_length l = names_of l + length (name_run l.pairs)

unfoldable pub list_bytes : DigestList → List ℕ
list_bytes l =
    row_bytes (list_row l.edition (length l.pairs) (names_of l) (whole_length l))
    ++ (entry_run (names_of l) l.pairs ++ name_run l.pairs)

-- ---- read

abbrev pub edition_in : List ℕ → ℕ
edition_in bs = field_in bs edition_at number_size

abbrev pub count_in : List ℕ → ℕ
count_in bs = field_in bs count_at number_size

abbrev pub digest_size_in : List ℕ → ℕ
digest_size_in bs = digest_bytes (edition_in bs)

-- of the entry at the front of the bytes
abbrev pub name_offset : List ℕ → ℕ
name_offset entry = field_in entry name_offset_at offset_size

abbrev pub name_length : List ℕ → ℕ
name_length entry = field_in entry name_length_at offset_size

-- its pair, in the list bs
abbrev pub pair_at : ℕ → List ℕ → List ℕ → Pair
pair_at d entry bs = record { name = part bs (name_offset entry) (name_length entry); digest = part entry entry_head d }

-- so many entries, one after the other
unfoldable pub read_pairs : ℕ → ℕ → List ℕ → List ℕ → List Pair
read_pairs zero d entries bs = []
read_pairs (suc n) d entries bs = pair_at d entries bs ∷ read_pairs n d (drop (entry_size d) entries) bs

unfoldable pub read_list : List ℕ → DigestList
read_list bs = record { edition = edition_in bs; pairs = read_pairs (count_in bs) (digest_size_in bs) (drop entries_at bs) bs }

-- ---- judged

-- the bytes are exactly a digest list: what is read of them is valid, and they are its bytes
unfoldable pub accepted : List ℕ → Bool
accepted bs = holds (valid (read_list bs) ∷ same (list_bytes (read_list bs)) bs ∷ [])
