-- Writing a digest list: SPEC, "Writing a list". The list is the front of a buffer, as long as its own length field says: `front_list`.
-- `Starts` and `Puts` say what the two calls answer and leave: refusals in their order, and else at the front of the buffer the empty list,
-- or the list with the pair `inserted` in the order of names; the rest of the buffer stays.
use Rattle.std.specs.Prelude.{not, cond, List, [], ◌∷◌, ℕ, ◌+◌, eqb, leb, ltb, length, take}
use Rattle.answers.specs.Judged.{Test, ◌when◌, Judged}
use Rattle.bigendian.specs.Rows.{field_in}
use Rattle.fips.specs.Editions.{known}
use Rattle.slices.specs.AtFront.{at_front}
use Rattle.slices.specs.Below.{Bytes}
use Rattle.lists.specs.Order.{before}
use Rattle.lists.specs.Lists.{Pair, DigestList, most_entries, name_allowed}
use Rattle.lists.specs.Layout.{offset_size, whole_field_at, entries_at, entry_size, digest_size_in, list_bytes, read_list, accepted}
use Rattle.lists.specs.Calls.{listed}

abbrev pub pair : List ℕ → List ℕ → Pair
pair name digest = record { name = name; digest = digest }

-- ---- starting

abbrev pub empty_list : ℕ → DigestList
empty_list e = record { edition = e; pairs = [] }

-- the edition is unknown; the buffer has no room for a header
unfoldable pub start_tests : ℕ → List ℕ → List Test
start_tests e buffer = 5 when not (known e) ∷ 9 when ltb (length buffer) entries_at ∷ []

unfoldable pub started : ℕ → List ℕ → List ℕ
started e buffer = at_front (list_bytes (empty_list e)) buffer

-- start answered the number n, and left the buffer as it is then
abbrev pub Starts : ℕ → List ℕ → ℕ → List ℕ → Type 0
Starts e buffer n left = Judged (start_tests e buffer) buffer (started e buffer) n left

-- ---- putting a pair

-- as many bytes as the field for the whole length says, all where there are fewer
abbrev pub front_list : List ℕ → List ℕ
front_list buffer = take (field_in buffer whole_field_at offset_size) buffer

-- the pair behind every pair whose name comes before its own
unfoldable pub inserted : Pair → List Pair → List Pair
inserted p [] = p ∷ []
inserted p (q ∷ qs) = cond (before q.name p.name) (q ∷ inserted p qs) (p ∷ (q ∷ qs))

abbrev pub with_pair : Pair → DigestList → DigestList
with_pair p l = record { edition = l.edition; pairs = inserted p l.pairs }

-- no list at the front; a name that no list may have; a digest of another size than the list's; a name that is there; as many entries as
-- a list may have; no room for one entry and one name more
unfoldable pub put_tests : List ℕ → List ℕ → List ℕ → List Test
put_tests buffer name digest =
    let bs = front_list buffer in
    12 when not (accepted bs)
    ∷ 15 when not (name_allowed name)
    ∷ 14 when not (eqb (length digest) (digest_size_in bs))
    ∷ 16 when listed name (read_list bs).pairs
    ∷ 17 when leb most_entries (length (read_list bs).pairs)
    ∷ 9 when ltb (length buffer) (length bs + entry_size (length digest) + length name)
    ∷ []

unfoldable pub put_in : List ℕ → List ℕ → List ℕ → List ℕ
put_in buffer name digest = at_front (list_bytes (with_pair (pair name digest) (read_list (front_list buffer)))) buffer

-- put answered the number n, and left the buffer as it is then
abbrev pub Puts : List ℕ → List ℕ → List ℕ → ℕ → List ℕ → Type 0
Puts buffer name digest n left = Judged (put_tests buffer name digest) buffer (put_in buffer name digest) n left

-- what is lent to a put: bytes. The types of the functions see to it, and put hands it on in its contract, so that no theorem about puts
-- that were made has to ask for it
abbrev pub Lends : List ℕ → List ℕ → List ℕ → Type 0
Lends buffer name digest = Bytes buffer × (Bytes name × Bytes digest)
