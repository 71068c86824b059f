-- The rules of SPEC, "Digest list", one by one, for bytes that are read once from front to end.
-- That `by_rules` says the same as `accepted` is the theorem `by-rules`.
use Rattle.std.specs.Prelude.{Bool, false, cond, List, [], ◌∷◌, ℕ, zero, suc, ◌+◌, ◌-◌, eqb, leb, length, drop}
use Rattle.bigendian.specs.Rows.{field_in}
use Rattle.fips.specs.Editions.{known}
use Rattle.slices.specs.Parts.{part}
use Rattle.slices.specs.Tests.{holds, same}
use Rattle.lists.specs.Calls.{pair_in}
use Rattle.lists.specs.Order.{before}
use Rattle.lists.specs.Lists.{most_entries, name_allowed}
use Rattle.lists.specs.Layout.{offset_size, entries_field_at, names_field_at, whole_field_at, entries_at, entry_size, names_at}
use Rattle.lists.specs.Layout.{edition_in, count_in, digest_size_in, name_offset, name_length}

-- the header's offsets and its length are those of a list whose names stand at `names`, which is within the bytes
unfoldable pub offsets_right : ℕ → List ℕ → Bool
offsets_right names bs =
    holds
    (eqb (field_in bs entries_field_at offset_size) entries_at
    ∷ eqb (field_in bs names_field_at offset_size) names
    ∷ eqb (field_in bs whole_field_at offset_size) (length bs)
    ∷ leb names (length bs)
    ∷ [])

unfoldable pub header_right : List ℕ → Bool
header_right bs =
    holds
    (leb entries_at (length bs)
    ∷ known (edition_in bs)
    ∷ leb (count_in bs) most_entries
    ∷ offsets_right (names_at (count_in bs) (digest_size_in bs)) bs
    ∷ [])

-- an entry's name stands at `next`, ends within the list, is allowed, and comes after the name before it
unfoldable pub entry_right : List ℕ → ℕ → List ℕ → List ℕ → Bool
entry_right last next entry bs =
    let name = part bs next (name_length entry) in
    holds (eqb (name_offset entry) next ∷ leb (name_length entry) (length bs - next) ∷ name_allowed name ∷ before last name ∷ [])

-- so many entries of that size are right one after the other, and the names end where the list ends
unfoldable pub entries_right : ℕ → ℕ → List ℕ → ℕ → List ℕ → List ℕ → Bool
entries_right zero size last next entries bs = eqb next (length bs)
entries_right (suc n) size last next entries bs =
    let len = name_length entries in
    cond (entry_right last next entries bs) (entries_right n size (part bs next len) (next + len) (drop size entries) bs) false

-- how many names come before one that is looked for, with one entry more, whose number is i and whose name comes before it or not
unfoldable pub more_earlier : ℕ → ℕ → Bool → ℕ
more_earlier n i b = cond (eqb n i) (cond b (suc n) n) n

-- there is an entry of that number, and it has the name
unfoldable pub names_entry : List ℕ → ℕ → List ℕ → Bool
names_entry bs i name = cond (leb (count_in bs) i) false (same (pair_in i bs).name name)

unfoldable pub by_rules : List ℕ → Bool
by_rules bs =
    let d = digest_size_in bs in
    cond (header_right bs) (entries_right (count_in bs) (entry_size d) [] (names_at (count_in bs) d) (drop entries_at bs) bs) false
