-- What the calls on a list answer: SPEC, "Digest list" (looking up) and "Calls and their numbers" (12, 13, 14).
-- `Finds` says what looking for a name answers, its number and where the digest lies, and `listed_digest` is that digest; `pair_in` has the
-- pairs by number, with their places; `judge_tests` are the refusals of judge in their order.
use Rattle.std.specs.Prelude.{Bool, true, false, cond, not, List, [], ◌∷◌, ◌++◌, ℕ, ◌+◌, ◌*◌, drop, get_or, Result, Ok, Err}
use Rattle.answers.specs.declared.Refusal.{Refusal}
use Rattle.answers.specs.Judged.{Test, ◌when◌, Judged}
use Rattle.lists.specs.declared.Found.{Found}
use Rattle.slices.specs.Tests.{same}
use Rattle.lists.specs.Lists.{Pair}
use Rattle.lists.specs.Layout.{entries_at, entry_head, entry_size, digest_size_in, name_offset, read_list, accepted}

-- ---- a name looked for

unfoldable pub listed : List ℕ → List Pair → Bool
listed name [] = false
listed name (p ∷ ps) = cond (same p.name name) true (listed name ps)

-- the digest of that name, [] without one
unfoldable pub digest_in : List ℕ → List Pair → List ℕ
digest_in name [] = []
digest_in name (p ∷ ps) = cond (same p.name name) p.digest (digest_in name ps)

-- the digest of that name in the list, [] without a list or without the name
unfoldable pub listed_digest : List ℕ → List ℕ → List ℕ
listed_digest bs name = cond (accepted bs) (digest_in name (read_list bs).pairs) []

-- where the digest of that name begins, if entries with digests of d bytes start at the offset given; 0 without one
unfoldable pub place_in : List ℕ → ℕ → ℕ → List Pair → ℕ
place_in name d at [] = 0
place_in name d at (p ∷ ps) = cond (same p.name name) (at + entry_head) (place_in name d (at + entry_size d) ps)

-- where it begins in the list
unfoldable pub listed_place : List ℕ → List ℕ → ℕ
listed_place bs name = place_in name (digest_size_in bs) entries_at (read_list bs).pairs

-- where a digest lies in the list: its place, and how long it is
pub record Spot : Type 0 where
  pub at : ℕ
  pub length : ℕ

abbrev pub spot : ℕ → ℕ → Spot
spot at len = record { at = at; length = len }

abbrev pub no_spot : Spot
no_spot = spot 0 0

-- where the answer says that the digest lies
abbrev pub found_spot : Result Found Refusal → Spot
found_spot (Ok f) = spot f.start f.len
found_spot (Err r) = no_spot

-- the bytes are no list; the name has no entry
unfoldable pub find_tests : List ℕ → List ℕ → List Test
find_tests bs name = 12 when not (accepted bs) ∷ 13 when not (listed name (read_list bs).pairs) ∷ []

-- looking for the name in the list answers the number n and says where its digest lies
abbrev pub Finds : List ℕ → List ℕ → ℕ → Spot → Type 0
Finds bs name n says = Judged (find_tests bs name) no_spot (spot (listed_place bs name) (digest_size_in bs)) n says

-- ---- pairs by number

-- the pair of that number, counted from 0; no bytes where there is none
unfoldable pub pair_in : ℕ → List ℕ → Pair
pair_in i bs = get_or (read_list bs).pairs i (record { name = []; digest = [] })

-- where its entry begins, where in it the digest does, and where the entry says that the name does
abbrev pub place_of_entry : ℕ → List ℕ → ℕ
place_of_entry i bs = entries_at + i * entry_size (digest_size_in bs)

abbrev pub place_of_digest : ℕ → List ℕ → ℕ
place_of_digest i bs = place_of_entry i bs + entry_head

abbrev pub place_of_name : ℕ → List ℕ → ℕ
place_of_name i bs = name_offset (drop (place_of_entry i bs) bs)

-- ---- a digest judged

-- the refusals of looking for the name; its digest is another, in a byte or in length
unfoldable pub judge_tests : List ℕ → List ℕ → List ℕ → List Test
judge_tests bs name digest = find_tests bs name ++ (14 when not (same (listed_digest bs name) digest) ∷ [])
