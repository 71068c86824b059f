-- What a digest list says, and when it is one: SPEC, "Digest list".
-- An edition, and pairs of a name and its digest; `valid` has the conditions on them, and `name_allowed` those on a name.
use Rattle.std.specs.Prelude.{Bool, true, false, cond, List, [], ◌∷◌, ℕ, eqb, leb, length}
use Rattle.fips.specs.Editions.{known, digest_bytes}
use Rattle.slices.specs.Tests.{holds, every, all_below}
use Rattle.lists.specs.Order.{before}

pub record Pair : Type 0 where
  pub name : List ℕ
  pub digest : List ℕ

pub record DigestList : Type 0 where
  pub edition : ℕ
  pub pairs : List Pair

-- house: so many entries at most, and so many bytes of a name
abbrev pub most_entries : ℕ
most_entries = 256

abbrev pub longest_name : ℕ
longest_name = 64

-- a byte that a name may have: one that prints, and no blank
abbrev pub in_name : ℕ → Bool
in_name b = holds (leb 0x21 b ∷ leb b 0x7e ∷ [])

unfoldable pub name_allowed : List ℕ → Bool
name_allowed name = holds (leb 1 (length name) ∷ leb (length name) longest_name ∷ every in_name name ∷ [])

-- a name that is allowed, and a digest of d bytes
unfoldable pub pair_allowed : ℕ → Pair → Bool
pair_allowed d p = holds (name_allowed p.name ∷ eqb (length p.digest) d ∷ all_below 256 p.digest ∷ [])

-- each name comes after the one before it, the first after the name given
unfoldable pub ascending : List ℕ → List Pair → Bool
ascending name [] = true
ascending name (p ∷ ps) = cond (before name p.name) (ascending p.name ps) false

-- a known edition, few enough entries, each pair allowed, names ascending; the empty name comes before every other
unfoldable pub valid : DigestList → Bool
valid l =
    holds
    (known l.edition
    ∷ leb (length l.pairs) most_entries
    ∷ every (pair_allowed (digest_bytes l.edition)) l.pairs
    ∷ ascending [] l.pairs
    ∷ [])
