-- A keyed hash by value and when it is sound: SPEC, "Keyed digests".
use Rattle.std.specs.Prelude.{ℕ, ◌^◌, Bool, List, [], ◌∷◌, ◌≡◌, leb, length, replicate}
use Rattle.slices.specs.Below.{Below}
use Rattle.slices.specs.Tests.{holds, all_below}
use Rattle.fips.specs.Words.{word}
use Rattle.fips.specs.Editions.{width}
use Rattle.halfread.specs.State as half
use Rattle.halfread.specs.State.{chain_room, block_of}
use Rattle.keyed.specs.declared.Keyed.{Keyed}

-- the bytes of the longest tag
abbrev pub tag_room : ℕ
tag_room = 64

-- all zeros
unfoldable pub blank : Keyed
blank = record { inner = half.blank; outer = replicate chain_room 0 }

module _ (k : Keyed) where
  -- beside the rules of a taken bay: a block or more is taken, and the outer words are below 2^w; whether a key leads to them is not judged
  abbrev pub more_rules : List Bool
  more_rules = leb (block_of k.inner) k.inner.count ∷ all_below (2 ^ word (width k.inner.edition)) k.outer ∷ []

  -- the five rules of a taken bay, and these
  unfoldable pub sound : Bool
  sound = holds (half.sound k.inner ∷ more_rules)

-- what every value of the struct has, whatever it holds
pub record Shaped (k : Keyed) : Type 0 where
  pub inner : half.Shaped k.inner
  pub eight : length k.outer ≡ chain_room
  pub fitting : Below (2 ^ 64) k.outer
