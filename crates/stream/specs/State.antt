-- A stream by value and when it is sound: SPEC, "Tree over a stream". Sound is the one form of what it holds: `state_of`.
use Rattle.std.specs.Prelude.{ℕ, ◌*◌, Bool, ◌||◌, ◌≡◌, leb, ltb, eqb, length, take, drop}
use mathlib.Core.List.{List, [], ◌∷◌, ◌++◌, flatten}
use Rattle.std.specs.Int.Count.{ones}
use Rattle.slices.specs.Padded.{padded}
use Rattle.slices.specs.Tests.{holds, all_zero}
use Rattle.fips.specs.Bits.{pieces}
use Rattle.treerule.specs.Root.{chunk_bytes, node_bytes, Node}
use Rattle.stream.specs.declared.Stream.{Stream}

-- house: at most 2^32 chunks. No number up to that has more than 32 ones, and there is room for as many roots
abbrev pub most_chunks : ℕ
most_chunks = 4294967296

abbrev pub root_room : ℕ
root_room = 32 * node_bytes

-- the stream of so many finished chunks, with these roots and these bytes after the chunks
unfoldable pub state_of : ℕ → List Node → List ℕ → Stream
state_of chunks roots bytes =
    record { chunks = chunks; further = length bytes; roots = padded root_room (flatten roots); bytes = padded chunk_bytes bytes }

-- nothing is taken
abbrev pub begun : Stream
begun = state_of 0 [] []

-- the counts: at most so many chunks, fewer bytes after them than a chunk has, and none at the limit
abbrev pub count_rules : ℕ → ℕ → List Bool
count_rules chunks further = leb chunks most_chunks ∷ ltb further chunk_bytes ∷ (ltb chunks most_chunks || eqb further 0) ∷ []

-- the roots that so many chunks have in a buffer: one for each one in their number
abbrev pub roots_in : ℕ → List ℕ → List Node
roots_in chunks buffer = pieces node_bytes (ones chunks) buffer

module _ (s : Stream) where
  -- the roots held
  abbrev pub held : List Node
  held = roots_in s.chunks s.roots

  -- the bytes after the finished chunks
  abbrev pub bytes_of : List ℕ
  bytes_of = take s.further s.bytes

  -- the counts, and zeros behind the roots and behind the bytes; what the roots are is not judged
  abbrev pub rules : List Bool
  rules =
      count_rules s.chunks s.further
      ++ (all_zero (drop (ones s.chunks * node_bytes) s.roots) ∷ all_zero (drop s.further s.bytes) ∷ [])

  unfoldable pub sound : Bool
  sound = holds rules

-- what every value of the struct has, whatever it holds
pub record Shaped (s : Stream) : Type 0 where
  pub roots : length s.roots ≡ root_room
  pub bytes : length s.bytes ≡ chunk_bytes
