-- A half-read message and when it is sound: SPEC, "The table of bays".
use Rattle.std.specs.Prelude.{ℕ, ◌%◌, ◌^◌, ◌<◌, Bool, not, ◌||◌, List, [], ◌∷◌, ◌≡◌, leb, length, take, drop, replicate}
use Rattle.slices.specs.Below.{Below, Bytes}
use Rattle.fips.specs.Words.{word, block_bytes}
use Rattle.fips.specs.Editions.{known, width, start}
use Rattle.slices.specs.Padded.{padded as padded_to}
use Rattle.dwsha2.specs.Limit.{too_long}
use Rattle.halfread.specs.declared.HalfRead.{HalfRead}
use Rattle.slices.specs.Tests.{holds, all_below, all_zero, same}

-- how many chaining words a state has; and how many bytes its tail has room for: those of the longest block
abbrev pub chain_room : ℕ
chain_room = 8

abbrev pub tail_room : ℕ
tail_room = 128

module _ (h : HalfRead) where
  -- the bytes of a block, and how many bytes of the tail are taken
  abbrev pub block_of : ℕ
  block_of = block_bytes (width h.edition)

  abbrev pub tail_length : ℕ
  tail_length = h.count % block_of

  -- the tail: the bytes after the last whole block
  abbrev pub pending : List ℕ
  pending = take tail_length h.tail

  -- the five rules of a taken bay, in SPEC's order: edition, length, words, tail, start
  abbrev pub rules : List Bool
  rules =
      known h.edition
      ∷ not (too_long h.edition h.count 0)
      ∷ all_below (2 ^ word (width h.edition)) h.words
      ∷ all_zero (drop tail_length h.tail)
      ∷ (leb block_of h.count || same h.words (start h.edition))
      ∷ []

  unfoldable pub sound : Bool
  sound = holds rules

-- the state of an empty bay: all zeros
unfoldable pub blank : HalfRead
blank = record { edition = 0; count = 0; words = replicate chain_room 0; tail = replicate tail_room 0 }

-- the bytes of a tail with zeros behind them
abbrev pub padded : List ℕ → List ℕ
padded bytes = padded_to tail_room bytes

-- what every value of the struct has, whatever it holds: eight words of 64 bits and the bytes of a tail
pub record Shaped (h : HalfRead) : Type 0 where
  pub eight : length h.words ≡ chain_room
  pub wide : length h.tail ≡ tail_room
  pub number : h.edition < 2 ^ 64
  pub counted : h.count < 2 ^ 64
  pub fitting : Below (2 ^ 64) h.words
  pub bytes : Bytes h.tail
