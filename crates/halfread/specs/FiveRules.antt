-- The five rules of a sound, taken bay as plain facts: SPEC, "The table of bays". They speak of an edition, the bytes taken, the chaining
-- words by number and the bytes of the tail by number; a half-read message, the words of a bay and the bytes of a record each have these.
use Rattle.std.specs.Prelude.{ℕ, ◌%◌, ◌^◌, ◌≤◌, ◌<◌, true, false, ◌≡◌, get_or}
use Rattle.fips.specs.Words.{word, block_bytes}
use Rattle.fips.specs.Editions.{known, width, start}
use Rattle.dwsha2.specs.Limit.{too_long}
use Rattle.halfread.specs.declared.HalfRead.{HalfRead}
use Rattle.halfread.specs.State.{chain_room, tail_room}

pub record FiveRules (e c : ℕ) (chain byte : ℕ → ℕ) : Type 0 where
  pub edition : known e ≡ true
  pub length : too_long e c 0 ≡ false
  pub words : (j : ℕ) → j < chain_room → chain j < 2 ^ word (width e)
  -- the first c mod B bytes may be any, all others are 0
  pub tail : (k : ℕ) → c % block_bytes (width e) ≤ k → k < tail_room → byte k ≡ 0
  pub start : c < block_bytes (width e) → (j : ℕ) → j < chain_room → chain j ≡ get_or (start e) j 0

-- a half-read message that keeps them
abbrev pub Keeps : HalfRead → Type 0
Keeps h = FiveRules h.edition h.count (λ j. get_or h.words j 0) (λ k. get_or h.tail k 0)
