-- How a message of bits is passed to a call: SPEC, "Padding" and "Hash at once". `Passes` is a way that is refused neither with 7 nor
-- with 8, `Within` a message that has such a way.
use Rattle.std.specs.Prelude.{ℕ, ◌/◌, ◌<◌, Bool, true, false, List, ◌≡◌, length}
use Rattle.fips.specs.Message.{message}
use Rattle.slices.specs.Below.{Bytes}
use Rattle.dwsha2.specs.Closing.{closing_fits}
use Rattle.dwsha2.specs.Limit.{too_long}

-- whole bytes, and a closing byte of which the upper bits belong to the message
pub record Way : Type 0 where
  pub bytes : List ℕ
  pub closing : ℕ
  pub bits : ℕ

-- the bits that they are
abbrev pub meant : Way → List Bool
meant w = message w.bytes w.closing w.bits

-- the message has no more whole bytes than the limit allows; fewer than eight bits behind them do not count
abbrev pub Within : ℕ → List Bool → Type 0
Within e m = too_long e 0 (length m / 8) ≡ false

-- the bytes are bytes, nothing refuses them with 7 or the closing bits with 8, and together they are the message
pub record Passes (e : ℕ) (m : List Bool) (w : Way) : Type 0 where
  pub whole : Bytes w.bytes
  pub byte : w.closing < 256
  pub short : too_long e 0 (length w.bytes) ≡ false
  pub fits : closing_fits w.closing w.bits ≡ true
  pub means : meant w ≡ m
