-- The closing bits of a message, and when they are refused with 8: SPEC, "Padding" and "Calls and their numbers".
use Rattle.std.specs.Prelude.{ℕ, ◌-◌, ◌%◌, ◌^◌, Bool, ◌&&◌, leb, eqb}

-- less than a byte of them, and only zeros behind them in the closing byte
unfoldable pub closing_fits : ℕ → ℕ → Bool
closing_fits closing b = leb b 7 && eqb (closing % 2 ^ (8 - b)) 0
