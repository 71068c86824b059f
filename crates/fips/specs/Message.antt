-- The bits of a message that comes as bytes: SPEC, "Padding". Of the closing byte only the upper b bits belong to it.
-- The other way, `bytes_in` is the whole bytes at the front of a bit string.
use Rattle.std.specs.Prelude.{ℕ, ◌/◌, Bool, List, ◌++◌, map, length, take}
use Rattle.fips.specs.Bits.{bits, value, bits_of, pieces}

-- its bits
unfoldable pub message : List ℕ → ℕ → ℕ → List Bool
message bytes closing b = bits_of bytes ++ take b (bits 8 closing)

-- eight bits a byte; less than eight that are left are not looked at
unfoldable pub bytes_in : List Bool → List ℕ
bytes_in m = map value (pieces 8 (length m / 8) m)
