-- The byte form, which code follows: SPEC, "Padding". Whole bytes throughout; of the closing byte the upper b bits count.
-- That this is the bit form is the theorem `digest-bytes`.
use Rattle.std.specs.Prelude.{ℕ, ◌+◌, ◌-◌, ◌*◌, ◌/◌, ◌^◌, List, ◌∷◌, ◌++◌, map, length, take, replicate}
use Rattle.bigendian.specs.BigEndian.{be}
use Rattle.bigendian.specs.Words.{to_words, from_words}
use Rattle.fips.specs.Bits.{pieces}
use Rattle.fips.specs.Words.{Width, block_bytes}
use Rattle.fips.specs.Padding.{zeros}
use Rattle.fips.specs.Constants.{chain}
use Rattle.fips.specs.Editions.{width, digest_bytes, start}

-- the closing byte as it is hashed: its upper b bits, the 1 bit, zeros
abbrev pub closing_byte : ℕ → ℕ → ℕ
closing_byte closing b = closing / 2 ^ (8 - b) * 2 ^ (8 - b) + 2 ^ (7 - b)

module _ (p : Width) where
  -- what follows c bytes: the closing byte, zero bytes, the length in bits
  unfoldable pub ending : ℕ → ℕ → ℕ → List ℕ
  ending c closing b = (closing_byte closing b ∷ replicate (zeros p.bytes c) 0) ++ be (2 * p.bytes) (8 * c + b)

  unfoldable pub parse_bytes : List ℕ → List (List ℕ)
  parse_bytes bytes = map (to_words 16 p.bytes) (pieces (block_bytes p) (length bytes / block_bytes p) bytes)

  unfoldable pub hash_bytes : List ℕ → List ℕ → ℕ → ℕ → List ℕ
  hash_bytes H bytes closing b = chain p H (parse_bytes (bytes ++ ending (length bytes) closing b))

unfoldable pub digest_of_bytes : ℕ → List ℕ → ℕ → ℕ → List ℕ
digest_of_bytes e bytes closing b =
    take (digest_bytes e) (from_words (width e).bytes (hash_bytes (width e) (start e) bytes closing b))
