-- What the layers above build on, for every edition's number: absorbing whole blocks, and finishing a message whose tail is left.
use Rattle.std.specs.Prelude.{ℕ, ◌+◌, ◌*◌, ◌%◌, ◌^◌, List, ◌∷◌, ◌++◌, map, length, take, replicate}
use Rattle.bigendian.specs.BigEndian.{be}
use Rattle.bigendian.specs.Words.{from_words}
use Rattle.fips.specs.Words.{Width, word}
use Rattle.fips.specs.Padding.{zeros}
use Rattle.fips.specs.Constants.{chain}
use Rattle.fips.specs.Editions.{width, digest_bytes}
use Rattle.fips.specs.Code.ByteForm.{closing_byte, parse_bytes}

-- words of 64 bits as words of w bits: words below 2^w are themselves
unfoldable pub fit : Width → List ℕ → List ℕ
fit p H = map (λ x. x % 2 ^ word p) H

-- the chaining words after the whole blocks of the bytes; a rest of less than a block is not looked at
unfoldable pub absorbed : ℕ → List ℕ → List ℕ → List ℕ
absorbed e H bytes = chain (width e) (fit (width e) H) (parse_bytes (width e) bytes)

-- a tail, the closing byte with b bits, zero bytes, and the length of c bytes and b bits
unfoldable pub last_bytes : Width → ℕ → List ℕ → ℕ → ℕ → List ℕ
last_bytes p c tail closing b =
    tail ++ (closing_byte closing b ∷ replicate (zeros p.bytes (length tail)) 0) ++ be (2 * p.bytes) (8 * c + b)

-- how many bytes these are where the tail has n
abbrev pub last_length : Width → ℕ → ℕ
last_length p n = n + 1 + zeros p.bytes n + 2 * p.bytes

-- the last words: c bytes in all, of which the tail is left, and the upper b bits of a closing byte; b counts modulo 8
unfoldable pub finished : ℕ → List ℕ → ℕ → List ℕ → ℕ → ℕ → List ℕ
finished e H c tail closing b = chain (width e) (fit (width e) H) (parse_bytes (width e) (last_bytes (width e) c tail closing (b % 8)))

-- the digest that the last words make
unfoldable pub digest_from : ℕ → List ℕ → List ℕ
digest_from e H = take (digest_bytes e) (from_words (width e).bytes H)
