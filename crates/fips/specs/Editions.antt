-- The six editions, SPEC, "Editions", and the digest of a list of bits: FIPS 180-4 §6.2 to §6.7.
use Rattle.std.specs.Prelude.{ℕ, Bool, ◌&&◌, List, [], ◌∷◌, map, ltb, length, get_or, take, drop, replicate}
use Rattle.bigendian.specs.Words.{from_words}
use Rattle.fips.specs.Words.{Width, w32, w64}
use Rattle.fips.specs.Constants.{hash_from, start224, start256, start384, start512, generated}

-- the width, the bytes of a digest, and the starting words
pub record Edition : Type 0 where
  pub width : Width
  pub digest_bytes : ℕ
  pub start : List ℕ

abbrev pub sha : Width → ℕ → List ℕ → Edition
sha p d H = record { width = p; digest_bytes = d; start = H }

-- what stands at a number that names no edition: a digest of no bytes
abbrev pub no_edition : Edition
no_edition = sha w64 0 (replicate 8 0)

-- the rows of that table, each at its number
unfoldable pub editions : List Edition
editions =
    no_edition
    ∷ sha w32 28 start224
    ∷ sha w32 32 start256
    ∷ sha w64 48 start384
    ∷ sha w64 64 start512
    ∷ sha w64 28 (generated "SHA-512/224")
    ∷ sha w64 32 (generated "SHA-512/256")
    ∷ []

unfoldable pub edition : ℕ → Edition
edition e = get_or editions e no_edition

-- the numbers that name an edition
unfoldable pub known : ℕ → Bool
known e = ltb 0 e && ltb e (length editions)

abbrev pub width : ℕ → Width
width e = (edition e).width

abbrev pub digest_bytes : ℕ → ℕ
digest_bytes e = (edition e).digest_bytes

abbrev pub start : ℕ → List ℕ
start e = (edition e).start

-- the starting words of the editions in order
unfoldable pub start_rows : List (List ℕ)
start_rows = map (λ e. e.start) (drop 1 editions)

-- the digest: from the bytes of the last chaining words, as many as the edition has
unfoldable pub digest : ℕ → List Bool → List ℕ
digest e m = take (digest_bytes e) (from_words (width e).bytes (hash_from (width e) (start e) m))
