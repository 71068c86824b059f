-- FIPS 198-1, HMAC, over bytes and an edition e: SPEC, "Keyed digests". It ends at the digest of bits that FIPS 180-4 defines.
use Rattle.std.specs.Prelude.{ℕ, ◌-◌, cond, List, ◌++◌, map, ltb, length, replicate}
use Rattle.std.specs.Int.Bits.{bit_xor}
use Rattle.fips.specs.Bits.{bits_of}
use Rattle.fips.specs.Words.{block_bytes}
use Rattle.fips.specs.Editions.{width, digest}

-- §2.3: the bytes that ipad and opad repeat
abbrev pub inner_byte : ℕ
inner_byte = 0x36

abbrev pub outer_byte : ℕ
outer_byte = 0x5c

-- §4, step 4 and step 7: each byte of a key xored with one of these
abbrev pub xored : ℕ → List ℕ → List ℕ
xored pad key = map (bit_xor pad) key

module _ (e : ℕ) where
  -- §2.3: B, the bytes of a block; and H, the digest of whole bytes
  abbrev pub B : ℕ
  B = block_bytes (width e)

  abbrev pub H : List ℕ → List ℕ
  H bytes = digest e (bits_of bytes)

  -- zero bytes behind others, B bytes in all
  abbrev pub filled : List ℕ → List ℕ
  filled bytes = bytes ++ replicate (B - length bytes) 0

  -- §4, steps 1 to 3: K0, of B bytes. A key longer than a block is hashed first; one of B bytes stays as it is
  unfoldable pub block_key : List ℕ → List ℕ
  block_key key = filled (cond (ltb B (length key)) (H key) key)

  -- §4, step 4: K0 xored with ipad; and step 7: with opad
  unfoldable pub inner_block : List ℕ → List ℕ
  inner_block key = xored inner_byte (block_key key)

  unfoldable pub outer_block : List ℕ → List ℕ
  outer_block key = xored outer_byte (block_key key)

  -- §4, steps 5 and 6, then 8 and 9
  unfoldable pub hmac : List ℕ → List ℕ → List ℕ
  hmac key text = H (outer_block key ++ H (inner_block key ++ text))
