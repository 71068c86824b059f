-- The key as a block: `length-block_key`, it has as many bytes as a block, and so have the two blocks made of it, `length-inner` and
-- `length-outer`; they are bytes, `bytes-inner` and `bytes-outer`. `long-key`, `short-key` and `exact_key`: which key is
-- hashed. A tag is as long as a digest: `length-hmac`.
use Prim.Native.Nat.{ℕ, zero, suc, ◌-◌, ◌≤◌, ◌<◌}
use mathlib.Core.Bool.{Bool, true, false, cond}
use mathlib.Core.List.{List, [], ◌∷◌, ◌++◌, append-nil}
use mathlib.Core.Path.{◌≡◌, refl, ap, ◌∙◌}
use native.Mathlib.Omega.{arith}
use borrow.Author.Tests.{lt-ltb, le-ltb, ltb-false}
use lib.Bits.{bit_xor, xor_lt}
use lib.Dec.{ltb, lit<}
use lib.ListN.{length, take, replicate, length-append, length-replicate, length-map}
use Rattle.slices.specs.Below.{Bytes}
use Rattle.slices.proofs.Below.{below-append, below-replicate, below-nil, below-cons}
use Rattle.fips.specs.Bits.{bits_of}
use Rattle.fips.specs.Editions.{digest_bytes}
use Rattle.fips.proofs.Digest.{length-digest, bytes-digest}
use Rattle.fips.proofs.Editions.{digest-within, width_some}
use Rattle.hmac.specs.Hmac.{inner_byte, outer_byte, xored, B, H, filled, block_key, inner_block, outer_block, hmac}

-- ---- bytes xored

pub length-xored : (pad : ℕ) (bytes : List ℕ) → length (xored pad bytes) ≡ length bytes
length-xored pad bytes = length-map bytes (bit_xor pad)

pub bytes-xored : (pad : ℕ) (bytes : List ℕ) → pad < 256 → Bytes bytes → Bytes (xored pad bytes)
bytes-xored pad [] small all = below-nil 256 (lit< tt)
bytes-xored pad (x ∷ xs) small all =
    below-cons (xored pad xs) (xor_lt 8 pad x small (all zero)) (bytes-xored pad xs small (λ i. all (suc i)))

pub take-xored : (n pad : ℕ) (bytes : List ℕ) → take n (xored pad bytes) ≡ xored pad (take n bytes)
take-xored zero pad bytes = refl
take-xored (suc n) pad [] = refl
take-xored (suc n) pad (x ∷ xs) = ap (λ (l : List ℕ). bit_xor pad x ∷ l) (take-xored n pad xs)

module _ (e : ℕ) where
  -- ---- the key as a block

  -- a digest is shorter than a block
  pub digest-lt : digest_bytes e < B e
  digest-lt = omega (arith, digest-within e, width_some e)

  pub long-key : (key : List ℕ) → B e < length key → block_key e key ≡ filled e (H e key)
  unfolding block_key
  long-key key h = rw (lt-ltb (B e) (length key) h)

  pub short-key : (key : List ℕ) → length key ≤ B e → block_key e key ≡ filled e key
  unfolding block_key
  short-key key h = rw (le-ltb (B e) (length key) h)

  -- one of exactly a block is taken as it is
  pub exact_key : (key : List ℕ) → length key ≡ B e → block_key e key ≡ key
  exact_key key long =
      let none : B e - length key ≡ 0 = omega arith in
      short-key key (omega arith) ∙ ap (λ (n : ℕ). key ++ replicate n 0) none ∙ append-nil key

  -- what is filled finds room in a block
  fitting : (b : Bool) (key : List ℕ) → ltb (B e) (length key) ≡ b → length (cond b (H e key) key) ≤ B e
  fitting true key p = omega (arith, length-digest e (bits_of key), digest-lt)
  fitting false key p = ltb-false (B e) (length key) p

  length-filled : (bytes : List ℕ) → length bytes ≤ B e → length (filled e bytes) ≡ B e
  length-filled bytes h =
      length-append bytes (replicate (B e - length bytes) 0)
      ∙ omega (arith, length-replicate {A = ℕ} (B e - length bytes) 0)

  pub length-block_key : (key : List ℕ) → length (block_key e key) ≡ B e
  unfolding block_key
  length-block_key key = length-filled (cond (ltb (B e) (length key)) (H e key) key) (fitting (ltb (B e) (length key)) key refl)

  filled-bytes : (bytes : List ℕ) → Bytes bytes → Bytes (filled e bytes)
  filled-bytes bytes all =
      let n = B e - length bytes in
      below-append bytes (replicate n 0) all (below-replicate n (lit< tt))

  either-bytes : (b : Bool) (key : List ℕ) → Bytes key → Bytes (cond b (H e key) key)
  either-bytes true key all = bytes-digest e (bits_of key)
  either-bytes false key all = all

  pub bytes-block_key : (key : List ℕ) → Bytes key → Bytes (block_key e key)
  unfolding block_key
  bytes-block_key key all =
      let b = ltb (B e) (length key) in
      filled-bytes (cond b (H e key) key) (either-bytes b key all)

  -- ---- the two blocks

  module _ (key : List ℕ) where
    pub length-inner : length (inner_block e key) ≡ B e
    unfolding inner_block
    length-inner = length-xored inner_byte (block_key e key) ∙ length-block_key key

    pub length-outer : length (outer_block e key) ≡ B e
    unfolding outer_block
    length-outer = length-xored outer_byte (block_key e key) ∙ length-block_key key

    pub bytes-inner : Bytes key → Bytes (inner_block e key)
    unfolding inner_block
    bytes-inner all = bytes-xored inner_byte (block_key e key) (lit< tt) (bytes-block_key key all)

    pub bytes-outer : Bytes key → Bytes (outer_block e key)
    unfolding outer_block
    bytes-outer all = bytes-xored outer_byte (block_key e key) (lit< tt) (bytes-block_key key all)

  pub length-hmac : (key text : List ℕ) → length (hmac e key text) ≡ digest_bytes e
  unfolding hmac
  length-hmac key text = length-digest e (bits_of (outer_block e key ++ H e (inner_block e key ++ text)))
