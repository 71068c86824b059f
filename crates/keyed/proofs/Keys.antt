-- The key as a block in a buffer that has room for the longest, as `block_key` makes it: `long-padded` and `short-padded`. The words after
-- the two blocks that are made of it: `inner-words` and `outer-words`.
use Prim.Native.Nat.{ℕ, ◌+◌, ◌-◌, ◌≤◌, ◌<◌}
use mathlib.Core.List.{List, ◌++◌, append_assoc}
use mathlib.Core.Path.{◌≡◌, sym, ap, ◌∙◌}
use native.Mathlib.Omega.{arith}
use lib.ListN.{length, take, replicate, length-append, length-replicate, replicate-append-replicate}
use Rattle.slices.specs.Below.{Bytes}
use Rattle.fips.specs.Bits.{bits_of}
use Rattle.fips.specs.Editions.{start}
use Rattle.fips.proofs.Digest.{length-digest}
use Rattle.fips.proofs.Sizes.{block_within}
use Rattle.dwsha2.specs.Code.Hashing.{absorbed, finished, digest_from}
use Rattle.halfread.specs.State.{padded, tail_room}
use Rattle.halfread.proofs.Tails.{padded-room, take-padded}
use Rattle.hmac.specs.Hmac.{inner_byte, outer_byte, xored, B, H, filled, block_key, inner_block, outer_block}
use Rattle.hmac.proofs.Blocks.{long-key, short-key, digest-lt, length-block_key}
use Rattle.keyed.proofs.Hashing.{finished-digest}

module _ (e : ℕ) where
  -- zeros up to a block, and up to the longest
  padded-filled : (bytes : List ℕ) → length bytes ≤ B e → padded (filled e bytes) ≡ padded bytes
  padded-filled bytes h =
      let n = B e - length bytes in
      let zeros = replicate {A = ℕ} n 0 in
      let all : length (filled e bytes) ≡ B e = length-append bytes zeros ∙ omega (arith, length-replicate {A = ℕ} n 0) in
      let left = tail_room - length (filled e bytes) in
      let sum : n + left ≡ tail_room - length bytes = omega (arith, all, block_within e) in
      padded-room (filled e bytes) (omega (arith, all, block_within e))
      ∙ append_assoc bytes zeros (replicate left 0)
      ∙ ap (λ (l : List ℕ). bytes ++ l) (replicate-append-replicate n left 0 ∙ ap (λ (m : ℕ). replicate m 0) sum)
      ∙ sym (padded-room bytes (omega (arith, block_within e)))

  module _ (key : List ℕ) where
    pub long-padded : {H₀ words out : List ℕ} → Bytes key → B e < length key → H₀ ≡ start e →
        words ≡ finished e H₀ (length key) key 0 0 → out ≡ padded (digest_from e words) → out ≡ padded (block_key e key)
    long-padded all long is_start is_words is_out =
        is_out
        ∙ ap (λ (w : List ℕ). padded (digest_from e w)) (is_words ∙ ap (λ (w : List ℕ). finished e w (length key) key 0 0) is_start)
        ∙ ap padded (finished-digest e key all)
        ∙ sym
        (ap padded (long-key e key long)
        ∙ padded-filled (H e key) (omega (arith, length-digest e (bits_of key), digest-lt e)))

    pub short-padded : {out : List ℕ} → length key ≤ B e → out ≡ padded key → out ≡ padded (block_key e key)
    short-padded short is_out = is_out ∙ sym (ap padded (short-key e key short) ∙ padded-filled key short)

    -- what a buffer with that block has at its front
    front : {block : List ℕ} → block ≡ padded (block_key e key) → take (B e) block ≡ block_key e key
    front is = ap (take (B e)) is ∙ take-padded (block_key e key) (B e) (block_within e) (length-block_key e key)

    module _ {block words : List ℕ} (is : block ≡ padded (block_key e key)) where
      pub inner-words : words ≡ absorbed e (start e) (xored inner_byte (take (B e) block)) → words ≡ absorbed e (start e)
          (inner_block e key)
      unfolding inner_block
      inner-words w = w ∙ ap (λ (l : List ℕ). absorbed e (start e) (xored inner_byte l)) (front is)

      pub outer-words : words ≡ absorbed e (start e) (xored outer_byte (take (B e) block)) → words ≡ absorbed e (start e)
          (outer_block e key)
      unfolding outer_block
      outer-words w = w ∙ ap (λ (l : List ℕ). absorbed e (start e) (xored outer_byte l)) (front is)
