-- Hashing after a block of the key: `after_block`, and the outer hash by it, `outer-digest`. A keyed hash that a key and a message lead to
-- has FIPS 198-1's tag: `tag-hmac`.
use Prim.Native.Nat.{ℕ, ◌+◌}
use mathlib.Core.List.{List, ◌++◌, append-nil}
use mathlib.Core.Path.{◌≡◌, refl, sym, ap, ap₂, ◌∙◌}
use native.Mathlib.Omega.{arith}
use lib.Dec.{lit<}
use lib.ListN.{length, length-append}
use Rattle.slices.specs.Below.{Bytes}
use Rattle.slices.proofs.Below.{below-append}
use Rattle.fips.specs.Bits.{bits_of}
use Rattle.fips.specs.Editions.{start, digest_bytes, digest}
use Rattle.fips.specs.Message.{message}
use Rattle.fips.proofs.Digest.{length-digest, bytes-digest}
use Rattle.dwsha2.specs.Code.Hashing.{absorbed, finished, digest_from}
use Rattle.dwsha2.proofs.AtOnce.{digest-at-once}
use Rattle.dwsha2.proofs.Finished.{finished-after}
use Rattle.halfread.specs.declared.HalfRead.{HalfRead}
use Rattle.halfread.specs.State.{tail_room}
use Rattle.halfread.specs.Steps.{opened, closed_digest}
use Rattle.halfread.specs.Steps as half
use Rattle.halfread.proofs.Adding as half-laws
use Rattle.halfread.proofs.Closing.{given-block, closed-digest}
use Rattle.hmac.specs.Hmac.{B, H, inner_block, outer_block, hmac}
use Rattle.hmac.proofs.Blocks.{length-inner, length-outer, bytes-inner, bytes-outer}
use Rattle.keyed.specs.Steps.{started, added, outer_digest, tag_of, keyed_of}

opened-wide : (e : ℕ) → length (opened e).tail ≡ tail_room
unfolding opened
opened-wide e = refl

opened-edition : (e : ℕ) (a b : List ℕ) → (half.added (half.added (opened e) a) b).edition ≡ e
unfolding opened half.added
opened-edition e a b = refl

-- whole bytes as a message
whole-bytes : (bytes : List ℕ) → message bytes 0 0 ≡ bits_of bytes
unfolding message
whole-bytes bytes = append-nil (bits_of bytes)

module _ (e : ℕ) where
  pub finished-digest : (bytes : List ℕ) → Bytes bytes → digest_from e (finished e (start e) (length bytes) bytes 0 0) ≡ H e bytes
  finished-digest bytes all = digest-at-once e bytes 0 0 all (lit< tt) (omega arith) ∙ ap (digest e) (whole-bytes bytes)

  -- from the words after a block on
  pub after_block : (block bytes : List ℕ) → length block ≡ B e → Bytes block → Bytes bytes →
      digest_from e (finished e (absorbed e (start e) block) (B e + length bytes) bytes 0 0) ≡ H e (block ++ bytes)
  after_block block bytes long all more =
      let count : B e + length bytes ≡ length (block ++ bytes) = omega (arith, length-append block bytes) in
      ap (digest_from e)
      (ap (λ (c : ℕ). finished e (absorbed e (start e) block) c bytes 0 0) count
      ∙ finished-after e (start e) (length (block ++ bytes)) 1 block bytes 0 0 (omega arith))
      ∙ finished-digest (block ++ bytes) (below-append block bytes all more)

  module _ (key : List ℕ) (all : Bytes key) where
    pub outer-digest : (bytes : List ℕ) → length bytes ≡ digest_bytes e → Bytes bytes →
        outer_digest e (absorbed e (start e) (outer_block e key)) bytes ≡ H e (outer_block e key ++ bytes)
    unfolding outer_digest
    outer-digest bytes long more =
        ap (λ (n : ℕ). digest_from e (finished e (absorbed e (start e) (outer_block e key)) (B e + n) bytes 0 0)) (sym long)
        ∙ after_block (outer_block e key) bytes (length-outer e key) (bytes-outer e key all) more

    -- the inner hash's digest, whatever has it, makes the tag
    pub tag-from : (m : List ℕ) {D : List ℕ} → D ≡ H e (inner_block e key ++ m) →
        outer_digest e (absorbed e (start e) (outer_block e key)) D ≡ hmac e key m
    unfolding hmac
    tag-from m is =
        let bits = bits_of (inner_block e key ++ m) in
        ap (outer_digest e (absorbed e (start e) (outer_block e key))) is
        ∙ outer-digest (H e (inner_block e key ++ m)) (length-digest e bits) (bytes-digest e bits)

    -- the steps of a tag at once, put together
    pub tag-at-once : (m : List ℕ) → Bytes m → {outer inner last : List ℕ} {c : ℕ} → outer ≡ absorbed e (start e) (outer_block e key) →
        inner ≡ absorbed e (start e) (inner_block e key) → c ≡ B e + length m → last ≡ finished e inner c m 0 0 →
        outer_digest e outer (digest_from e last) ≡ hmac e key m
    tag-at-once m more is_outer is_inner is_count is_last =
        let I = inner_block e key in
        let words = is_last ∙ ap₂ (λ (w : List ℕ) (n : ℕ). finished e w n m 0 0) is_inner is_count in
        ap₂ (outer_digest e) is_outer (ap (digest_from e) words)
        ∙ tag-from m (after_block I m (length-inner e key) (bytes-inner e key all) more)

    pub tag-hmac : (m : List ℕ) → Bytes m → tag_of (keyed_of e key m) ≡ hmac e key m
    unfolding tag_of keyed_of started added
    tag-hmac m more =
        let I = inner_block e key in
        let outer = (half.added (opened e) (outer_block e key)).words in
        let inner : half.added (half.added (opened e) I) m ≡ half.added (opened e) (I ++ m) =
        half-laws.added-append (opened e) (opened-wide e) I m in
        let digest-of : closed_digest (half.added (half.added (opened e) I) m) 0 0 ≡ H e (I ++ m) =
        ap (λ (h : HalfRead). closed_digest h 0 0) inner
        ∙ closed-digest e (I ++ m) 0 0 (below-append I m (bytes-inner e key all) more) (lit< tt) (lit< tt)
        ∙ ap (digest e) (whole-bytes (I ++ m)) in
        ap (λ (n : ℕ). outer_digest n outer (closed_digest (half.added (half.added (opened e) I) m) 0 0)) (opened-edition e I m)
        ∙ ap₂ (outer_digest e) (ap (λ (h : HalfRead). h.words) (given-block e (outer_block e key) (length-outer e key))) digest-of
        ∙ tag-from m refl
