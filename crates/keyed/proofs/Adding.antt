-- A keyed hash from its start on: `started-sound` and `started-shaped`; with pieces, `added-append`, `added_none`, `added-sound` and
-- `added-shaped`. A tag's length, `length-tag_of`, and where it stands in a buffer, `front-tag`. A block alone keeps the limit:
-- `block-short`.
use Prim.Native.Nat.{ℕ, ◌+◌, ◌^◌, ◌<◌}
use mathlib.Core.Bool.{true, false}
use mathlib.Core.List.{List, [], ◌++◌}
use mathlib.Core.Path.{◌≡◌, refl, sym, ap, ◌∙◌}
use native.Mathlib.Omega.{arith}
use lib.ListN.{length, take}
use lib.Pow.{pow_mono}
use Rattle.slices.specs.Below.{Bytes}
use Rattle.slices.specs.Padded.{padded}
use Rattle.slices.proofs.Below.{below_more}
use Rattle.slices.proofs.Padded.{take-padded}
use Rattle.fips.specs.Editions.{known, start, digest_bytes}
use Rattle.fips.proofs.Editions.{digest-short}
use Rattle.fips.proofs.Rules.{length-start}
use Rattle.fips.proofs.Sizes.{known_small, bytes-within, block_within}
use Rattle.dwsha2.specs.Limit.{too_long}
use Rattle.dwsha2.specs.Code.Hashing.{absorbed, finished}
use Rattle.dwsha2.proofs.Absorbed.{absorbed-below, length-absorbed}
use Rattle.dwsha2.proofs.Digest.{length-digest_from}
use Rattle.dwsha2.proofs.Finished.{finished-absorbed}
use Rattle.dwsha2.proofs.Limits.{within-limit}
use Rattle.halfread.specs.Steps.{opened, waiting, closed_digest}
use Rattle.halfread.specs.Steps as half
use Rattle.halfread.proofs.Adding as half-laws
use Rattle.halfread.proofs.Opening.{opened-shaped, opened-sound}
use Rattle.hmac.specs.Hmac.{B, inner_block, outer_block}
use Rattle.hmac.proofs.Blocks.{length-inner, bytes-inner}
use Rattle.keyed.specs.declared.Keyed.{Keyed}
use Rattle.keyed.specs.State.{tag_room, sound, Shaped}
use Rattle.keyed.specs.Steps.{started, added, outer_digest, tag_of}
use Rattle.keyed.proofs.Soundness.{sound-has, has-sound}

pub same-keyed : (a b : Keyed) → a.inner ≡ b.inner → a.outer ≡ b.outer → a ≡ b
same-keyed a b i o = λ t. record { inner = i t; outer = o t }

-- a tag is the front of a buffer that has zeros behind it
pub front-tag : (e : ℕ) {tag buffer : List ℕ} {n : ℕ} → length tag ≡ digest_bytes e → n ≡ digest_bytes e → buffer ≡ padded tag_room tag →
    take n buffer ≡ tag
front-tag e {tag} {buffer} {n} long is_n is =
    ap (take n) is ∙ take-padded tag_room tag n (omega (arith, digest-short e)) (long ∙ sym is_n)

-- ---- started

module _ (e : ℕ) where
  pub block-short : too_long e 0 (B e) ≡ false
  block-short = within-limit e 0 (B e) (omega (arith, block_within e))

  module _ (key : List ℕ) (all : Bytes key) where
    -- the inner block is not too long
    inner-short : too_long e 0 (length (inner_block e key)) ≡ false
    inner-short = ap (too_long e 0) (length-inner e key) ∙ block-short

    pub started-shaped : e < 2 ^ 64 → Shaped (started e key)
    unfolding started half.added opened
    started-shaped small =
        let outer = waiting (opened e) (outer_block e key) in
        record {
          inner = half-laws.added-shaped (opened e) (opened-shaped e small) (inner_block e key) (bytes-inner e key all) inner-short;
          eight = length-absorbed e (start e) outer (length-start e);
          fitting =
              below_more (absorbed e (start e) outer) (pow_mono {j = 64} (omega (arith, bytes-within e)))
              (absorbed-below e (start e) outer);
        }

    pub started-sound : known e ≡ true → sound (started e key) ≡ true
    unfolding started half.added opened
    started-sound ok =
        has-sound (started e key)
        (record {
          inner =
              half-laws.added-sound (opened e) (opened-shaped e (omega (arith, known_small e ok))) (inner_block e key)
              (bytes-inner e key all) (opened-sound e ok) inner-short;
          block = omega (arith, length-inner e key);
          below = absorbed-below e (start e) (waiting (opened e) (outer_block e key));
        })

-- ---- with pieces

module _ (k : Keyed) (shape : Shaped k) where
  pub added-append : (a b : List ℕ) → added (added k a) b ≡ added k (a ++ b)
  unfolding added
  added-append a b = same-keyed _ _ (half-laws.added-append k.inner shape.inner.wide a b) refl

  pub added_none : sound k ≡ true → added k [] ≡ k
  unfolding added
  added_none ok = same-keyed _ _ (half-laws.added_none k.inner shape.inner (sound-has k ok).inner) refl

  module _ (a : List ℕ) (all : Bytes a) (room : too_long k.inner.edition k.inner.count (length a) ≡ false) where
    pub added-shaped : Shaped (added k a)
    unfolding added
    added-shaped =
        record {
          inner = half-laws.added-shaped k.inner shape.inner a all room;
          eight = shape.eight;
          fitting = shape.fitting;
        }

    pub added-sound : sound k ≡ true → sound (added k a) ≡ true
    unfolding added half.added
    added-sound ok =
        let f = sound-has k ok in
        has-sound (added k a)
        (record {
          inner = half-laws.added-sound k.inner shape.inner a all f.inner room;
          block = omega (arith, f.block);
          below = f.below;
        })

  -- ---- the tag

  pub length-tag_of : length (tag_of k) ≡ digest_bytes k.inner.edition
  unfolding tag_of outer_digest
  length-tag_of =
      let e = k.inner.edition in
      let inner = closed_digest k.inner 0 0 in
      length-digest_from e (finished e k.outer (B e + digest_bytes e) inner 0 0)
      (ap length (finished-absorbed e k.outer (B e + digest_bytes e) inner 0 0)
      ∙ length-absorbed e k.outer _ shape.eight)
