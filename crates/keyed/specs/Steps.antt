-- What becomes of a keyed hash: started with a key, with a piece added, ended by its tag, which is written or compared. `keyed_of` is the
-- keyed hash that a key and a message lead to. SPEC, "Keyed digests".
use Rattle.std.specs.Prelude.{ℕ, ◌+◌, not, List, [], ◌∷◌, ltb, length}
use Rattle.answers.specs.Judged.{Test, ◌when◌}
use Rattle.slices.specs.Tests.{same}
use Rattle.fips.specs.Editions.{known, digest_bytes}
use Rattle.dwsha2.specs.Limit.{too_long}
use Rattle.dwsha2.specs.Code.Hashing.{finished, digest_from}
use Rattle.halfread.specs.Steps.{opened, closed_digest}
use Rattle.halfread.specs.Steps as half
use Rattle.hmac.specs.Hmac.{B, inner_block, outer_block}
use Rattle.keyed.specs.declared.Keyed.{Keyed}
use Rattle.keyed.specs.State.{sound}

-- ---- start: 5, 7

unfoldable pub start_tests : ℕ → List ℕ → List Test
start_tests e key = 5 when not (known e) ∷ 7 when too_long e 0 (length key) ∷ []

-- the inner message has taken the key's inner block; the outer words are those of a message that has taken its outer block
unfoldable pub started : ℕ → List ℕ → Keyed
started e key = record { inner = half.added (opened e) (inner_block e key); outer = (half.added (opened e) (outer_block e key)).words }

-- the digest of a message whose first block left the outer words, and whose rest is the digest of the inner message
unfoldable pub outer_digest : ℕ → List ℕ → List ℕ → List ℕ
outer_digest e outer inner = digest_from e (finished e outer (B e + digest_bytes e) inner 0 0)

module _ (k : Keyed) where
  -- ---- add: 6, 7

  unfoldable pub add_tests : List ℕ → List Test
  add_tests piece = 6 when not (sound k) ∷ 7 when too_long k.inner.edition k.inner.count (length piece) ∷ []

  unfoldable pub added : List ℕ → Keyed
  added piece = record { inner = half.added k.inner piece; outer = k.outer }

  -- ---- the tag

  unfoldable pub tag_of : List ℕ
  tag_of = outer_digest k.inner.edition k.outer (closed_digest k.inner 0 0)

  -- ---- end, written: 6, 9; and compared: 6, 14

  unfoldable pub tag_tests : List ℕ → List Test
  tag_tests out = 6 when not (sound k) ∷ 9 when ltb (length out) (digest_bytes k.inner.edition) ∷ []

  unfoldable pub check_tests : List ℕ → List Test
  check_tests tag = 6 when not (sound k) ∷ 14 when not (same tag tag_of) ∷ []

-- ---- a key and a message

unfoldable pub keyed_of : ℕ → List ℕ → List ℕ → Keyed
keyed_of e key message = added (started e key) message
