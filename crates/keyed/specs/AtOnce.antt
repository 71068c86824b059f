-- A tag at once, made and compared: the refusals in their order, and what is left. SPEC, "Keyed digests".
use Rattle.std.specs.Prelude.{ℕ, not, ◌||◌, List, [], ◌∷◌, ◌++◌, ltb, length}
use Rattle.answers.specs.Judged.{Test, ◌when◌, Judged}
use Rattle.slices.specs.AtFront.{at_front}
use Rattle.slices.specs.Tests.{same}
use Rattle.fips.specs.Editions.{known, digest_bytes}
use Rattle.dwsha2.specs.Limit.{too_long}
use Rattle.hmac.specs.Hmac.{B, hmac}

-- 5, 7: the edition; the bytes of the key, or a block and the bytes of the message, pass the limit
abbrev pub length_tests : ℕ → ℕ → ℕ → List Test
length_tests e k n = 5 when not (known e) ∷ 7 when (too_long e 0 k || too_long e (B e) n) ∷ []

module _ (e : ℕ) (key message : List ℕ) where
  -- ---- made: 5, 7, 9

  unfoldable pub tag_at_once_tests : List ℕ → List Test
  tag_at_once_tests out = length_tests e (length key) (length message) ++ (9 when ltb (length out) (digest_bytes e) ∷ [])

  -- the tag at the front of the output
  abbrev pub Tags : List ℕ → ℕ → List ℕ → Type 0
  Tags out n left = Judged (tag_at_once_tests out) out (at_front (hmac e key message) out) n left

  -- ---- compared: 5, 7, 14

  unfoldable pub check_at_once_tests : List ℕ → List Test
  check_at_once_tests tag = length_tests e (length key) (length message) ++ (14 when not (same tag (hmac e key message)) ∷ [])
