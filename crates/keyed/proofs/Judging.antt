-- An add judged by the add of its inner message: `add-judged`. A tag at once: the edition and the lengths are asked first,
-- `lengths-passed`, and then the tag, `check-first`, or the output, `tag-first`.
use Prim.Native.Nat.{ℕ}
use mathlib.Core.Bool.{Bool, true, false, cond, ◌||◌, true≢false}
use mathlib.Core.List.{List}
use mathlib.Core.Path.{◌≡◌}
use borrow.Author.Tests.{not-false}
use lib.Dec.{ltb}
use lib.ListN.{length}
use Rattle.answers.specs.Judged.{Judged, first}
use Rattle.answers.proofs.Refusals.{judged-map}
use Rattle.answers.proofs.Tests.{passed}
use Rattle.slices.specs.Tests.{holds, same}
use Rattle.fips.specs.Editions.{known, digest_bytes}
use Rattle.dwsha2.specs.Limit.{too_long}
use Rattle.hmac.specs.Hmac.{B, hmac}
use Rattle.halfread.specs.declared.HalfRead.{HalfRead}
use Rattle.halfread.specs.Steps as half
use Rattle.keyed.specs.declared.Keyed.{Keyed}
use Rattle.keyed.specs.State.{more_rules}
use Rattle.keyed.specs.Steps.{add_tests, added}
use Rattle.keyed.specs.AtOnce.{length_tests, tag_at_once_tests, check_at_once_tests}
use Rattle.keyed.proofs.Soundness.{inner-decides}

module _ (k : Keyed) (piece : List ℕ) (kept : holds (more_rules k) ≡ true) where
  -- the same tests
  pub add-tests : add_tests k piece ≡ half.add_tests k.inner piece
  unfolding add_tests half.add_tests
  add-tests = rw (inner-decides k kept)

  -- the inner message in its place
  abbrev with : HalfRead → Keyed
  with h = record { inner = h; outer = k.outer }

  pub add-judged : {n : ℕ} {left : HalfRead} → Judged (half.add_tests k.inner piece) k.inner (half.added k.inner piece) n left →
      Judged (add_tests k piece) k (added k piece) n (with left)
  unfolding added
  add-judged j = rw add-tests (judged-map with j)

-- ---- at once

module _ (e k n : ℕ) where
  -- neither the edition nor a length is refused
  pub record LengthsPass : Type 0 where
    pub ok : known e ≡ true
    pub short : (too_long e 0 k || too_long e (B e) n) ≡ false

  pub lengths-passed : first (length_tests e k n) ≡ 0 → LengthsPass
  lengths-passed none =
      let at = passed (length_tests e k n) tt none in
      record { ok = not-false (known e) (at 0); short = at 1 }

  pub message-short : first (length_tests e k n) ≡ 0 → too_long e (B e) n ≡ false
  message-short none = second (too_long e 0 k) (lengths-passed none).short
    where
      second : (a : Bool) {b : Bool} → (a || b) ≡ false → b ≡ false
      second true p = absurd (true≢false p)
      second false p = p

-- past the edition and the lengths the tag decides
pub check-first : (e : ℕ) (key m tag : List ℕ) → LengthsPass e (length key) (length m) → (b : Bool) → same tag (hmac e key m) ≡ b →
    first (check_at_once_tests e key m tag) ≡ cond b 0 14
unfolding check_at_once_tests first
check-first e key m tag p true is = rw (p.ok, p.short, is)
check-first e key m tag p false is = rw (p.ok, p.short, is)

-- and the output
pub tag-first : (e : ℕ) (key m out : List ℕ) → LengthsPass e (length key) (length m) →
    first (tag_at_once_tests e key m out) ≡ cond (ltb (length out) (digest_bytes e)) 9 0
unfolding tag_at_once_tests first
tag-first e key m out p = rw (p.ok, p.short)
