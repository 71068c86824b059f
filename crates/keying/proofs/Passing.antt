-- When the calls on a keyed hash are done: `start-passed` and `start-passes`, `add-passed` and `add-passes`; what they answer to a sound
-- one: `add-answers`, `tag-answers`, `check-answers`; and that a piece and then another pass exactly where the two in one do:
-- `passes-both`, `passes-first`, `passes-second`.
use Prim.Native.Nat.{ℕ, ◌+◌}
use mathlib.Core.Bool.{Bool, true, false, cond}
use mathlib.Core.List.{List, ◌++◌}
use mathlib.Core.Path.{◌≡◌, refl, sym, ◌∙◌}
use native.Mathlib.Omega.{arith}
use borrow.Author.Tests.{not-false}
use lib.Dec.{ltb}
use lib.ListN.{length, length-append}
use Rattle.answers.specs.Judged.{first}
use Rattle.answers.proofs.Tests.{passed}
use Rattle.slices.specs.Below.{Bytes}
use Rattle.slices.specs.Tests.{same}
use Rattle.fips.specs.Editions.{known, digest_bytes}
use Rattle.dwsha2.specs.Limit.{too_long}
use Rattle.dwsha2.proofs.Limits.{shorter, same_sum}
use Rattle.halfread.specs.Steps as half
use Rattle.keyed.specs.declared.Keyed.{Keyed}
use Rattle.keyed.specs.State.{sound, Shaped}
use Rattle.keyed.specs.Steps.{start_tests, add_tests, added, tag_of, tag_tests, check_tests}
use Rattle.keyed.proofs.Adding.{added-sound}

-- ---- start

pub record StartPasses (e : ℕ) (key : List ℕ) : Type 0 where
  pub ok : known e ≡ true
  pub within : too_long e 0 (length key) ≡ false

pub start-passed : (e : ℕ) (key : List ℕ) → first (start_tests e key) ≡ 0 → StartPasses e key
unfolding start_tests
start-passed e key none =
    let at = passed (start_tests e key) tt none in
    record { ok = not-false (known e) (at 0); within = at 1 }

pub start-passes : (e : ℕ) (key : List ℕ) → StartPasses e key → first (start_tests e key) ≡ 0
unfolding start_tests first
start-passes e key p = rw (p.ok, p.within)

-- ---- add

-- a keyed hash has no room for so many bytes more
abbrev pub passes_limit : Keyed → List ℕ → Bool
passes_limit k piece = too_long k.inner.edition k.inner.count (length piece)

pub record AddPasses (k : Keyed) (piece : List ℕ) : Type 0 where
  pub ok : sound k ≡ true
  pub within : passes_limit k piece ≡ false

pub add-passed : (k : Keyed) (piece : List ℕ) → first (add_tests k piece) ≡ 0 → AddPasses k piece
unfolding add_tests
add-passed k piece none =
    let at = passed (add_tests k piece) tt none in
    record { ok = not-false (sound k) (at 0); within = at 1 }

pub add-answers : (k : Keyed) (piece : List ℕ) → sound k ≡ true → first (add_tests k piece) ≡ cond (passes_limit k piece) 7 0
unfolding add_tests first
add-answers k piece ok = rw ok

pub add-passes : (k : Keyed) (piece : List ℕ) → AddPasses k piece → first (add_tests k piece) ≡ 0
add-passes k piece p = add-answers k piece p.ok ∙ rw p.within

-- ---- the tag

pub tag-answers : (k : Keyed) (out : List ℕ) → sound k ≡ true →
    first (tag_tests k out) ≡ cond (ltb (length out) (digest_bytes k.inner.edition)) 9 0
unfolding tag_tests first
tag-answers k out ok = rw ok

pub check-answers : (k : Keyed) (tag : List ℕ) → sound k ≡ true → first (check_tests k tag) ≡ cond (same tag (tag_of k)) 0 14
unfolding check_tests first
check-answers k tag ok = go (same tag (tag_of k)) refl
  where
    go : (b : Bool) → same tag (tag_of k) ≡ b → first (check_tests k tag) ≡ cond b 0 14
    go true is = rw (ok, is)
    go false is = rw (ok, is)

-- ---- a piece, and then another

pub same-passes : {k l : Keyed} {p q : List ℕ} → k ≡ l → p ≡ q → AddPasses l q → AddPasses k p
same-passes e f h = rw (e, f) h

module _ (k : Keyed) (shape : Shaped k) (p q : List ℕ) (bytes : Bytes p) where
  -- both pieces in one, or the second after the first
  one-sum : passes_limit (added k p) q ≡ passes_limit k (p ++ q)
  unfolding added half.added
  one-sum =
      let e = k.inner.edition in
      let c = k.inner.count in
      same_sum e (c + length p) (length q) c (length (p ++ q)) (omega (arith, length-append p q))

  pub passes-both : AddPasses k p → AddPasses (added k p) q → AddPasses k (p ++ q)
  passes-both a b = record { ok = a.ok; within = sym one-sum ∙ b.within }

  pub passes-first : AddPasses k (p ++ q) → AddPasses k p
  passes-first both =
      record {
        ok = both.ok;
        within =
            shorter k.inner.edition k.inner.count (length (p ++ q)) both.within (length p)
            (omega (arith, length-append p q));
      }

  pub passes-second : AddPasses k (p ++ q) → AddPasses (added k p) q
  passes-second both =
      record {
        ok = added-sound k shape p bytes (passes-first both).within both.ok;
        within = one-sum ∙ both.within;
      }
