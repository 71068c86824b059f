-- What each verdict means: MISSING with a reason only where no file came for that reason, `missing-means`; OK exactly where the bytes that
-- came are not too long and have the digest that is listed, `ok-means` and `ok-where`.
use Prim.Native.Nat.{ℕ}
use mathlib.Core.Bool.{Bool, true, false, cond, not, ◌&&◌, false≢true}
use mathlib.Core.List.{List}
use mathlib.Core.Path.{◌≡◌, refl, ap}
use native.Mathlib.Omega.{arith}
use lib.ListN.{length}
use borrow.Author.Tests.{not-true}
use Rattle.slices.specs.Tests.{same}
use Rattle.slices.proofs.Tests.{same-eq, eq-same}
use Rattle.fips.specs.Message.{message}
use Rattle.fips.specs.Editions.{digest}
use Rattle.dwsha2.specs.Limit.{too_long}
use Rattle.lines.specs.declared.Verdict.{Verdict}
use Rattle.lines.specs.declared.Why.{Why}
use Rattle.lines.specs.Lines.{is_ok, is_missing}
use Rattle.report.specs.Report.{Came, no_file, bytes, verdict}

both_true : (b c : Bool) → b && c ≡ true → (b ≡ true) × (c ≡ true)
both_true true c h = (refl, h)
both_true false c h = absurd (false≢true h)

ok-true : (b : Bool) → cond b Verdict.Ok Verdict.Bad ≡ Verdict.Ok → b ≡ true
ok-true true h = refl
ok-true false h = absurd (omega (arith, ap is_ok h))

found : (b : Bool) (why : Why) → cond b Verdict.Ok Verdict.Bad ≡ Verdict.Missing why → ⊥
found true why h = omega (arith, ap is_missing h)
found false why h = omega (arith, ap is_missing h)

abbrev reason_of : Why → Verdict → Why
reason_of other Verdict.Ok = other
reason_of other Verdict.Bad = other
reason_of other (Verdict.Missing why) = why

module _ (e : ℕ) (listed : List ℕ) where
  -- what is asked of bytes
  abbrev asked : List ℕ → Bool
  asked m = not (too_long e 0 (length m)) && same (digest e (message m 0 0)) listed

  pub missing-means : (c : Came) (why : Why) → verdict e listed c ≡ Verdict.Missing why → c ≡ no_file why
  unfolding verdict
  missing-means (no_file w) why h = ap no_file (ap (reason_of w) h)
  missing-means (bytes m) why h = absurd (found (asked m) why h)

  pub ok-where : (m : List ℕ) → too_long e 0 (length m) ≡ false → digest e (message m 0 0) ≡ listed → verdict e listed (bytes m) ≡
      Verdict.Ok
  unfolding verdict
  ok-where m short is = rw (short, eq-same (digest e (message m 0 0)) listed is)

  pub ok-means : (c : Came) → verdict e listed c ≡ Verdict.Ok →
      (m : List ℕ) × ((c ≡ bytes m) × (too_long e 0 (length m) ≡ false) × (digest e (message m 0 0) ≡ listed))
  unfolding verdict
  ok-means (no_file why) h = absurd (omega (arith, ap is_ok h))
  ok-means (bytes m) h =
      let t = both_true (not (too_long e 0 (length m))) (same (digest e (message m 0 0)) listed) (ok-true (asked m) h) in
      (m, (refl, not-true (too_long e 0 (length m)) t.0, same-eq (digest e (message m 0 0)) listed t.1))
