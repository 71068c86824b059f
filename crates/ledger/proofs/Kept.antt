-- What calls that were made do not change, on any table: a refused one anything, `refused-keeps`, and none a word past the bays that it
-- reaches, `callers-kept`. Of the functions in src: `code-refused-keeps`, `code-callers-kept`.
use Prim.Native.Nat.{ℕ, zero, suc}
use mathlib.Core.List.{List}
use mathlib.Core.Path.{◌≡◌, refl, sym, ap, subst, ◌∙◌}
use lib.ListN.{drop}
use Rattle.answers.specs.Judged.{first, after, lent}
use Rattle.bays.specs.Places.{place_of}
use Rattle.calls.specs.Calls.{Call, output_of, tests, leaves, nothing_told, tells, Ran, run}
use Rattle.ledger.specs.Traces.{Doing, RefusedKeeps, CallersKept}
use Rattle.ledger.specs.Code.{Did}
use Rattle.ledger.proofs.CallersWords.{callers-words}
use Rattle.ledger.proofs.Traces.{Faithful, code-faithful}

-- a step of `run` that refuses
refused-run : (t : List ℕ) (c : Call) → ((run t c).seen.answer ≡ 0 → ⊥) →
    ((run t c).table ≡ t) × ((run t c).seen.output ≡ output_of c) × ((run t c).seen.says ≡ nothing_told)
unfolding run
refused-run t c r = go (first (tests t c)) r
  where
    go : (n : ℕ) → (n ≡ 0 → ⊥) →
        ((after n (lent t (output_of c)) (leaves t c)).table ≡ t)
        × ((after n (lent t (output_of c)) (leaves t c)).output ≡ output_of c)
        × (after n nothing_told (tells t c) ≡ nothing_told)
    go zero d = absurd (d refl)
    go (suc n) d = (refl, refl, refl)

module _ (D : Doing) (faithful : Faithful D) where
  pub refused-keeps : RefusedKeeps D
  refused-keeps t c s u d r =
      let h = (faithful t c s u d).ran in
      let k = refused-run t c (λ e. r (ap (λ (x : Ran). x.seen.answer) (sym h) ∙ e)) in (
        ap (λ (x : Ran). x.table) (sym h) ∙ k.0,
        ap (λ (x : Ran). x.seen.output) (sym h) ∙ k.1,
        ap (λ (x : Ran). x.seen.says) (sym h) ∙ k.2,
      )

  pub callers-kept : CallersKept D
  callers-kept t c s u d n h =
      subst (λ (x : Ran). drop (place_of n) x.table ≡ drop (place_of n) t) (faithful t c s u d).ran (callers-words t c n h)

pub code-refused-keeps : RefusedKeeps Did
code-refused-keeps = refused-keeps Did code-faithful

pub code-callers-kept : CallersKept Did
code-callers-kept = callers-kept Did code-faithful
