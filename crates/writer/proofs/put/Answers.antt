-- `writer::put` meets its contract: where one reading refuses, put does. Assumes nothing.
use mathlib.Core.List.{List}
use mathlib.Core.Path.{◌≡◌, refl}
use Prim.Native.Nat.{ℕ}
use Rattle.std.specs.Prelude.{Err}
use Rattle.std.proofs.lemmas.Result.{err_from_is_err_and}
use Rattle.answers.proofs.Refusals.{refuses, stopped}
use Rattle.answers.specs.declared.Refusal.{Refusal}
use Rattle.answers.specs.Judged.{first}
use Rattle.answers.specs.Numbers.{refusal_number}
use Rattle.lists.specs.Code.Place.{place_tests}
use Rattle.writer.specs.Writing.{front_list, put_tests, Puts}
use Rattle.writer.proofs.put.Goals as goal

no-list : (b name digest l : List ℕ) (r : Refusal) → l ≡ front_list b → refusal_number r ≡ first (place_tests l) →
    Puts b name digest (refusal_number r) b
unfolding put_tests place_tests
no-list b name digest l r e p = stopped (place_tests (front_list b)) _ (rw e at p) (refuses {A = Unit} (Err r) r refl) refl

pub returns-in_err-place-clause-puts : goal.returns-in_err-place-clause-puts
returns-in_err-place-clause-puts c = let p = err_from_is_err_and c.from_residual.result c.from_residual.ensures.1 in
    rw (p.1, p.2) (no-list _ _ _ _ _ c.front.ensures c.in_err-place.ensures.answer)
