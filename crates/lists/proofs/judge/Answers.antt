-- `lists::judge` meets its contract: what `find` answers decides 12 and 13, and the comparison with the part found decides 14.
-- Assumes nothing.
use mathlib.Core.Bool.{true, false, not}
use mathlib.Core.List.{List, [], ◌∷◌}
use mathlib.Core.Path.{◌≡◌, sym, ap, ◌∙◌}
use Prim.Native.Nat.{ℕ}
use Rattle.std.specs.Prelude.{Result, Ok, Err}
use Rattle.std.proofs.lemmas.Result.{err_from_is_err_and}
use Rattle.answers.proofs.Refusals.{refuses}
use Rattle.answers.proofs.Tests.{first_off}
use Rattle.answers.specs.Numbers.{number_of, refusal_number}
use Rattle.answers.specs.declared.Refusal.{Refusal}
use Rattle.answers.specs.Judged.{◌when◌, first}
use Rattle.lists.specs.declared.Found.{Found}
use Rattle.lists.specs.Calls.{find_tests, judge_tests}
use Rattle.slices.specs.Parts.{part}
use Rattle.slices.specs.Tests.{same}
use Rattle.lists.proofs.Places.{Answers, found_at, found-listed}
use Rattle.lists.proofs.judge.Goals as goal

-- a refusal of looking for the name is the answer
stops : (bs name digest : List ℕ) {r : Result Found Refusal} → Answers bs name r → (e : Refusal) → r ≡ Err e →
    refusal_number e ≡ first (judge_tests bs name digest)
unfolding judge_tests
stops bs name digest {r = r} j e p =
    sym (ap number_of p) ∙ j.answer ∙ sym (first_off (find_tests bs name) _ (rw j.answer at (refuses r e p)))

module _ (bs name digest : List ℕ) {r : Result Found Refusal} (j : Answers bs name r) {f : Found} (e : r ≡ Ok f)
    {p : List ℕ} (q : p ≡ part bs f.start f.len) where
  -- the comparison with the part found decides
  compared : first (judge_tests bs name digest) ≡ first (14 when not (same p digest) ∷ [])
  unfolding judge_tests find_tests first
  compared = let l = found-listed bs name j e in rw (l.0, l.1, q, (found_at bs name j e).here)

  agrees : same p digest ≡ true → 0 ≡ first (judge_tests bs name digest)
  unfolding first
  agrees s = sym (compared ∙ rw s)

  differs : same p digest ≡ false → 14 ≡ first (judge_tests bs name digest)
  unfolding first
  differs s = sym (compared ∙ rw s)

pub returns-in_err-found : goal.returns-in_err-found
returns-in_err-found c = let p = err_from_is_err_and c.from_residual.result c.from_residual.ensures.1 in
    rw (p.1, p.2) (stops _ _ _ c.find.ensures _ c.in_err-found.was)

pub returns-then-not-same : goal.returns-then-not-same
returns-then-not-same c = differs _ _ _ c.find.ensures c.in_ok-found.was c.part.ensures.result_value
    (sym c.same.ensures ∙ c.if-not-same.true)

pub returns : goal.returns
returns c = agrees _ _ _ c.find.ensures c.in_ok-found.was c.part.ensures.result_value
    (sym c.same.ensures ∙ c.if-not-same.false)
