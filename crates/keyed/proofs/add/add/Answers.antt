-- `keyed::add::add` meets its contract: where the other rules are kept, the inner message decides. Assumes nothing.
use mathlib.Core.Path.{◌≡◌, refl, sym, ap, ◌∙◌}
use mathlib.Core.Bool.{true}
use borrow.Author.Rules.{rules}
use Rattle.answers.specs.Judged.{first}
use Rattle.answers.proofs.Outcome.{refused}
use Rattle.slices.specs.Below.{Bytes}
use Rattle.slices.specs.Tests.{holds}
use Rattle.keyed.specs.State.{more_rules, Shaped}
use Rattle.keyed.specs.Steps.{add_tests}
use Rattle.keyed.proofs.Soundness.{owned, more-broken}
use Rattle.keyed.proofs.Judging.{add-judged, add-tests}
use Rattle.keyed.proofs.add.add.Goals as goal
use Rattle.answers.proofs.Refusals.{passed-judged}
use Rattle.keyed.proofs.add.add.Goals.{After-keeps_more, Else-not-keeps_more}

-- what ownership knows

lends : (c : After-keeps_more) → Shaped c.args.keyed × Bytes c.args.piece.now
lends c = (
  owned _ (search rules) (search rules) (search rules) (search rules) (λ i. search rules) (λ i. search rules) (search rules)
      (λ i. search rules),
  (λ i. (c.shared_slice_known-1.given i).fits),
)

pub returns-then-not-keeps_more : goal.returns-then-not-keeps_more
unfolding add_tests first
returns-then-not-keeps_more c = let broken = more-broken c.args.keyed (sym c.keeps_more.ensures ∙ c.if-not-keeps_more.true) in
    record { judged = refused (rw broken) tt refl; shaped = lends (goal.at.returns-then-not-keeps_more c).After-keeps_more }

kept : (c : Else-not-keeps_more) → holds (more_rules c.args.keyed) ≡ true
kept c = sym c.keeps_more.ensures ∙ c.if-not-keeps_more.false

pub returns-in_err-inner : goal.returns-in_err-inner
returns-in_err-inner c = record {
  judged =
      passed-judged c.from_residual.result _ c.from_residual.ensures.1
      (c.in_err-inner.ensures.answer
      ∙ sym (ap first (add-tests c.args.keyed c.args.piece.now (kept (goal.at.returns-in_err-inner c).Else-not-keeps_more))));
  shaped =
      lends (goal.at.returns-in_err-inner c).After-keeps_more;
}

pub returns : goal.returns
returns c = record {
  judged = add-judged _ _ (kept (goal.at.returns c).Else-not-keeps_more) c.in_ok-inner.ensures;
  shaped =
      lends (goal.at.returns c).After-keeps_more;
}
