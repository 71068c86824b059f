-- `keyed::state::start` meets its contract: each refusal by its test, and the keyed hash that the key begins. Assumes nothing.
use mathlib.Core.Path.{refl, sym, ◌∙◌}
use Rattle.answers.specs.Judged.{first}
use Rattle.answers.proofs.Outcome.{refused, done}
use Rattle.keyed.specs.Steps.{start_tests}
use Rattle.keyed.proofs.state.start.Goals as goal

pub returns-then-not-known-clause-judged : goal.returns-then-not-known-clause-judged
unfolding start_tests first
returns-then-not-known-clause-judged c = refused (rw (sym c.known.ensures ∙ c.if-not-known.true)) tt refl

pub returns-then-too_long-clause-judged : goal.returns-then-too_long-clause-judged
unfolding start_tests first
returns-then-too_long-clause-judged c =
    refused (rw (sym c.known.ensures ∙ c.if-not-known.false, sym c.too_long.ensures ∙ c.if-too_long.true)) tt refl

pub returns-clause-judged : goal.returns-clause-judged
unfolding start_tests first
returns-clause-judged c =
    done (rw (sym c.known.ensures ∙ c.if-not-known.false, sym c.too_long.ensures ∙ c.if-too_long.false)) c.begun.ensures
