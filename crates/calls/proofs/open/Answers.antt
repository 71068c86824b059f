-- `calls::open` meets its contract: the gate, the edition, the bay, and the opened message packed into it. Assumes nothing.
use mathlib.Core.Path.{sym, ◌∙◌}
use Rattle.calls.proofs.Judging.{open-stopped, open_unknown, open-refused, opened-at}
use Rattle.answers.proofs.Refusals.{passed-on}
use Rattle.calls.proofs.open.Goals as goal

pub returns-in_err-gate-clause-outcome : goal.returns-in_err-gate-clause-outcome
returns-in_err-gate-clause-outcome c =
    rw (passed-on c.from_residual.result _ c.from_residual.ensures.1) (open-stopped _ _ _ c.in_err-gate.ensures _)

pub returns-then-not-known-clause-outcome : goal.returns-then-not-known-clause-outcome
returns-then-not-known-clause-outcome c = open_unknown _ _ c.in_ok-gate.ensures _ (sym c.known.ensures ∙ c.if-not-known.true)

pub returns-in_err-gate_free-clause-outcome : goal.returns-in_err-gate_free-clause-outcome
returns-in_err-gate_free-clause-outcome c =
    rw (passed-on c.from_residual-in_err-gate_free.result _ c.from_residual-in_err-gate_free.ensures.1)
    (open-refused _ _ c.in_ok-gate.ensures _ (sym c.known.ensures ∙ c.if-not-known.false) _ c.in_err-gate_free.ensures)

pub returns-clause-outcome : goal.returns-clause-outcome
returns-clause-outcome c =
    opened-at _ _ c.in_ok-gate.ensures _ (sym c.known.ensures ∙ c.if-not-known.false)
    c.in_ok-gate_free.ensures c.open.ensures c.put_at.ensures
