-- `calls::load` meets its contract: the gate, the record, the bay, and what the record holds packed into it. Assumes nothing.
use Rattle.calls.proofs.Judging.{load-stopped, load-refused, load-filled, loaded_at}
use Rattle.answers.proofs.Refusals.{passed-on}
use Rattle.calls.proofs.load.Goals as goal

pub returns-in_err-gate-clause-outcome : goal.returns-in_err-gate-clause-outcome
returns-in_err-gate-clause-outcome c =
    rw (passed-on c.from_residual.result _ c.from_residual.ensures.1) (load-stopped _ _ _ c.in_err-gate.ensures _)

pub returns-in_err-half-clause-outcome : goal.returns-in_err-half-clause-outcome
returns-in_err-half-clause-outcome c =
    rw (passed-on c.from_residual-in_err-half.result _ c.from_residual-in_err-half.ensures.1)
    (load-refused _ _ c.in_ok-gate.ensures _ _ c.in_err-half.ensures)

pub returns-in_err-gate_free-clause-outcome : goal.returns-in_err-gate_free-clause-outcome
returns-in_err-gate_free-clause-outcome c =
    rw (passed-on c.from_residual-in_err-gate_free.result _ c.from_residual-in_err-gate_free.ensures.1)
    (load-filled _ _ c.in_ok-gate.ensures _ c.in_ok-half.ensures _ c.in_err-gate_free.ensures)

pub returns-clause-outcome : goal.returns-clause-outcome
returns-clause-outcome c = loaded_at _ _ c.in_ok-gate.ensures _ c.in_ok-half.ensures c.in_ok-gate_free.ensures c.put_at.ensures
