-- `calls::close` meets its contract: a bay that is not taken stops it, and closing what the bay holds answers. Assumes nothing.
use Rattle.calls.proofs.Judging.{close-stopped, close-refused, closed_at}
use Rattle.answers.proofs.Refusals.{passed-on}
use Rattle.calls.proofs.close.Goals as goal

pub returns-in_err-half-clause-outcome : goal.returns-in_err-half-clause-outcome
returns-in_err-half-clause-outcome c =
    rw (passed-on c.from_residual.result _ c.from_residual.ensures.1) (close-stopped _ _ _ c.in_err-half.ensures _ _ _)

pub returns-in_err-close-clause-outcome : goal.returns-in_err-close-clause-outcome
returns-in_err-close-clause-outcome c =
    rw (passed-on c.from_residual-in_err-close.result _ c.from_residual-in_err-close.ensures.1)
    (close-refused _ _ c.in_ok-half.ensures _ _ _ _ c.in_err-close.ensures)

pub returns-clause-outcome : goal.returns-clause-outcome
returns-clause-outcome c = closed_at _ _ c.in_ok-half.ensures _ _ _ c.in_ok-close.ensures c.clear_at.ensures
