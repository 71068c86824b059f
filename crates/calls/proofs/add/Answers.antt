-- `calls::add` meets its contract: a bay that is not taken stops it, and adding to what the bay holds answers. Assumes nothing.
use Rattle.calls.proofs.Judging.{add-stopped, add-refused, added-at}
use Rattle.answers.proofs.Refusals.{passed-on}
use Rattle.calls.proofs.add.Goals as goal

pub returns-in_err-half-clause-outcome : goal.returns-in_err-half-clause-outcome
returns-in_err-half-clause-outcome c =
    rw (passed-on c.from_residual.result _ c.from_residual.ensures.1) (add-stopped _ _ _ c.in_err-half.ensures _)

pub returns-in_err-next-clause-outcome : goal.returns-in_err-next-clause-outcome
returns-in_err-next-clause-outcome c =
    rw (passed-on c.from_residual-in_err-next.result _ c.from_residual-in_err-next.ensures.1)
    (add-refused _ _ c.in_ok-half.ensures _ _ c.in_err-next.ensures)

pub returns-clause-outcome : goal.returns-clause-outcome
returns-clause-outcome c = added-at _ _ c.in_ok-half.ensures _ c.in_ok-next.ensures c.put_at.ensures
