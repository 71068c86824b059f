-- `calls::save` meets its contract: a bay that is not taken stops it, and saving what the bay holds answers. Assumes nothing.
use Rattle.calls.proofs.Judging.{save-stopped, save-held}
use Rattle.answers.proofs.Refusals.{passed-on}
use Rattle.calls.proofs.save.Goals as goal

pub returns-in_err-half-clause-outcome : goal.returns-in_err-half-clause-outcome
returns-in_err-half-clause-outcome c =
    rw (passed-on c.from_residual.result _ c.from_residual.ensures.1) (save-stopped _ _ _ c.in_err-half.ensures _)

pub returns-clause-outcome : goal.returns-clause-outcome
returns-clause-outcome c = save-held _ _ c.in_ok-half.ensures _ c.save.result c.save.ensures
