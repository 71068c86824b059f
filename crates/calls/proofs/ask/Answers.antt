-- `calls::ask` meets its contract: it tells what a sound bay holds. Assumes nothing.
use Rattle.calls.proofs.Judging.{asked, ask-refused}
use Rattle.answers.proofs.Refusals.{passed-on}
use Rattle.calls.proofs.ask.Goals as goal

pub returns-in_err-half-clause-asks : goal.returns-in_err-half-clause-asks
returns-in_err-half-clause-asks c =
    rw (passed-on c.from_residual.result _ c.from_residual.ensures.1) (ask-refused _ _ _ c.in_err-half.ensures)

pub returns-clause-asks : goal.returns-clause-asks
returns-clause-asks c = asked _ _ c.in_ok-half.ensures
