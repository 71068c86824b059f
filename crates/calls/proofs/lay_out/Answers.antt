-- `calls::lay_out` meets its contract: it is what the table itself does. Assumes nothing.
use Rattle.calls.proofs.Judging.{laying-out}
use Rattle.calls.proofs.lay_out.Goals as goal

pub returns-clause-outcome : goal.returns-clause-outcome
returns-clause-outcome c = laying-out _ _ c.lay_out.ensures
