-- `calls::drop` meets its contract: a bay that is not taken stops it, and zeros lie in its place. Assumes nothing.
use mathlib.Core.Path.{sym}
use Rattle.bays.proofs.Header.{taken-passed}
use Rattle.calls.proofs.Judging.{drop-stopped, dropped}
use Rattle.answers.proofs.Refusals.{passed-on}
use Rattle.calls.proofs.drop.Goals as goal

pub returns-in_err-gate_taken-clause-outcome : goal.returns-in_err-gate_taken-clause-outcome
returns-in_err-gate_taken-clause-outcome c =
    rw (passed-on c.from_residual.result _ c.from_residual.ensures.1) (drop-stopped _ _ _ c.in_err-gate_taken.ensures)

pub returns-clause-outcome : goal.returns-clause-outcome
returns-clause-outcome c =
    let taken = c.in_ok-gate_taken.ensures in
    dropped _ _ (sym (taken-passed _ _ (sym taken)).gate) taken c.clear_at.ensures
