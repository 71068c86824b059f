-- `yardcheck::verdict` meets its contract.
use Rattle.report.proofs.Pieces.{verdicted}
use Rattle.yardcheck.proofs.verdict.Goals as goal

pub returns : goal.returns
returns c =
    let met = c.through-ending.ensures in
    verdicted _ _ _ _ _ c.verdict.ensures.value met.0 met.1
