-- `report::file::take` meets its contract.
use mathlib.Core.Path.{◌∙◌}
use Rattle.report.proofs.Through.{takes}
use Rattle.report.proofs.file.take.Goals as goal

pub returns : goal.returns
returns c =
    let taken = takes _ _ c.add.ensures.outcome in
    record { value = c.is_ok.ensures.value ∙ taken.0; table_after = taken.1 }
