-- `report::file::begin` meets its contract.
use Rattle.report.proofs.Through.{begins}
use Rattle.report.proofs.file.begin.Goals as goal

pub returns : goal.returns
returns c = begins _ _ c.lay_out.ensures.outcome c.«open».ensures.outcome c.edition.ensures
