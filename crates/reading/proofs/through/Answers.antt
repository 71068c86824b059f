-- `reading::through` meets its contract: a file that was not opened is not read, and one that was is met in pieces.
use mathlib.Core.Path.{refl}
use Rattle.report.specs.Code.Program.{unread}
use Rattle.report.proofs.Pieces.{led}
use Rattle.reading.proofs.through.Goals as goal

pub returns-in-Ok : goal.returns-in-Ok
returns-in-Ok g c = led _ _ c.begin.ensures _ _ c.pieces.ensures

pub returns-in-Err : goal.returns-in-Err
returns-in-Err g c = (unread _, refl)
