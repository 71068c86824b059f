-- The invariant: so far it is a reading of which every piece was taken.
use Rattle.report.specs.declared.Ending.{Ending}
use Rattle.report.specs.Code.Files.{Reading}
use Rattle.reading.proofs.pieces.Given as goal

abbrev pub invariant-loop : goal.invariant-loop
invariant-loop g l = Reading l.initial.table Ending.Whole l.table
