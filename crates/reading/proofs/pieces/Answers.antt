-- Each turn of the loop is one of a reading.
use Rattle.report.proofs.Pieces.{starts, goes_on, stops, breaks-off}
use Rattle.reading.proofs.pieces.Goals as goal

pub loop-init : goal.loop-init
loop-init g c = starts _

pub returns-in-Some : goal.returns-in-Some
returns-in-Some g c =
    let is = c.turn.ensures in
    stops _ c.loop.invariant _ is.bytes _ _ _ c.in-Some.is is.value is.table_after

pub loop-preserved : goal.loop-preserved
loop-preserved g c =
    let is = c.turn.ensures in
    goes_on _ c.loop.invariant _ is.bytes _ _ c.in_default.is is.value is.table_after

pub returns : goal.returns
returns g c = breaks-off _ _ c.loop.invariant
