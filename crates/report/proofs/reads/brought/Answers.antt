-- `report::reads::brought` meets its contract. What the machine compares is what it reads back from the bits.
use mathlib.Core.Path.{ap, ◌∙◌}
use mir.Facts.{to_z-of_z}
use Rattle.report.specs.Reads.{why_of}
use Rattle.report.proofs.Answered.{compared, again, nothing}
use Rattle.report.proofs.reads.brought.Goals as goal

pub returns-in-Greater : goal.returns-in-Greater
returns-in-Greater c = compared _ _ c.ranges.got c.cmp.ensures _ c.in-Greater.is

pub returns-in-Equal : goal.returns-in-Equal
returns-in-Equal c = compared _ _ c.ranges.got c.cmp.ensures _ c.in-Equal.is

pub returns-in-Less : goal.returns-in-Less
returns-in-Less c = again _ _ c.ranges.got c.cmp.ensures c.in-Less.is c.ranges.errno c.if-errno-eq-EINTR.true

pub returns-in-Less-2 : goal.returns-in-Less-2
returns-in-Less-2 c =
    nothing _ _ c.ranges.got c.cmp.ensures c.in-Less-2.is c.reason.result
    (c.reason.ensures ∙ ap why_of (to_z-of_z c.ranges.errno)) c.if-errno-eq-EINTR.false
