-- `bays::table::gate` meets its contract: the header, then the bay. Assumes nothing.
use mathlib.Core.Path.{sym, ◌∙◌}
use native.Mathlib.Omega.{arith}
use borrow.Author.Tests.{le-leb, lt-leb}
use Rattle.answers.specs.Judged.{first}
use Rattle.bays.proofs.Frames.{headed-room}
use Rattle.bays.proofs.table.gate.Goals as goal

pub returns-then-not-headed : goal.returns-then-not-headed
unfolding first
returns-then-not-headed c = rw (sym c.headed.ensures ∙ c.if-not-headed.true)

pub bounds-table-0 : goal.bounds-table-0
bounds-table-0 c = omega (arith, headed-room _ (sym c.headed.ensures ∙ c.if-not-headed.false))

pub returns-then-table-bay : goal.returns-then-table-bay
unfolding first
returns-then-table-bay c = rw (sym c.headed.ensures ∙ c.if-not-headed.false, le-leb _ _ c.if-table-bay.true)

pub returns : goal.returns
unfolding first
returns c = rw (sym c.headed.ensures ∙ c.if-not-headed.false, lt-leb _ _ c.if-table-bay.false)
