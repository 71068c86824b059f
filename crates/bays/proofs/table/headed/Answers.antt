-- `bays::table::headed` meets its contract: each word of the header by its test. Assumes nothing.
use mathlib.Core.Path.{sym, ◌∙◌}
use borrow.Author.Tests.{eq-eqb, ne_eqb}
use Rattle.bays.specs.Places.{first_bay, bay_words}
use Rattle.bays.specs.Table.{headed}
use Rattle.bays.proofs.Header.{short-table}
use Rattle.slices.proofs.Tests.{fails-at, holds_on, holds-last}
use Rattle.bays.proofs.table.headed.Goals as goal

pub returns-then-table-lt-FIRST : goal.returns-then-table-lt-FIRST
returns-then-table-lt-FIRST c = sym (short-table _ c.if-table-lt-FIRST.true)

pub returns-then-not-room_for : goal.returns-then-not-room_for
unfolding headed
returns-then-not-room_for c = sym (fails-at _ 0 (sym c.room_for.ensures ∙ c.if-not-room_for.true))

pub returns-then-table : goal.returns-then-table
unfolding headed
returns-then-table c = sym (fails-at _ 1 (ne_eqb _ first_bay c.if-table.true))

pub returns-then-table-2 : goal.returns-then-table-2
unfolding headed
returns-then-table-2 c = sym (fails-at _ 2 (ne_eqb _ bay_words c.if-table-2.true))

pub returns : goal.returns
unfolding headed
returns c = sym
    (holds_on _ _ (sym c.room_for.ensures ∙ c.if-not-room_for.false)
    ∙ holds_on _ _ (eq-eqb _ first_bay c.if-table.false)
    ∙ holds_on _ _ (eq-eqb _ bay_words c.if-table-2.false)
    ∙ holds-last _)
