-- `bays::table::room_for` meets its contract: each of the three tests. Assumes nothing.
use borrow.Author.Tests.{lt-leb, le-leb}
use Rattle.bays.specs.Places.{most_bays}
use Rattle.bays.specs.Table.{room_for}
use mathlib.Core.Path.{sym, ◌∙◌}
use Rattle.slices.proofs.Tests.{fails-at, holds_on, holds-last}
use Rattle.bays.proofs.table.room_for.Goals as goal

pub returns-then-bays-lt1 : goal.returns-then-bays-lt1
unfolding room_for
returns-then-bays-lt1 c = sym (fails-at _ 0 (lt-leb 1 _ c.if-bays-lt1.true))

pub returns-then-bays-gt-MOST : goal.returns-then-bays-gt-MOST
unfolding room_for
returns-then-bays-gt-MOST c = sym (fails-at _ 1 (lt-leb _ most_bays c.if-bays-gt-MOST.true))

pub returns : goal.returns
unfolding room_for
returns c = sym (holds_on _ _ (le-leb 1 _ c.if-bays-lt1.false) ∙ holds_on _ _ (le-leb _ most_bays c.if-bays-gt-MOST.false) ∙ holds-last _)
