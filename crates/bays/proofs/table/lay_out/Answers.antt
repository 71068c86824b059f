-- `bays::table::lay_out` meets its contract: no room, or the header and zeros behind it. Assumes nothing.
use mathlib.Core.Bool.{true}
use mathlib.Core.Path.{◌≡◌, refl, sym, ◌∙◌}
use native.Mathlib.Omega.{arith}
use lib.ListN.{length, length-set}
use Rattle.bays.specs.Table.{room_for}
use Rattle.bays.proofs.Frames.{Room, room_of}
use Rattle.bays.proofs.LaidOut.{laid_out_lem}
use Rattle.answers.specs.Judged.{first}
use Rattle.answers.proofs.Outcome.{refused, done}
use Rattle.bays.proofs.table.lay_out.Goals as goal
use Rattle.bays.proofs.table.lay_out.Goals.{Else-not-room_for}

pub returns-then-not-room_for : goal.returns-then-not-room_for
unfolding first
returns-then-not-room_for c = refused (rw (sym c.room_for.ensures ∙ c.if-not-room_for.true)) tt refl

roomy : (c : Else-not-room_for) → room_for c.args.bays (length c.args.table.now) ≡ true
roomy c = sym c.room_for.ensures ∙ c.if-not-room_for.false

room : (c : Else-not-room_for) → Room c.args.bays (length c.args.table.now)
room c = room_of _ _ (roomy c)

pub slice_bounds-clear-end : goal.slice_bounds-clear-end
slice_bounds-clear-end c = simp length-set (room c).within

pub returns : goal.returns
unfolding first
returns c = let k = c.clear in
    done (rw (roomy (goal.at.returns c).Else-not-room_for))
    (laid_out_lem c.args.table.now c.args.bays (room (goal.at.returns c).Else-not-room_for).within k.new.words k.ensures)

pub overflow_mul-end : goal.overflow_mul-end
overflow_mul-end c = omega (arith, room c)

pub overflow_add-end : goal.overflow_add-end
overflow_add-end c = omega (arith, room c)

pub bounds-table-0 : goal.bounds-table-0
bounds-table-0 c = omega (arith, room c)

pub bounds-table-1 : goal.bounds-table-1
bounds-table-1 c = simp length-set (omega (arith, room c))

pub bounds-table-2 : goal.bounds-table-2
bounds-table-2 c = simp length-set (omega (arith, room c))

pub bounds-table-3 : goal.bounds-table-3
bounds-table-3 c = simp length-set (omega (arith, room c))
