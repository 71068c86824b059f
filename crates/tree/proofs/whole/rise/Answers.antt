-- `tree::whole::rise` meets its contract. The invariant: the node above those that are left is the node above all. The measure is how
-- many are left. Assumes nothing.
use mathlib.Core.Path.{sym}
use native.Mathlib.Omega.{arith}
use lib.Seq.{length-take-le}
use Rattle.tree.proofs.InPlace.{climbed-none, climbed-more, climbed-all}
use Rattle.tree.proofs.whole.rise.Goals as goal
use Rattle.tree.proofs.whole.rise.Goals.{In-loop-left}

pub loop-left-init : goal.loop-left-init
loop-left-init c = climbed-none _ _ c.requires.0

pub slice_bounds-level-end : goal.slice_bounds-level-end
slice_bounds-level-end c = omega arith

pub slice_bounds-level-end-in-loop-left : goal.slice_bounds-level-end-in-loop-left
slice_bounds-level-end-in-loop-left c =
    sym (length-take-le _ _ (slice_bounds-level-end (goal.at.slice_bounds-level-end-in-loop-left c).In-loop-left))

pub loop-left-preserved : goal.loop-left-preserved
loop-left-preserved c = let l = c.loop-left in
    climbed-more c.args.nodes.now c.args.count l.nodes l.left c.requires.1
    c.loop-left-test.true l.invariant c.level.ensures (omega arith)

pub returns : goal.returns
returns c = climbed-all _ _ _ _ c.loop-left-test.false c.loop-left.invariant
