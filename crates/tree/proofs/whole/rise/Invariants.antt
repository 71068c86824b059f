-- `tree::whole::rise` meets its contract. The invariant: the node above those that are left is the node above all. The measure is how
-- many are left. Assumes nothing.
use Rattle.tree.proofs.InPlace.{Climbed}
use Rattle.tree.proofs.whole.rise.Given as goal

abbrev pub invariant-loop-left : goal.invariant-loop-left
invariant-loop-left l = Climbed l.initial.nodes l.count l.nodes l.left

abbrev pub decreases-loop-left : goal.decreases-loop-left
decreases-loop-left l = l.left
