-- `tree::whole::level` meets its contract. The invariant: j nodes of the level above are in place, and the level above the rest follows
-- them. Assumes nothing.
use Rattle.tree.proofs.InPlace.{Raised}
use Rattle.tree.proofs.whole.level.Given as goal

abbrev pub invariant-loop-j : goal.invariant-loop-j
invariant-loop-j l = Raised l.initial.nodes l.count l.nodes l.j
