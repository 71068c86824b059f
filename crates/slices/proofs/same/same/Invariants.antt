-- `slices::same::same` meets its contract: what was found so far and what is left of both decide. Assumes nothing.
use Rattle.slices.proofs.Tests.{Compared}
use Rattle.slices.proofs.same.same.Given as goal

abbrev pub invariant-loop-x : goal.invariant-loop-x
invariant-loop-x g l = Compared g.T.PartialEq.eq l.a l.b l.same l.x-iterator.a.rest.now l.x-iterator.b.rest.now
