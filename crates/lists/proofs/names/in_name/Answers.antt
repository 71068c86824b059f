-- `lists::names::in_name` meets its contract: the range's two bounds are the two conditions.
use native.Mathlib.Omega.{arith}
use borrow.Author.Tests.{le-leb, lt-leb}
use Rattle.std.proofs.lemmas.Grind.{common_steps}
use Rattle.slices.specs.Tests.{holds}
use Rattle.lists.proofs.names.in_name.Goals as goal

pub returns : goal.returns
unfolding holds
returns c = grind (arith, common_steps, le-leb, lt-leb, c.contains.ensures.cases, c.new.ensures.start, c.new.ensures.end)
