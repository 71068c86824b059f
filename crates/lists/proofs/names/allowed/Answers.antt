-- `lists::names::allowed` meets its contract: each test is a condition of `name_allowed`.
use native.Mathlib.Omega.{arith}
use borrow.Author.Tests.{le-leb, lt-leb}
use Rattle.std.proofs.lemmas.Grind.{common_steps}
use Rattle.slices.specs.Tests.{holds}
use Rattle.lists.specs.Lists.{name_allowed}
use Rattle.lists.proofs.Allowed.{all-every}
use Rattle.lists.proofs.names.allowed.Goals as goal

pub returns-then-name-le-LONGEST : goal.returns-then-name-le-LONGEST
unfolding name_allowed holds
returns-then-name-le-LONGEST c = grind (arith, common_steps, le-leb, lt-leb, all-every)

pub returns-else-name-le-LONGEST : goal.returns-else-name-le-LONGEST
unfolding name_allowed holds
returns-else-name-le-LONGEST c = grind (arith, common_steps, le-leb, lt-leb)
