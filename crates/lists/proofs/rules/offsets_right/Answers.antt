-- `lists::rules::offsets_right` meets its contract: each test is a condition of `offsets_right`.
use Rattle.std.proofs.lemmas.Grind.{common_steps}
use native.Mathlib.Omega.{arith}
use borrow.Author.Tests.{eq-eqb, ne_eqb}
use Rattle.slices.specs.Tests.{holds}
use Rattle.lists.specs.Code.Rules.{offsets_right}
use Rattle.lists.proofs.rules.offsets_right.Goals as goal

pub returns-then-number-list : goal.returns-then-number-list
unfolding offsets_right holds
returns-then-number-list c = grind (arith, common_steps, eq-eqb, ne_eqb)

pub returns-else-number-list : goal.returns-else-number-list
unfolding offsets_right holds
returns-else-number-list c = grind (arith, common_steps, eq-eqb, ne_eqb)
