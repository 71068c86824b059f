-- `lists::rules::further` meets its contract.
use Rattle.std.proofs.lemmas.Grind.{common_steps}
use native.Mathlib.Omega.{arith}
use borrow.Author.Tests.{eq-eqb, ne_eqb}
use Rattle.lists.specs.Code.Rules.{more_earlier}
use Rattle.lists.proofs.rules.further.Goals as goal

pub returns-then-before : goal.returns-then-before
unfolding more_earlier
returns-then-before c = grind (arith, common_steps, eq-eqb, ne_eqb)

pub returns : goal.returns
unfolding more_earlier
returns c = grind (arith, common_steps, eq-eqb, ne_eqb)
