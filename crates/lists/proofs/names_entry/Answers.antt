-- `lists::names_entry` meets its contract.
use native.Mathlib.Omega.{arith}
use borrow.Author.Tests.{lt-leb, le-leb}
use Rattle.std.proofs.lemmas.Grind.{common_steps}
use Rattle.lists.specs.Code.Rules.{names_entry}
use Rattle.lists.proofs.names_entry.Goals as goal

pub returns-then-i-count : goal.returns-then-i-count
unfolding names_entry
returns-then-i-count c = grind (arith, common_steps, lt-leb, c.name.ensures.result_value)

pub returns-else-i-count : goal.returns-else-i-count
unfolding names_entry
returns-else-i-count c = grind (arith, common_steps, le-leb)
