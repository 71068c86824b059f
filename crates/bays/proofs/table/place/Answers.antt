-- `bays::table::place` meets its contract: a bay behind the gate lies within the table, so that its place is a number of the machine.
-- Assumes nothing.
use Prim.Native.Nat.{◌+◌, ◌≤◌}
use mathlib.Core.Path.{refl, sym}
use native.Mathlib.Omega.{arith}
use lib.ListN.{length}
use Rattle.bays.specs.Places.{bay_words, place_of}
use Rattle.bays.proofs.Header.{gate-passed}
use Rattle.bays.proofs.table.place.Goals as goal
use Rattle.bays.proofs.table.place.Goals.{In_ok-gate}

inside : (c : In_ok-gate) → place_of c.args.bay + bay_words ≤ length c.args.table.now
inside c = (gate-passed _ _ (sym c.in_ok-gate.ensures)).whole

pub overflow_mul-result : goal.overflow_mul-result
overflow_mul-result c = omega (arith, inside c)

pub overflow_add-result : goal.overflow_add-result
overflow_add-result c = omega (arith, inside c)

pub returns-clause-value : goal.returns-clause-value
returns-clause-value c = (refl, inside c)
