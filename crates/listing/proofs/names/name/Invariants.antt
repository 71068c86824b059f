-- `listing::names::name` meets its contract: what begins at the place is what stands behind so many names.
use Rattle.std.proofs.Common.{◌≡◌, ◌≤◌, length, drop}
use Rattle.listing.specs.Names.{names_from}
use Rattle.listing.proofs.names.name.Given as goal

abbrev pub invariant-loop : goal.invariant-loop
invariant-loop l = (l.at ≤ length l.input) × (drop l.at l.input ≡ names_from l.counter l.input)
