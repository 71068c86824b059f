-- `slices::zero::all_are` meets its contract: what was found so far and what is left of the items decide. Assumes nothing.
use mathlib.Core.Bool.{◌&&◌}
use mathlib.Core.Path.{◌≡◌}
use lib.ListN.{drop}
use Rattle.slices.specs.Tests.{every}
use Rattle.slices.proofs.zero.all_are.Given as goal

abbrev pub invariant-loop-y : goal.invariant-loop-y
invariant-loop-y g l =
    every (λ y. g.T.PartialEq.eq y l.x) l.items ≡ (l.all && every (λ y. g.T.PartialEq.eq y l.x) (drop l.y-index l.items))
