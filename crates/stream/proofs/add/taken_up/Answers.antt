-- `stream::add::taken_up` meets its contract: both runs are taken, then what is held is padded. Assumes nothing.
use Prim.Native.Nat.{◌≤◌}
use mathlib.Core.Path.{◌≡◌, sym}
use native.Mathlib.Omega.{arith}
use lib.ListN.{length}
use lib.Seq.{length-take-le}
use borrow.Author.Rules.{rules}
use Rattle.stream.specs.State.{root_room}
use Rattle.stream.proofs.Limits.{few-roots}
use Rattle.stream.proofs.Adding.{taken-law}
use Rattle.stream.proofs.add.taken_up.Goals as goal
use Rattle.stream.proofs.add.taken_up.Goals.{After-grow-2, After-held-end, After-rest_at-whole}

few : (c : After-held-end) → c.held-end.result ≤ 32
few c =
    omega (arith, c.held-end.ensures, few-roots _ c.requires.1)

roots-long : (c : After-grow-2) → length c.grow-2.new.roots ≡ root_room
roots-long c = search rules

pub slice_bounds-roots-end : goal.slice_bounds-roots-end
slice_bounds-roots-end c =
    omega (arith, few (goal.at.slice_bounds-roots-end c).After-held-end, roots-long (goal.at.slice_bounds-roots-end c).After-grow-2)

pub returns : goal.returns
returns c = taken-law c.args.chunks c.args.roots c.args.front.now c.args.rest.now _ _ c.requires.0 c.requires.1
    (roots-long (goal.at.returns c).After-grow-2)
    c.grow.ensures c.grow-2.ensures c.held-end.ensures c.rest_at-whole.ensures c.padded.ensures
    c.padded-2.ensures

pub overflow_mul-end : goal.overflow_mul-end
overflow_mul-end c = record { fits = omega (arith, few c) }

pub slice_bounds-padded-end : goal.slice_bounds-padded-end
slice_bounds-padded-end c = sym (length-take-le _ _ (slice_bounds-roots-end (goal.at.slice_bounds-padded-end c).After-rest_at-whole))
