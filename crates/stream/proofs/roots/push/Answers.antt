-- `stream::roots::push` meets its contract: the node above the last roots and the leaf, put in the place of the first. Assumes nothing.
use Prim.Native.Nat.{◌-◌, ◌*◌, ◌≤◌}
use mathlib.Core.List.{List, [], ◌∷◌, ◌++◌}
use mathlib.Core.Path.{◌≡◌, ap, ◌∙◌}
use native.Mathlib.Omega.{arith}
use lib.ListN.{length}
use borrow.Author.Rules.{rules}
use Rattle.treerule.specs.Root.{node_bytes, Node}
use Rattle.streamrule.specs.Held.{folded}
use Rattle.stream.proofs.Folding.{nodes-between}
use Rattle.stream.proofs.Pushing.{Places, places, push-law}
use Rattle.stream.proofs.roots.push.Goals as goal
use Rattle.stream.proofs.roots.push.Goals.{After-fold-node, After-joins}

-- what is known of the two counts

rooms : (c : After-joins) → Places c.held-to.result c.joins.result
rooms c = places _ _ _ c.requires.0 c.held-to.ensures c.joins.ensures

at-within : (c : After-fold-node) →
    (c.held-to.result - c.joins.result) * node_bytes
    ≤ length c.args.roots.now
at-within c =
    let rooms' : Places c.held-to.result c.joins.result = places _ _ _ c.requires.0 c.held-to.ensures c.joins.ensures in
    let p = rooms' in
    omega (arith, p.room, c.requires.1)

pub returns : goal.returns
returns c = let whole : length c.fold-node.result ≡ node_bytes = search rules in
    push-law c.args.roots.now c.args.chunks _ _ _ (rooms (goal.at.returns c).After-joins) c.requires.1 c.held-to.ensures c.joins.ensures
    whole
    (c.fold-node.ensures
    ∙ ap (λ (l : List Node). folded (l ++ (c.args.leaf ∷ []))) (nodes-between c.args.roots.now c.as_chunks.ensures.front _ _ (omega arith)
    (omega (arith, (rooms (goal.at.returns c).After-joins).most, c.requires.1))))
    c.put_front.ensures

pub overflow_sub-from : goal.overflow_sub-from
overflow_sub-from c = (rooms c).ends

pub overflow_mul-at : goal.overflow_mul-at
overflow_mul-at c = record { fits = omega (arith, (rooms (goal.at.overflow_mul-at c).After-joins).room) }

pub slice_bounds-put_front-count : goal.slice_bounds-put_front-count
slice_bounds-put_front-count c = at-within c

pub slice_bounds-put_front-start : goal.slice_bounds-put_front-start
slice_bounds-put_front-start c = at-within c
