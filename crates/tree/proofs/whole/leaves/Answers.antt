-- `tree::whole::leaves` meets its contract. The invariant: i leaves are in place, and the bytes behind their chunks are left. Assumes
-- nothing.
use Prim.Native.Nat.{◌*◌, ◌≤◌, min}
use mathlib.Core.Path.{◌≡◌, ap, ◌∙◌}
use native.Mathlib.Omega.{arith}
use lib.ListN.{length}
use borrow.Author.Rules.{rules}
use Rattle.std.specs.Iterator.Adapters.{enumerate_source, enumerate_count}
use Rattle.std.specs.Slice.Iter.{chunks_rest, chunks_size}
use Rattle.treerule.specs.Root.{chunk_bytes, node_bytes, chunk_count}
use Rattle.tree.proofs.InPlace.{leaved-none, leaved-room, leaved-more, leaved-all}
use Rattle.tree.proofs.whole.leaves.Goals as goal
use Rattle.tree.proofs.whole.leaves.Goals.{In-Some}

pub loop-i-init : goal.loop-i-init
loop-i-init c =
    let begins = c.into_iter-i-iterator.ensures.into_iter_gives in
    let source = ap enumerate_source begins ∙ c.enumerate-i-items.ensures.source in (
      ap chunks_size source ∙ c.chunks.ensures.size,
      leaved-none c.args.map.now c.args.nodes.now _ _ (ap chunks_rest source ∙ c.chunks.ensures.rest)
          (ap enumerate_count begins ∙ c.enumerate-i-items.ensures.count),
    )

-- a chunk more is a whole one, or all that is left

size : (c : In-Some) → length c.in-Some.chunk.now ≡ min chunk_bytes (length (chunks_rest (enumerate_source c.loop-i.i-iterator)))
size c = rw c.loop-i.invariant.0 at c.in-Some.ensures.steps.0.1.1

room : (c : In-Some) → chunk_count (length c.args.map.now) * node_bytes ≤ length c.loop-i.nodes
room c = omega (arith, c.requires, c.loop-i.auto.nodes)

pub put_node-requires : goal.put_node-requires
put_node-requires c =
    let p = (goal.at.put_node-requires c).In-Some in
    let s = c.in-Some.ensures.steps in
    omega (arith, s.1, leaved-room (room p) c.loop-i.invariant.1 c.in-Some.chunk.now _ s.0.1.0 (size p) s.0.1.2)

pub loop-i-preserved : goal.loop-i-preserved
loop-i-preserved c =
    let p = (goal.at.loop-i-preserved c).In-Some in
    let i = c.loop-i.invariant in
    let s = c.in-Some.ensures.steps in
    let whole : length c.leaf.result ≡ node_bytes = search rules in (
      s.0.0 ∙ i.0,
      leaved-more (room p) i.1 c.in-Some.chunk.now _ s.0.1.0 (size p) s.0.1.2 c.in-Some.i _ s.1 s.2 whole c.leaf.ensures
          c.put_node.ensures,
    )

pub returns : goal.returns
returns c = leaved-all c.loop-i.invariant.1 (omega (arith, c.in-None.ensures.steps))
