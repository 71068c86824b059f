-- `stream::roots::grow` meets its contract. The invariant: i chunks are taken, and the bytes behind them are left. Assumes nothing.
use Prim.Native.Nat.{◌+◌, ◌<◌}
use mathlib.Core.Path.{◌≡◌, ap, ◌∙◌}
use native.Mathlib.Omega.{arith}
use lib.ListN.{length}
use Rattle.std.specs.Iterator.Adapters.{enumerate_source, enumerate_count}
use Rattle.std.specs.Slice.Iter.{chunks_exact_rest, chunks_exact_size}
use Rattle.treerule.specs.Root.{chunk_bytes}
use Rattle.stream.specs.State.{most_chunks}
use Rattle.stream.proofs.Pushing.{grown-start, grown-room, grown-more, grown-end}
use Rattle.stream.proofs.roots.grow.Goals as goal
use Rattle.stream.proofs.roots.grow.Goals.{In-Some}

pub loop-i-init : goal.loop-i-init
loop-i-init c =
    let begins = c.into_iter-i-iterator.ensures.into_iter_gives in
    let source = ap enumerate_source begins ∙ c.enumerate-i-items.ensures.source in (
      ap chunks_exact_size source ∙ c.chunks_exact.ensures.size,
      grown-start c.args.bytes.now c.args.chunks c.args.roots.now _ _ (ap chunks_exact_rest source ∙ c.chunks_exact.ensures.rest)
          (ap enumerate_count begins ∙ c.enumerate-i-items.ensures.count),
    )

-- a chunk more is a whole one, and there is room for it

whole : (c : In-Some) → length c.in-Some.chunk.now ≡ chunk_bytes
whole c = omega (arith, c.in-Some.ensures.steps.0, c.loop-i.invariant.0)

room : (c : In-Some) → c.args.chunks + c.in-Some.i < most_chunks
room c =
    let s = c.in-Some.ensures.steps in
    omega (arith, grown-room c.loop-i.invariant.1 c.in-Some.chunk.now _ s.0.1.0 (whole c), s.1, c.requires.0)

pub overflow_add-chunks : goal.overflow_add-chunks
overflow_add-chunks c = record { fits = omega (arith, room (goal.at.overflow_add-chunks c).In-Some) }

pub push-requires : goal.push-requires
push-requires c = (room (goal.at.push-requires c).In-Some, c.loop-i.invariant.1.long ∙ c.requires.1)

pub loop-i-preserved : goal.loop-i-preserved
loop-i-preserved c =
    let i = c.loop-i.invariant in
    let s = c.in-Some.ensures.steps in (
      s.0.0 ∙ i.0,
      grown-more i.1 c.in-Some.chunk.now _ s.0.1.0 (whole (goal.at.loop-i-preserved c).In-Some) c.in-Some.i _ s.1 s.2
          c.leaf.ensures c.push.ensures c.push.auto.roots,
    )

pub shape_of-roots : goal.shape_of-roots
shape_of-roots c = c.loop-i.invariant.1.long

pub returns : goal.returns
returns c = grown-end c.loop-i.invariant.1 (omega (arith, c.in-None.ensures.steps))
