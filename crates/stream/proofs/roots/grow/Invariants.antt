-- `stream::roots::grow` meets its contract. The invariant: i chunks are taken, and the bytes behind them are left. Assumes nothing.
use mathlib.Core.Path.{◌≡◌}
use Rattle.std.specs.Iterator.Adapters.{enumerate_source, enumerate_count}
use Rattle.std.specs.Slice.Iter.{chunks_exact_rest, chunks_exact_size}
use Rattle.treerule.specs.Root.{chunk_bytes}
use Rattle.stream.proofs.Pushing.{Grown}
use Rattle.stream.proofs.roots.grow.Given as goal

abbrev pub invariant-loop-i : goal.invariant-loop-i
invariant-loop-i l =
    let left = enumerate_source l.i-iterator in
    (chunks_exact_size left ≡ chunk_bytes)
    × Grown l.bytes l.chunks l.initial.roots l.roots (chunks_exact_rest left) (enumerate_count l.i-iterator)
