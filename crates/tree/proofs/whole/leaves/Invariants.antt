-- `tree::whole::leaves` meets its contract. The invariant: i leaves are in place, and the bytes behind their chunks are left. Assumes
-- nothing.
use mathlib.Core.Path.{◌≡◌}
use Rattle.std.specs.Iterator.Adapters.{enumerate_source, enumerate_count}
use Rattle.std.specs.Slice.Iter.{chunks_rest, chunks_size}
use Rattle.treerule.specs.Root.{chunk_bytes}
use Rattle.tree.proofs.InPlace.{Leaved}
use Rattle.tree.proofs.whole.leaves.Given as goal

abbrev pub invariant-loop-i : goal.invariant-loop-i
invariant-loop-i l =
    let left = enumerate_source l.i-iterator in
    (chunks_size left ≡ chunk_bytes)
    × Leaved l.map l.nodes (chunks_rest left) (enumerate_count l.i-iterator)
