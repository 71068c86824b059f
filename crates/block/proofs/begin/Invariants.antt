-- The words loaded so far stand in front. Assumes nothing.
use Rattle.std.proofs.Common.{map}
use Rattle.bigendian.specs.Words.{to_words}
use Rattle.slices.proofs.Fill.{Filled}
use Rattle.block.proofs.begin.Given as goal

abbrev pub invariant-loop-t : goal.invariant-loop-t
invariant-loop-t g l =
    let p = g.W.Word in
    Filled g.row.N 16 (λ k. to_words k p.width.bytes l.s) (map p.value l.w) l.t
