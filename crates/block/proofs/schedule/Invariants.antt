-- From the block's words on, each store is the standard's next word. Assumes nothing.
use Rattle.std.proofs.Common.{◌≡◌, ◌≤◌, ◌-◌, ◌%◌, map}
use Rattle.bigendian.specs.Words.{to_words}
use Rattle.fips.specs.Block.{schedule}
use Rattle.slices.proofs.Fill.{Filled}
use Rattle.block.proofs.schedule.Given as goal

abbrev pub invariant-loop-t : goal.invariant-loop-t
invariant-loop-t g l =
    let p = g.W.Word in
    (16 ≤ l.t) × (l.t % 8 ≡ 0)
    × Filled g.row.N g.row.N (schedule p.width (to_words 16 p.width.bytes l.s)) (map p.value l.w) l.t

abbrev pub decreases-loop-t : goal.decreases-loop-t
decreases-loop-t g l = g.row.N - l.t
