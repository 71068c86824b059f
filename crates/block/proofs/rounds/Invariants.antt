-- The letters after t rounds are the standard's. Assumes nothing.
use Rattle.std.proofs.Common.{map, ◌-◌}
use Rattle.blockrule.proofs.Rounds.{Turned}
use Rattle.block.proofs.rounds.Given as goal

abbrev pub invariant-loop-t : goal.invariant-loop-t
invariant-loop-t g l =
    let p = g.W.Word in
    Turned p.width g.row.N (map p.value l.k) (map p.value l.w) (map p.value l.initial.s) (map p.value l.s) l.t

abbrev pub decreases-loop-t : goal.decreases-loop-t
decreases-loop-t g l = g.row.N - l.t
