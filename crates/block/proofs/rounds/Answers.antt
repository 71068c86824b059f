-- The letters after t rounds are the standard's. Assumes nothing.
use Rattle.std.proofs.Common.{◌+◌, map, arith}
use Rattle.blockrule.proofs.Rounds.{Turned, turn-none, turn_more, turn-all}
use Rattle.block.proofs.rounds.Given as given
use Rattle.block.proofs.rounds.Goals.{After-turn-s8}
use Rattle.block.proofs.rounds.Goals as goal

pub loop-t-init : goal.loop-t-init
loop-t-init g c = turn-none

eight : (g : given.Over) (c : After-turn-s8 g)
    → let p = g.W.Word in
    Turned p.width g.row.N (map p.value c.args.k.now) (map p.value c.args.w.now) (map p.value c.args.h) (map p.value c.turn-s8.result)
    (c.loop-t.t + 8)
eight g c =
    turn_more c.loop-t-test.true g.met.W.Rounds.count.2 c.turn-s1.ensures c.turn-s2.ensures c.turn-s3.ensures
    c.turn-s4.ensures c.turn-s5.ensures c.turn-s6.ensures c.turn-s7.ensures c.turn-s8.ensures
    c.loop-t.invariant

pub loop-t-preserved : goal.loop-t-preserved
loop-t-preserved g c = eight g (goal.at.loop-t-preserved g c).After-turn-s8

pub returns-2 : goal.returns-2
returns-2 g c = turn-all (omega arith) (eight g (goal.at.returns-2 g c).After-turn-s8)
