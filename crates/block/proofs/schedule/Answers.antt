-- From the block's words on, each store is the standard's next word. Assumes nothing.
use Rattle.std.proofs.Common.{◌+◌, refl, map, arith}
use Rattle.std.proofs.lemmas.List.{length-map}
use Rattle.bigendian.specs.Words.{to_words}
use Rattle.fips.specs.Block.{schedule}
use Rattle.slices.proofs.Fill.{Filled, fill-all}
use Rattle.bigendian.proofs.Words.{length-to_words}
use Rattle.blockrule.proofs.Schedule.{schedule-begun, schedule-more-8}
use Rattle.block.proofs.schedule.Given as given
use Rattle.block.proofs.schedule.Goals.{After-extend-in-loop-t-7}
use Rattle.block.proofs.schedule.Goals as goal

pub loop-t-init : goal.loop-t-init
loop-t-init g c = (
  omega arith,
  refl,
  schedule-begun g.W.Word.width (to_words 16 g.W.Word.width.bytes c.args.s.now) (length-to_words 16 g.W.Word.width.bytes c.args.s.now)
      g.met.W.Rounds.count.1 (rw length-map c.begin.ensures.long) c.begin.ensures.front,
)

eight : (g : given.Over) (c : After-extend-in-loop-t-7 g)
    → let p = g.W.Word in
    Filled g.row.N g.row.N (schedule p.width (to_words 16 p.width.bytes c.args.s.now)) (map p.value c.extend-in-loop-t-7.new.w)
    (c.loop-t.t + 8)
eight g c =
    let p = g.W.Word in
    let m = to_words 16 p.width.bytes c.args.s.now in
    schedule-more-8 p.width m g.row.N (map p.value c.loop-t.w) c.loop-t.t (omega arith)
    (omega (arith, g.met.W.Rounds.count))
    (c.extend.ensures m) (c.extend-in-loop-t.ensures m) (c.extend-in-loop-t-2.ensures m) (c.extend-in-loop-t-3.ensures m)
    (c.extend-in-loop-t-4.ensures m) (c.extend-in-loop-t-5.ensures m) (c.extend-in-loop-t-6.ensures m) (c.extend-in-loop-t-7.ensures m)
    c.loop-t.invariant.2

pub loop-t-preserved : goal.loop-t-preserved
loop-t-preserved g c = (omega arith, omega arith, eight g (goal.at.loop-t-preserved g c).After-extend-in-loop-t-7)

pub returns-2 : goal.returns-2
returns-2 g c = fill-all (omega arith) (eight g (goal.at.returns-2 g c).After-extend-in-loop-t-7)
