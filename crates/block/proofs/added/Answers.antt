-- The first i letters have their chaining words added. Assumes nothing.
use Rattle.std.proofs.Common.{rules}
use Rattle.std.proofs.lemmas.List.{map-set, length-map}
use Rattle.blockrule.proofs.Rounds.{join-none, join_more, join-all}
use Rattle.block.proofs.Values.{value-at}
use Rattle.block.proofs.added.Goals as goal

pub loop-i-init : goal.loop-i-init
loop-i-init g c = join-none (rw length-map (search rules)) (rw length-map (search rules))

pub loop-i-preserved : goal.loop-i-preserved
loop-i-preserved g c =
    let v = g.W.Word.value in
    let r = c.loop-i.r in
    let h = c.args.h in
    rw map-set
    (join_more c.loop-i-test.true
    (rw (← (value-at v r c.loop-i.i c.index-r-i.result (search rules)), ← (value-at v h c.loop-i.i c.index-h-i.result (search rules)))
    c.add.ensures)
    c.loop-i.invariant)

pub returns : goal.returns
returns g c = join-all c.loop-i-test.false c.loop-i.invariant
