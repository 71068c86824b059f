-- The words loaded so far stand in front. Assumes nothing.
use Rattle.std.proofs.Common.{refl, arith, rules}
use Rattle.std.proofs.lemmas.List.{map-set, length-map}
use Rattle.bigendian.specs.Words.{to_words}
use Rattle.slices.proofs.Fill.{fill-front}
use Rattle.blockrule.proofs.Load.{words_more}
use Rattle.block.proofs.begin.Goals as goal

pub loop-t-init : goal.loop-t-init
unfolding to_words
loop-t-init g c = record { within = omega arith; long = rw length-map (search rules); front = refl }

pub loop-t-preserved : goal.loop-t-preserved
loop-t-preserved g c =
    rw map-set
    (words_more g.W.Word.width.bytes c.args.s.now c.loop-t-test.true (omega arith) c.load.ensures c.loop-t.invariant)

pub returns : goal.returns
returns g c = record {
  long = rw length-map at c.loop-t.invariant.long;
  front = fill-front c.loop-t-test.false c.loop-t.invariant;
}
