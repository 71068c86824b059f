-- What is left decides, and less than a block decides nothing more. Assumes nothing.
use Rattle.std.proofs.Common.{map, arith}
use Rattle.std.specs.Slice.Iter.{chunks_exact_rest}
use Rattle.blockrule.proofs.Parse.{chain-more, chain-rest}
use Rattle.block.proofs.absorb.Goals as goal

pub loop-bytes-preserved : goal.loop-bytes-preserved
loop-bytes-preserved g c =
    let p = g.W.Word in
    let step = c.in-Some.ensures.steps in
    let same = c.loop-bytes.invariant.0 in
    let more =
    chain-more p.width (map p.value c.loop-bytes.v) c.in-Some.bytes.now (chunks_exact_rest c.next.new.self) (rw (step.1.1, same))
    (omega (arith, g.met.W.Word.sized)) (rw c.requires at c.block-v.ensures) in
    (rw (step.0, same), rw (more, ← step.1.0, c.loop-bytes.invariant.1))

pub returns : goal.returns
returns g c =
    let p = g.W.Word in
    let left = chunks_exact_rest c.loop-bytes.bytes-iterator in
    let short = rw c.loop-bytes.invariant.0 at c.in-None.ensures.steps.1.0 in
    rw (chain-rest p.width (map p.value c.loop-bytes.v) left short) at c.loop-bytes.invariant.1
