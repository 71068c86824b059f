-- One round moves the letters on and puts the two sums in. Assumes nothing.
use Rattle.std.proofs.Common.{◌≡◌, length, rules, arith}
use Rattle.fips.specs.Block.{round}
use Rattle.block.proofs.Values.{value-at}
use Rattle.block.proofs.round.Goals as goal

pub returns : goal.returns
unfolding round
returns g c =
    let s = c.args.s in
    let long : length s ≡ 8 = search rules in
    let at = value-at g.W.Word.value s in
    cc (
      at 0 c.index-s-0.result (omega arith),
      at 1 c.index-s-1.result (omega arith),
      at 2 c.index-s-2.result (omega arith),
      at 3 c.index-s-3.result (omega arith),
      at 4 c.index-s-4.result (omega arith),
      at 5 c.index-s-5.result (omega arith),
      at 6 c.index-s-6.result (omega arith),
    )
