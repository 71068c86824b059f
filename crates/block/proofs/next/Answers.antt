-- W_t by the recurrence is the standard's next word from 16 on. Assumes nothing.
use Rattle.std.proofs.Common.{map, ◌-◌, arith}
use Rattle.blockrule.proofs.Schedule.{next-later}
use Rattle.block.proofs.Values.{value-at}
use Rattle.block.proofs.next.Goals as goal

pub returns : goal.returns
returns g c m =
    let v = g.W.Word.value in
    let w = c.args.w.now in
    let t = c.args.t in
    let at = value-at v w in
    cc (
      next-later g.W.Word.width m t (map v w) c.requires.0,
      at (t - 2) c.index-w-t.result (omega arith),
      at (t - 7) c.index-w-t-2.result (omega arith),
      at (t - 15) c.index-w-t-3.result (omega arith),
      at (t - 16) c.index-w-t-4.result (omega arith),
    )
