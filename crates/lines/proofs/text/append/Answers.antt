-- `lines::text::append` meets its contract.
use Rattle.std.proofs.Common.{arith}
use Rattle.lines.proofs.Putting.{put-part}
use Rattle.lines.proofs.text.append.Goals as goal

pub returns : goal.returns
returns c = let a = c.args in (
  omega (arith, c.min-start.ensures, c.min.ensures),
  put-part a.at a.text.now a.out.now _ _ c.min-start.ensures c.put_front.ensures,
)
