-- `listing::names::behind_zero` meets its contract: the zero byte is there, or the end.
use Rattle.std.proofs.Common.{arith}
use Rattle.listing.proofs.ByZeros.{lent, next-name}
use Rattle.listing.proofs.names.behind_zero.Goals as goal

pub returns : goal.returns
returns c = (omega (arith, c.min.ensures), rw c.min.ensures (next-name _ _ _ (rw lent at c.before_zero.ensures.0)))
