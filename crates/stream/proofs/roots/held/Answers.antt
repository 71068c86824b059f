-- `stream::roots::held` meets its contract: a count of ones fits any integer. Assumes nothing.
use lib.Count.{ones-le}
use Rattle.stream.proofs.Limits.{count_fits}
use Rattle.stream.proofs.roots.held.Goals as goal

pub overflow_cast-result : goal.overflow_cast-result
overflow_cast-result c = count_fits _ (ones-le 64 _ c.ranges.chunks.fits)
