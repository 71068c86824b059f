-- Schedule, rounds and sums are the block rule. Assumes nothing.
use Rattle.fips.specs.Block.{block}
use Rattle.block.proofs.block.Goals as goal

pub returns : goal.returns
unfolding block
returns g c = rw (c.added.ensures, c.rounds.ensures, c.schedule.ensures, g.met.W.Rounds.count.0)
