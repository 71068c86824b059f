-- `halfread::tail::tail_length` meets its contract: a block has some bytes. Assumes nothing.
use native.Mathlib.Omega.{arith}
use Rattle.fips.proofs.Sizes.{block-some}
use Rattle.halfread.proofs.tail.tail_length.Goals as goal

pub nonzero_rem-result : goal.nonzero_rem-result
nonzero_rem-result c = omega (arith, block-some c.args.edition, c.block_bytes-size.ensures)
