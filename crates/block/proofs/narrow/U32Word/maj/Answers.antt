-- The short form makes the standard's word, for all words below 2^32. Assumes nothing.
use Rattle.fips.specs.Words.{w32}
use Rattle.blockrule.proofs.Forms.{maj-short}
use Rattle.block.proofs.narrow.U32Word.maj.Goals as goal

pub returns : goal.returns
returns c = maj-short w32 c.ranges.self.fits c.ranges.y.fits c.ranges.z.fits
