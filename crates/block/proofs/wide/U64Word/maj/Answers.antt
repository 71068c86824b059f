-- The short form makes the standard's word, for all words below 2^64. Assumes nothing.
use Rattle.fips.specs.Words.{w64}
use Rattle.blockrule.proofs.Forms.{maj-short}
use Rattle.block.proofs.wide.U64Word.maj.Goals as goal

pub returns : goal.returns
returns c = maj-short w64 c.ranges.self.fits c.ranges.y.fits c.ranges.z.fits
