-- `dwsha2::closing::closing_fits` meets its contract: its two tests are the definition's. Assumes nothing.
use mathlib.Core.Path.{sym}
use native.Mathlib.Omega.{arith}
use lib.Pow.{pow_pos}
use borrow.Author.Tests.{le-leb, lt-leb}
use Rattle.dwsha2.specs.Closing.{closing_fits}
use Rattle.dwsha2.proofs.closing.closing_fits.Goals as goal

pub returns-then-bits-gt7 : goal.returns-then-bits-gt7
unfolding closing_fits
returns-then-bits-gt7 c = sym (rw (lt-leb c.args.bits 7 c.if-bits-gt7.true))

pub nonzero_rem-result : goal.nonzero_rem-result
nonzero_rem-result c = rw c.power.ensures (pow_pos _)

pub returns : goal.returns
unfolding closing_fits
returns c = rw (le-leb c.args.bits 7 (omega arith), c.power.ensures)
