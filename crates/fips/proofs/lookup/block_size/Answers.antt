-- `fips::lookup::block_size` meets its contract: 64 bytes or 128. Assumes nothing.
use mathlib.Core.Bool.{Bool}
use mathlib.Core.Path.{sym, ap}
use Rattle.fips.specs.Words.{block_bytes}
use Rattle.fips.specs.Sizes.{width_of}
use Rattle.fips.proofs.lookup.block_size.Goals as goal

pub returns-then-thin : goal.returns-then-thin
returns-then-thin c = sym (ap (λ (b : Bool). block_bytes (width_of b)) c.if-thin.true)

pub returns : goal.returns
returns c = sym (ap (λ (b : Bool). block_bytes (width_of b)) c.if-thin.false)
