-- `night::fits::record_length` meets its contract: no block has more than 128 bytes. Assumes nothing.
use native.Mathlib.Nat.{mod-lt}
use native.Mathlib.Omega.{arith}
use Rattle.fips.proofs.Sizes.{block-some, block_within}
use Rattle.night.proofs.fits.record_length.Goals as goal

pub overflow_add-result-2 : goal.overflow_add-result-2
overflow_add-result-2 c = let g = c.args in
    omega (
      arith,
      c.block_bytes.ensures,
      c.tail_length-tail.ensures,
      block_within g.edition,
      mod-lt g.count (block-some g.edition),
    )
