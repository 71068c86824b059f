-- `fips::lookup::block_bytes` meets its contract: the bytes of a block, by the edition's width. Assumes nothing.
use mathlib.Core.Bool.{Bool}
use mathlib.Core.Path.{sym, ap, ◌∙◌}
use Rattle.fips.specs.Words.{block_bytes}
use Rattle.fips.specs.Sizes.{width_of}
use Rattle.fips.proofs.Sizes.{width-of}
use Rattle.fips.proofs.lookup.block_bytes.Goals as goal

pub returns : goal.returns
returns c = let e = c.args.edition in
    c.block_size.ensures
    ∙ ap (λ (b : Bool). block_bytes (width_of b)) c.narrow.ensures
    ∙ sym (ap block_bytes (width-of e))
