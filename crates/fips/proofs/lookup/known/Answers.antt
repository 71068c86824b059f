-- `fips::lookup::known` meets its contract: the lookup tells sizes exactly where there is an edition. Assumes nothing.
use mathlib.Core.Path.{◌∙◌}
use Rattle.fips.proofs.Sizes.{known-told}
use Rattle.fips.proofs.lookup.known.Goals as goal

pub returns : goal.returns
returns c = c.is_some.ensures ∙ known-told c.args.edition c.sizes.result c.sizes.ensures
