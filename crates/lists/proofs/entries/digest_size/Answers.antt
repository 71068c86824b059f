-- `lists::entries::digest_size` meets its contract.
use mathlib.Core.Path.{ap, ◌∙◌}
use Rattle.fips.specs.Editions.{digest_bytes}
use Rattle.lists.proofs.entries.digest_size.Goals as goal

pub returns : goal.returns
returns c = c.digest_bytes.ensures ∙ ap digest_bytes c.edition.ensures
