-- `fips::lookup::narrow` meets its contract: the lookup tells the bits of a word. Assumes nothing.
use mathlib.Core.Path.{sym}
use Rattle.fips.proofs.Sizes.{sizes-known, sizes-unknown, narrow-word, narrow-none}
use Rattle.fips.proofs.lookup.narrow.Goals as goal

pub returns-in-Some : goal.returns-in-Some
returns-in-Some c = let e = c.args.edition in
    let told = c.in-Some.is in
    narrow-word e _ (sizes-known e c.sizes.ensures told).1

pub returns-in-None : goal.returns-in-None
returns-in-None c = let e = c.args.edition in
    sym (narrow-none e (sizes-unknown e c.sizes.ensures c.in-None.is))
