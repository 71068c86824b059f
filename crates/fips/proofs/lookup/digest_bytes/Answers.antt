-- `fips::lookup::digest_bytes` meets its contract: the lookup tells the bytes of a digest. Assumes nothing.
use mathlib.Core.Path.{sym, ap}
use Rattle.fips.specs.Editions.{Edition}
use Rattle.fips.proofs.Sizes.{sizes-known, sizes-unknown}
use Rattle.fips.proofs.Editions.{edition-none}
use Rattle.fips.proofs.lookup.digest_bytes.Goals as goal

pub returns-in-Some : goal.returns-in-Some
returns-in-Some c = let e = c.args.edition in
    let told = c.in-Some.is in
    (sizes-known e c.sizes.ensures told).3

pub returns-in-None : goal.returns-in-None
returns-in-None c = let e = c.args.edition in
    sym
    (ap (λ (x : Edition). x.digest_bytes)
    (edition-none e (sizes-unknown e c.sizes.ensures c.in-None.is)))
