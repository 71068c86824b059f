-- How long digests are: `short_digest`.
use Rattle.std.proofs.Common.{ℕ, ◌≤◌}
use Rattle.fips.specs.Editions.{digest_bytes}
use Rattle.fips.proofs.Editions.{digest-short}

pub short_digest : (e : ℕ) → digest_bytes e ≤ 64
short_digest = digest-short
