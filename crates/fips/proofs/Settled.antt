-- Settled: two results that a public function's own contract allows coincide. `Learnt` is that contract, made from src.
use Rattle.std.specs.Prelude.{ℕ, List}
use Rattle.contracts.specs.Says.{Settles}
use Rattle.contracts.proofs.Values.{value-settled}
use Rattle.fips.proofs.Sizes.{sizes-same}
use Rattle.fips.specs.contracts.tables.round32 as round32
use Rattle.fips.proofs.tables.round32.Reads as round32-reads
use Rattle.fips.specs.contracts.tables.round32_lent as round32-lent
use Rattle.fips.proofs.tables.round32_lent.Reads as round32-lent-reads
use Rattle.fips.specs.contracts.tables.round64 as round64
use Rattle.fips.proofs.tables.round64.Reads as round64-reads
use Rattle.fips.specs.contracts.tables.round64_lent as round64-lent
use Rattle.fips.proofs.tables.round64_lent.Reads as round64-lent-reads
use Rattle.fips.specs.contracts.tables.start_row as start-row
use Rattle.fips.proofs.tables.start_row.Reads as start-row-reads
use Rattle.fips.specs.contracts.lookup.sizes as sizes
use Rattle.fips.proofs.lookup.sizes.Reads as sizes-reads
use Rattle.fips.specs.contracts.lookup.known as known
use Rattle.fips.proofs.lookup.known.Reads as known-reads
use Rattle.fips.specs.contracts.lookup.narrow as narrow
use Rattle.fips.proofs.lookup.narrow.Reads as narrow-reads
use Rattle.fips.specs.contracts.lookup.digest_bytes as digest-bytes
use Rattle.fips.proofs.lookup.digest_bytes.Reads as digest-bytes-reads
use Rattle.fips.specs.contracts.lookup.block_size as block_size
use Rattle.fips.proofs.lookup.block_size.Reads as block-size-reads
use Rattle.fips.specs.contracts.lookup.block_bytes as block-bytes
use Rattle.fips.proofs.lookup.block_bytes.Reads as block-bytes-reads

pub round32-settled : Settles round32.ended round32-reads.Learnt (λ κs r x. r)
round32-settled κs a r s x y = value-settled

pub round32-lent-settled : (v : List ℕ) → Settles round32-lent.ended (λ κs. round32-lent-reads.Learnt (v, κs)) (λ κs r x. r.now)
round32-lent-settled v κs a r s x y = value-settled

pub round64-settled : Settles round64.ended round64-reads.Learnt (λ κs r x. r)
round64-settled κs a r s x y = value-settled

pub round64-lent-settled : (v : List ℕ) → Settles round64-lent.ended (λ κs. round64-lent-reads.Learnt (v, κs)) (λ κs r x. r.now)
round64-lent-settled v κs a r s x y = value-settled

pub start-row-settled : Settles start-row.ended start-row-reads.Learnt (λ κs r x. r)
start-row-settled κs a r s x y = value-settled

pub sizes-settled : Settles sizes.ended sizes-reads.Learnt (λ κs r x. r)
sizes-settled κs a r s x y = sizes-same a.0 r s

pub known-settled : Settles known.ended known-reads.Learnt (λ κs r x. r)
known-settled κs a r s x y = value-settled

pub narrow-settled : Settles narrow.ended narrow-reads.Learnt (λ κs r x. r)
narrow-settled κs a r s x y = value-settled

pub digest-bytes-settled : Settles digest-bytes.ended digest-bytes-reads.Learnt (λ κs r x. r)
digest-bytes-settled κs a r s x y = value-settled

pub block-size-settled : Settles block_size.ended block-size-reads.Learnt (λ κs r x. r)
block-size-settled κs a r s x y = value-settled

pub block-bytes-settled : Settles block-bytes.ended block-bytes-reads.Learnt (λ κs r x. r)
block-bytes-settled κs a r s x y = value-settled
