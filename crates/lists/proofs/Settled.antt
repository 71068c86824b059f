-- Settled: two results that a public function's own contract allows coincide. `Learnt` is that contract, made from src.
-- Nothing is lent to be written, so an outcome is the answer. Of a part of the list that is handed back it is the bytes, and the block and
-- the offset where they lie.
use mathlib.Core.List.{List}
use Prim.Native.Nat.{ℕ}
use Rattle.contracts.specs.Says.{Settles}
use Rattle.contracts.proofs.Values.{value-settled}
use Rattle.answers.proofs.Outcome.{number-injective}
use Rattle.slices.proofs.LiesAt.{lies-settled}
use Rattle.lists.proofs.Earlier.{place-same}
use Rattle.lists.proofs.Places.{find-same}
use Rattle.lists.specs.contracts.is_list as is-list
use Rattle.lists.proofs.is_list.Reads as is-list-reads
use Rattle.lists.specs.contracts.find as find
use Rattle.lists.proofs.find.Reads as find-reads
use Rattle.lists.specs.contracts.place as place
use Rattle.lists.proofs.place.Reads as place-reads
use Rattle.lists.specs.contracts.lookup as lookup
use Rattle.lists.proofs.lookup.Reads as lookup-reads
use Rattle.lists.specs.contracts.judge as judge
use Rattle.lists.proofs.judge.Reads as judge-reads
use Rattle.lists.specs.contracts.entries.edition as edition
use Rattle.lists.proofs.entries.edition.Reads as edition-reads
use Rattle.lists.specs.contracts.entries.count as count
use Rattle.lists.proofs.entries.count.Reads as count-reads
use Rattle.lists.specs.contracts.entries.digest_size as digest-size
use Rattle.lists.proofs.entries.digest_size.Reads as digest-size-reads
use Rattle.lists.specs.contracts.entries.name as name
use Rattle.lists.proofs.entries.name.Reads as name-reads
use Rattle.lists.specs.contracts.entries.digest as digest
use Rattle.lists.proofs.entries.digest.Reads as digest-reads
use Rattle.lists.specs.contracts.names.allowed as allowed
use Rattle.lists.proofs.names.allowed.Reads as allowed-reads
use Rattle.lists.specs.contracts.order.before as before
use Rattle.lists.proofs.order.before.Reads as before-reads

pub is-list-settled : Settles is-list.ended is-list-reads.Learnt (λ κs r x. r)
is-list-settled κs a r s x y = value-settled

-- the answer and its values, which its number and the place settle
pub find-settled : Settles find.ended find-reads.Learnt (λ κs r x. r)
find-settled κs a r s x y = find-same _ _ r s

pub place-settled : Settles place.ended place-reads.Learnt (λ κs r x. r)
place-settled κs a r s x y p q = place-same r s p.0 q.0 p.1 q.1

pub lookup-settled : Settles {A = List ℕ × (ℕ × ℕ)} lookup.ended lookup-reads.Learnt (λ κs r x. (r.now, r.ref_ptr))
lookup-settled κs a r s x y = lies-settled

pub judge-settled : Settles judge.ended judge-reads.Learnt (λ κs r x. r)
judge-settled κs a r s x y p q = number-injective r s (value-settled p q)

-- ---- the entries by number, and names judged and compared

pub edition-settled : Settles edition.ended edition-reads.Learnt (λ κs r x. r)
edition-settled κs a r s x y = value-settled

pub count-settled : Settles count.ended count-reads.Learnt (λ κs r x. r)
count-settled κs a r s x y = value-settled

pub digest-size-settled : Settles digest-size.ended digest-size-reads.Learnt (λ κs r x. r)
digest-size-settled κs a r s x y = value-settled

pub name-settled : Settles {A = List ℕ × (ℕ × ℕ)} name.ended name-reads.Learnt (λ κs r x. (r.now, r.ref_ptr))
name-settled κs a r s x y = lies-settled

pub digest-settled : Settles {A = List ℕ × (ℕ × ℕ)} digest.ended digest-reads.Learnt (λ κs r x. (r.now, r.ref_ptr))
digest-settled κs a r s x y = lies-settled

pub allowed-settled : Settles allowed.ended allowed-reads.Learnt (λ κs r x. r)
allowed-settled κs a r s x y = value-settled

pub before-settled : Settles before.ended before-reads.Learnt (λ κs r x. r)
before-settled κs a r s x y = value-settled
