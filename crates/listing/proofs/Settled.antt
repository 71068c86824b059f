-- Settled: two outcomes that a public function's own contract allows coincide: what is answered, and all that was lent to be written.
-- `Learnt` is that contract, made from src. SPEC, "How much each call says".
use Prim.Native.Nat.{ℕ}
use mathlib.Core.List.{List}
use Rattle.contracts.specs.Says.{Settles}
use Rattle.slices.proofs.LiesAt.{lies-settled}
use Rattle.contracts.proofs.Values.{value-settled, both-settled}
use Rattle.listing.specs.contracts.judge as judge
use Rattle.listing.proofs.judge.Reads as judge-reads
use Rattle.listing.specs.contracts.answered as answered
use Rattle.listing.proofs.answered.Reads as answered-reads
use Rattle.listing.specs.contracts.names.count as count
use Rattle.listing.proofs.names.count.Reads as count-reads
use Rattle.listing.specs.contracts.names.name as name
use Rattle.listing.proofs.names.name.Reads as name-reads
use Rattle.listing.specs.contracts.names.all_ended as all-ended
use Rattle.listing.proofs.names.all_ended.Reads as all-ended-reads
use Rattle.listing.specs.contracts.shown.put_shown as put-shown
use Rattle.listing.proofs.shown.put_shown.Reads as put-shown-reads
use Rattle.listing.specs.contracts.says.made as made
use Rattle.listing.proofs.says.made.Reads as made_reads
use Rattle.listing.specs.contracts.says.refusal as refusal
use Rattle.listing.proofs.says.refusal.Reads as refusal-reads

pub judge-settled : Settles judge.ended judge-reads.Learnt (λ κs r x. r)
judge-settled κs a r s x y = value-settled

pub answered-settled : Settles answered.ended answered-reads.Learnt (λ κs r x. r)
answered-settled κs a r s x y = value-settled

pub count-settled : Settles count.ended count-reads.Learnt (λ κs r x. r)
count-settled κs a r s x y = value-settled

pub name-settled : Settles {A = List ℕ × (ℕ × ℕ)} name.ended name-reads.Learnt (λ κs r x. (r.now, r.ref_ptr))
name-settled κs a r s x y = lies-settled

pub all-ended-settled : Settles all-ended.ended all-ended-reads.Learnt (λ κs r x. r)
all-ended-settled κs a r s x y = value-settled

pub put-shown-settled : Settles {A = ℕ × List ℕ} put-shown.ended put-shown-reads.Learnt (λ κs r x. (r, x.1.0.now))
put-shown-settled κs a r s x y = both-settled

pub made-settled : Settles {A = ℕ × List ℕ} made.ended made_reads.Learnt (λ κs r x. (r, x.1.1.1.0.now))
made-settled κs a r s x y = both-settled

pub refusal-settled : Settles {A = ℕ × List ℕ} refusal.ended refusal-reads.Learnt (λ κs r x. (r, x.1.1.0.now))
refusal-settled κs a r s x y = both-settled
