-- Settled: two outcomes that a public function's own contract allows coincide: what is answered, and all that was lent to be written.
-- `Learnt` is that contract, made from src. SPEC, "How much each call says".
use Prim.Native.Nat.{ℕ}
use mathlib.Core.List.{List}
use Rattle.contracts.specs.Says.{Settles}
use Rattle.contracts.proofs.Values.{value-settled}
use Rattle.answers.specs.Numbers.{Answer}
use Rattle.answers.proofs.Outcome.{answer-both, answer-numbered, handed-settled}
use Rattle.bays.specs.contracts.table.lay_out as lay-out
use Rattle.bays.proofs.table.lay_out.Reads as lay-out-reads
use Rattle.bays.specs.contracts.table.gate as gate
use Rattle.bays.proofs.table.gate.Reads as gate-reads
use Rattle.bays.specs.contracts.in_place.gate_taken as gate-taken
use Rattle.bays.proofs.in_place.gate_taken.Reads as gate-taken-reads
use Rattle.bays.specs.contracts.in_place.gate_free as gate-free
use Rattle.bays.proofs.in_place.gate_free.Reads as gate-free-reads
use Rattle.bays.specs.contracts.in_place.taken_at as taken_at
use Rattle.bays.proofs.in_place.taken_at.Reads as taken-at-reads
use Rattle.bays.specs.contracts.in_place.sound_at as sound-at
use Rattle.bays.proofs.in_place.sound_at.Reads as sound-at-reads
use Rattle.bays.specs.contracts.in_place.put_at as put-at
use Rattle.bays.proofs.in_place.put_at.Reads as put-at-reads
use Rattle.bays.specs.contracts.in_place.clear_at as clear_at
use Rattle.bays.proofs.in_place.clear_at.Reads as clear-at-reads
use Rattle.bays.specs.contracts.lent.half_in as half_in
use Rattle.bays.proofs.lent.half_in.Reads as half-in-reads
use Rattle.bays.specs.contracts.lent.words_of as words_of
use Rattle.bays.proofs.lent.words_of.Reads as words-of-reads

pub lay-out-settled : Settles {A = Answer × List ℕ} lay-out.ended lay-out-reads.Learnt (λ κs r x. (r, x.0.now))
lay-out-settled κs a r s x y = answer-both

pub gate-settled : Settles gate.ended gate-reads.Learnt (λ κs r x. r)
gate-settled κs a r s x y = answer-numbered

pub gate-taken-settled : Settles gate-taken.ended gate-taken-reads.Learnt (λ κs r x. r)
gate-taken-settled κs a r s x y = answer-numbered

pub gate-free-settled : Settles gate-free.ended gate-free-reads.Learnt (λ κs r x. r)
gate-free-settled κs a r s x y = answer-numbered

pub taken-at-settled : Settles taken_at.ended taken-at-reads.Learnt (λ κs r x. r)
taken-at-settled κs a r s x y = handed-settled r s

pub sound-at-settled : Settles sound-at.ended sound-at-reads.Learnt (λ κs r x. r)
sound-at-settled κs a r s x y = handed-settled r s

pub put-at-settled : Settles put-at.ended put-at-reads.Learnt (λ κs r x. x.0.now)
put-at-settled κs a r s x y = value-settled

pub clear-at-settled : Settles clear_at.ended clear-at-reads.Learnt (λ κs r x. x.0.now)
clear-at-settled κs a r s x y = value-settled

pub half-in-settled : Settles half_in.ended half-in-reads.Learnt (λ κs r x. r)
half-in-settled κs a r s x y = value-settled

pub words-of-settled : Settles words_of.ended words-of-reads.Learnt (λ κs r x. r)
words-of-settled κs a r s x y = value-settled
