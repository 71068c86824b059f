-- Settled: two outcomes that a public function's own contract allows coincide: what is answered, and all that was lent to be written.
-- `Learnt` is that contract, made from src. SPEC, "How much each call says".
use Prim.Native.Nat.{ℕ}
use mathlib.Core.List.{List}
use Rattle.contracts.specs.Says.{Settles}
use Rattle.contracts.proofs.Values.{value-settled}
use Rattle.answers.specs.Numbers.{Answer}
use Rattle.answers.proofs.Outcome.{answer-both, answer-numbered, handed-settled}
use Rattle.keyed.specs.contracts.state.start as start
use Rattle.keyed.proofs.state.start.Reads as start-reads
use Rattle.keyed.specs.contracts.state.is_sound as is-sound
use Rattle.keyed.proofs.state.is_sound.Reads as is-sound-reads
use Rattle.keyed.specs.contracts.add.add as add
use Rattle.keyed.proofs.add.add.Reads as add_reads
use Rattle.keyed.specs.contracts.end.tag as tag
use Rattle.keyed.proofs.end.tag.Reads as tag-reads
use Rattle.keyed.specs.contracts.end.check as check
use Rattle.keyed.proofs.end.check.Reads as check-reads
use Rattle.keyed.specs.contracts.at_once.tag as at-once-tag
use Rattle.keyed.proofs.at_once.tag.Reads as at-once-tag-reads
use Rattle.keyed.specs.contracts.at_once.check as at-once-check
use Rattle.keyed.proofs.at_once.check.Reads as at-once-check-reads

pub start-settled : Settles start.ended start-reads.Learnt (λ κs r x. r)
start-settled κs a r s x y j k = handed-settled r s j.0 k.0

pub is-sound-settled : Settles is-sound.ended is-sound-reads.Learnt (λ κs r x. r)
is-sound-settled κs a r s x y = value-settled

pub add-settled : Settles add.ended add_reads.Learnt (λ κs r x. r)
add-settled κs a r s x y j k = handed-settled r s j.0 k.0

pub tag-settled : Settles {A = Answer × List ℕ} tag.ended tag-reads.Learnt (λ κs r x. (r, x.1.0.now))
tag-settled κs a r s x y j k = answer-both j.0 k.0

pub check-settled : Settles check.ended check-reads.Learnt (λ κs r x. r)
check-settled κs a r s x y = answer-numbered {r = r} {s = s}

pub at-once-tag-settled : Settles {A = Answer × List ℕ} at-once-tag.ended at-once-tag-reads.Learnt (λ κs r x. (r, x.1.1.1.0.now))
at-once-tag-settled κs a r s x y = answer-both

pub at-once-check-settled : Settles at-once-check.ended at-once-check-reads.Learnt (λ κs r x. r)
at-once-check-settled κs a r s x y = answer-numbered {r = r} {s = s}
