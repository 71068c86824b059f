-- Settled: two outcomes that a public function's own contract allows coincide: what is answered, and all that was lent to be written.
-- `Learnt` is that contract, made from src. SPEC, "How much each call says".
use Prim.Native.Nat.{ℕ}
use mathlib.Core.List.{List}
use Rattle.contracts.specs.Says.{Settles}
use Rattle.contracts.proofs.Values.{value-settled}
use Rattle.answers.specs.Numbers.{Answer}
use Rattle.answers.proofs.Outcome.{answer-both, handed-settled}
use Rattle.halfread.specs.contracts.state.«open» as opn
use Rattle.halfread.proofs.state.«open».Reads as open-reads
use Rattle.halfread.specs.contracts.state.blank as blank
use Rattle.halfread.proofs.state.blank.Reads as blank-reads
use Rattle.halfread.specs.contracts.sound.below_width as below-width
use Rattle.halfread.proofs.sound.below_width.Reads as below-width-reads
use Rattle.halfread.specs.contracts.sound.is_sound as is-sound
use Rattle.halfread.proofs.sound.is_sound.Reads as is-sound-reads
use Rattle.halfread.specs.contracts.add.add as add
use Rattle.halfread.proofs.add.add.Reads as add_reads
use Rattle.halfread.specs.contracts.close.close as close
use Rattle.halfread.proofs.close.close.Reads as close-reads
use Rattle.halfread.specs.contracts.tail.tail_length as tail-length
use Rattle.halfread.proofs.tail.tail_length.Reads as tail-length-reads
use Rattle.halfread.specs.contracts.tail.padded as padded
use Rattle.halfread.proofs.tail.padded.Reads as padded-reads

pub open-settled : Settles opn.ended open-reads.Learnt (λ κs r x. r)
open-settled κs a r s x y = value-settled

pub blank-settled : Settles blank.ended blank-reads.Learnt (λ κs r x. r)
blank-settled κs a r s x y = value-settled

pub below-width-settled : Settles below-width.ended below-width-reads.Learnt (λ κs r x. r)
below-width-settled κs a r s x y = value-settled

pub is-sound-settled : Settles is-sound.ended is-sound-reads.Learnt (λ κs r x. r)
is-sound-settled κs a r s x y = value-settled

pub add-settled : Settles add.ended add_reads.Learnt (λ κs r x. r)
add-settled κs a r s x y = handed-settled r s

pub close-settled : Settles {A = Answer × List ℕ} close.ended close-reads.Learnt (λ κs r x. (r, x.1.1.1.0.now))
close-settled κs a r s x y = answer-both

pub tail-length-settled : Settles tail-length.ended tail-length-reads.Learnt (λ κs r x. r)
tail-length-settled κs a r s x y = value-settled

pub padded-settled : Settles padded.ended padded-reads.Learnt (λ κs r x. r)
padded-settled κs a r s x y = value-settled
