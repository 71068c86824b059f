-- Settled: two outcomes that a public function's own contract allows coincide: what is answered, and all that was lent to be written.
-- `Learnt` is that contract, made from src. SPEC, "How much each call says".
use Prim.Native.Nat.{ℕ}
use mathlib.Core.List.{List}
use Rattle.contracts.specs.Says.{Settles}
use Rattle.contracts.proofs.Values.{value-settled}
use Rattle.answers.specs.Numbers.{Answer}
use Rattle.answers.proofs.Outcome.{answer-both, handed-settled}
use Rattle.stream.specs.contracts.state.begin as begin
use Rattle.stream.proofs.state.begin.Reads as begin-reads
use Rattle.stream.specs.contracts.state.is_sound as is-sound
use Rattle.stream.proofs.state.is_sound.Reads as is-sound-reads
use Rattle.stream.specs.contracts.add.add as add
use Rattle.stream.proofs.add.add.Reads as add_reads
use Rattle.stream.specs.contracts.root.root as root
use Rattle.stream.proofs.root.root.Reads as root-reads

pub begin-settled : Settles begin.ended begin-reads.Learnt (λ κs r x. r)
begin-settled κs a r s x y = value-settled

pub is-sound-settled : Settles is-sound.ended is-sound-reads.Learnt (λ κs r x. r)
is-sound-settled κs a r s x y = value-settled

pub add-settled : Settles add.ended add_reads.Learnt (λ κs r x. r)
add-settled κs a r s x y j k = handed-settled r s j.0 k.0

pub root-settled : Settles {A = Answer × List ℕ} root.ended root-reads.Learnt (λ κs r x. (r, x.1.0.now))
root-settled κs a r s x y j k = answer-both j.0 k.0
