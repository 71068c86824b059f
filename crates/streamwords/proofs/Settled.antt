-- Settled: two outcomes that a public function's own contract allows coincide: what is answered, and all that was lent to be written.
-- `Learnt` is that contract, made from src. SPEC, "How much each call says".
use Prim.Native.Nat.{ℕ}
use mathlib.Core.List.{List}
use Rattle.contracts.specs.Says.{Settles}
use Rattle.answers.specs.Numbers.{Answer}
use Rattle.answers.proofs.Outcome.{answer-both}
use Rattle.streamwords.specs.contracts.begin as begin
use Rattle.streamwords.proofs.begin.Reads as begin-reads
use Rattle.streamwords.specs.contracts.add as add
use Rattle.streamwords.proofs.add.Reads as add_reads
use Rattle.streamwords.specs.contracts.root as root
use Rattle.streamwords.proofs.root.Reads as root-reads

pub begin-settled : Settles {A = Answer × List ℕ} begin.ended begin-reads.Learnt (λ κs r x. (r, x.0.now))
begin-settled κs a r s x y = answer-both

pub add-settled : Settles {A = Answer × List ℕ} add.ended add_reads.Learnt (λ κs r x. (r, x.0.now))
add-settled κs a r s x y j k = answer-both j.0 k.0

pub root-settled : Settles {A = Answer × List ℕ} root.ended root-reads.Learnt (λ κs r x. (r, x.1.0.now))
root-settled κs a r s x y = answer-both
