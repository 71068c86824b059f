-- Settled: two outcomes that a public function's own contract allows coincide: what is answered, and all that was lent to be written.
-- `Learnt` is that contract, made from src. SPEC, "How much each call says".
use Prim.Native.Nat.{ℕ}
use mathlib.Core.List.{List}
use Rattle.contracts.specs.Says.{Settles}
use Rattle.answers.specs.Numbers.{Answer}
use Rattle.answers.proofs.Outcome.{answer-both, handed-settled}
use Rattle.records.specs.contracts.save as save
use Rattle.records.proofs.save.Reads as save-reads
use Rattle.records.specs.contracts.load as load
use Rattle.records.proofs.load.Reads as load-reads

pub save-settled : Settles {A = Answer × List ℕ} save.ended save-reads.Learnt (λ κs r x. (r, x.1.0.now))
save-settled κs a r s x y = answer-both

pub load-settled : Settles load.ended load-reads.Learnt (λ κs r x. r)
load-settled κs a r s x y = handed-settled r s
