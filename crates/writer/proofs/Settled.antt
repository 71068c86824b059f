-- Settled: two outcomes that a public function's own contract allows coincide: what is answered, and the buffer that is left.
-- `Learnt` is that contract, made from src. SPEC, "How much each call says".
use Prim.Native.Nat.{ℕ}
use mathlib.Core.List.{List}
use Rattle.contracts.specs.Says.{Settles}
use Rattle.answers.specs.Numbers.{Answer}
use Rattle.answers.proofs.Outcome.{answer-both}
use Rattle.writer.specs.contracts.start as start
use Rattle.writer.proofs.start.Reads as start-reads
use Rattle.writer.specs.contracts.put as put
use Rattle.writer.proofs.put.Reads as put_reads

pub start-settled : Settles {A = Answer × List ℕ} start.ended start-reads.Learnt (λ κs r x. (r, x.1.0.now))
start-settled κs a r s x y = answer-both

pub put-settled : Settles {A = Answer × List ℕ} put.ended put_reads.Learnt (λ κs r x. (r, x.0.now))
put-settled κs a r s x y j k = answer-both j.0 k.0
