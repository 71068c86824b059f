-- Settled: two outcomes that a public function's own contract allows coincide: what is answered, and all that was lent to be written.
-- `Learnt` is that contract, made from src. SPEC, "How much each call says".
use Prim.Native.Nat.{ℕ}
use mathlib.Core.List.{List}
use Rattle.contracts.specs.Says.{Settles}
use Rattle.answers.specs.Numbers.{Answer}
use Rattle.answers.proofs.Outcome.{answer-both, answer-numbered}
use Rattle.keyedwords.specs.contracts.start as start
use Rattle.keyedwords.proofs.start.Reads as start-reads
use Rattle.keyedwords.specs.contracts.add as add
use Rattle.keyedwords.proofs.add.Reads as add_reads
use Rattle.keyedwords.specs.contracts.tag as tag
use Rattle.keyedwords.proofs.tag.Reads as tag-reads
use Rattle.keyedwords.specs.contracts.check as check
use Rattle.keyedwords.proofs.check.Reads as check-reads

pub start-settled : Settles {A = Answer × List ℕ} start.ended start-reads.Learnt (λ κs r x. (r, x.0.now))
start-settled κs a r s x y j k = answer-both j.0 k.0

pub add-settled : Settles {A = Answer × List ℕ} add.ended add_reads.Learnt (λ κs r x. (r, x.0.now))
add-settled κs a r s x y j k = answer-both j.0 k.0

pub tag-settled : Settles {A = Answer × List ℕ} tag.ended tag-reads.Learnt (λ κs r x. (r, x.1.0.now))
tag-settled κs a r s x y = answer-both

pub check-settled : Settles check.ended check-reads.Learnt (λ κs r x. r)
check-settled κs a r s x y = answer-numbered
