-- Settled: two outcomes that a public function's own contract allows coincide. `Learnt` is that contract, made from src. An outcome is
-- what is answered, and the table that is left.
use Prim.Native.Nat.{ℕ}
use mathlib.Core.List.{List}
use Rattle.std.specs.Prelude.{Option}
use Rattle.contracts.specs.Says.{Settles}
use Rattle.contracts.proofs.Values.{value-settled, both-settled}
use Rattle.lines.specs.declared.Verdict.{Verdict}
use Rattle.report.specs.declared.Ending.{Ending}
use Rattle.report.specs.contracts.file.begin as begin
use Rattle.report.proofs.file.begin.Reads as begin-reads
use Rattle.report.specs.contracts.file.turn as turn
use Rattle.report.proofs.file.turn.Reads as turn-reads
use Rattle.report.specs.contracts.file.verdict as verdict
use Rattle.report.proofs.file.verdict.Reads as verdict-reads
use Rattle.report.specs.contracts.reads.reason as reason
use Rattle.report.proofs.reads.reason.Reads as reason-reads
use Rattle.report.specs.contracts.reads.brought as brought
use Rattle.report.proofs.reads.brought.Reads as brought-reads

pub begin-settled : Settles begin.ended begin-reads.Learnt (λ κs r x. x.0.now)
begin-settled κs a r s x y = value-settled

pub turn-settled : Settles {A = Option Ending × List ℕ} turn.ended turn-reads.Learnt (λ κs r x. (r, x.0.now))
turn-settled κs a r s x y p q = both-settled (p.0, p.1.0) (q.0, q.1.0)

pub verdict-settled : Settles {A = Verdict × List ℕ} verdict.ended verdict-reads.Learnt (λ κs r x. (r, x.1.0.now))
verdict-settled κs a r s x y = both-settled

pub reason-settled : Settles reason.ended reason-reads.Learnt (λ κs r x. r)
reason-settled κs a r s x y = value-settled

pub brought-settled : Settles brought.ended brought-reads.Learnt (λ κs r x. r)
brought-settled κs a r s x y = value-settled
