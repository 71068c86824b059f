-- Settled: two outcomes that a call's own contract allows coincide: answer, table and output; of ask the answer and what it tells.
-- `Learnt` is that contract, made from src. SPEC, "How much each call says".
use Prim.Native.Nat.{ℕ}
use mathlib.Core.List.{List}
use mathlib.Core.Path.{◌≡◌, sym, ap, ◌∙◌}
use Rattle.contracts.specs.Says.{Settles}
use Rattle.std.specs.Prelude.{Result, Ok, Err}
use Rattle.answers.specs.declared.Refusal.{Refusal}
use Rattle.answers.specs.Numbers.{Answer, number_of}
use Rattle.answers.specs.Judged.{Lent}
use Rattle.answers.proofs.Outcome.{answer-both, refusing-number, refusal-injective}
use Rattle.calls.specs.declared.Asked.{Asked}
use Rattle.calls.specs.Calls.{Told, told_of, Asks}
use Rattle.calls.specs.contracts.lay_out as lay-out
use Rattle.calls.proofs.lay_out.Reads as lay-out-reads
use Rattle.calls.specs.contracts.«open» as opn
use Rattle.calls.proofs.«open».Reads as open-reads
use Rattle.calls.specs.contracts.add as add
use Rattle.calls.proofs.add.Reads as add_reads
use Rattle.calls.specs.contracts.close as close
use Rattle.calls.proofs.close.Reads as close-reads
use Rattle.calls.specs.contracts.save as save
use Rattle.calls.proofs.save.Reads as save-reads
use Rattle.calls.specs.contracts.load as load
use Rattle.calls.proofs.load.Reads as load-reads
use Rattle.calls.specs.contracts.ask as ask
use Rattle.calls.proofs.ask.Reads as ask-reads
use Rattle.calls.specs.contracts.drop as drop
use Rattle.calls.proofs.drop.Reads as drop-reads

-- what is told is all that ask hands out
asked-settled : (t : List ℕ) (i : ℕ) (r s : Result Asked Refusal) → Asks t i (number_of r) (told_of r) →
    Asks t i (number_of s) (told_of s) → r ≡ s
asked-settled t i (Ok a) (Ok b) j k = ap (λ (x : Told). Ok (record { edition = x.edition; count = x.count })) (j.leaves ∙ sym k.leaves)
asked-settled t i (Ok a) (Err s) j k = absurd (rw (sym (j.answer ∙ sym k.answer)) at (refusing-number s))
asked-settled t i (Err r) (Ok b) j k = absurd (rw (j.answer ∙ sym k.answer) at (refusing-number r))
asked-settled t i (Err r) (Err s) j k = ap Err (refusal-injective r s (j.answer ∙ sym k.answer))

-- what is shown of an answer, or its number, and of what was lent: the table alone, or table and output
module _ {A : Type 0} {p q : A × Lent} where
  pub table-shown : p ≡ q → ◌≡◌ {A = A × List ℕ} (p.0, p.1.table) (q.0, q.1.table)
  table-shown = ap (λ (o : A × Lent). (o.0, o.1.table))

  pub output-shown : p ≡ q → ◌≡◌ {A = A × List ℕ × List ℕ} (p.0, p.1.table, p.1.output) (q.0, q.1.table, q.1.output)
  output-shown = ap (λ (o : A × Lent). (o.0, o.1.table, o.1.output))

pub lay-out-settled : Settles {A = Answer × List ℕ} lay-out.ended lay-out-reads.Learnt (λ κs r x. (r, x.0.now))
lay-out-settled κs a r s x y j k = table-shown (answer-both j.0 k.0)

pub open-settled : Settles {A = Answer × List ℕ} opn.ended open-reads.Learnt (λ κs r x. (r, x.0.now))
open-settled κs a r s x y j k = table-shown (answer-both j.0 k.0)

pub add-settled : Settles {A = Answer × List ℕ} add.ended add_reads.Learnt (λ κs r x. (r, x.0.now))
add-settled κs a r s x y j k = table-shown (answer-both j.0 k.0)

pub close-settled : Settles {A = Answer × List ℕ × List ℕ} close.ended close-reads.Learnt
    (λ κs r x. (r, x.0.now, x.1.1.1.1.0.now))
close-settled κs a r s x y j k = output-shown (answer-both j.0 k.0)

pub save-settled : Settles {A = Answer × List ℕ × List ℕ} save.ended save-reads.Learnt (λ κs r x. (r, x.0.now, x.1.1.0.now))
save-settled κs a r s x y j k = output-shown (answer-both j.0 k.0)

pub load-settled : Settles {A = Answer × List ℕ} load.ended load-reads.Learnt (λ κs r x. (r, x.0.now))
load-settled κs a r s x y j k = table-shown (answer-both j.0 k.0)

pub ask-settled : Settles ask.ended ask-reads.Learnt (λ κs r x. r)
ask-settled κs a r s x y j k = asked-settled a.0.now a.1.0 r s j.0 k.0

pub drop-settled : Settles {A = Answer × List ℕ} drop.ended drop-reads.Learnt (λ κs r x. (r, x.0.now))
drop-settled κs a r s x y j k = table-shown (answer-both j.0 k.0)
