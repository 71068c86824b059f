-- The calls of `calls` that were made: `Did` holds of a call by the function's own contract and nothing else. `Learnt` is that contract as
-- a caller learns it, made from the `ensures` in calls/src/lib.rt; `Made` is a call of which it holds.
use Rattle.std.specs.Prelude.{ℕ, List, []}
use Rattle.contracts.specs.Says.{Made, exit}
use Rattle.answers.specs.Numbers.{number_of}
use Rattle.calls.specs.Calls.{Call, lay_out, opening, adding, closing, saving, loading, asking, dropping, Seen, told_of}
use Rattle.calls.specs.contracts.lay_out as lay-out
use Rattle.calls.proofs.lay_out.Reads as lay-out-reads
use Rattle.calls.specs.contracts.«open» as opn
use Rattle.calls.proofs.«open».Reads as open-reads
use Rattle.calls.specs.contracts.add as add
use Rattle.calls.proofs.add.Reads as add_reads
use Rattle.calls.specs.contracts.close as close
use Rattle.calls.proofs.close.Reads as close-reads
use Rattle.calls.specs.contracts.save as save
use Rattle.calls.proofs.save.Reads as save-reads
use Rattle.calls.specs.contracts.load as load
use Rattle.calls.proofs.load.Reads as load-reads
use Rattle.calls.specs.contracts.ask as ask
use Rattle.calls.proofs.ask.Reads as ask-reads
use Rattle.calls.specs.contracts.drop as drop
use Rattle.calls.proofs.drop.Reads as drop-reads
use Rattle.ledger.specs.Traces.{shows, shows_told}

pub data Did : List ℕ → Call → Seen → List ℕ → Type 0 where
  lay-out-did : (m : Made lay-out.ended lay-out-reads.Learnt) →
      Did m.args.0.now (lay_out m.args.1.0) (shows (number_of m.result) []) (exit m).0.now
  open-did : (m : Made opn.ended open-reads.Learnt) →
      Did m.args.0.now (opening m.args.1.0 m.args.1.1.0) (shows (number_of m.result) []) (exit m).0.now
  add-did : (m : Made add.ended add_reads.Learnt) →
      Did m.args.0.now (adding m.args.1.0 m.args.1.1.0.now) (shows (number_of m.result) []) (exit m).0.now
  close-did : (m : Made close.ended close-reads.Learnt) →
      Did m.args.0.now (closing m.args.1.0 m.args.1.1.0 m.args.1.1.1.0 m.args.1.1.1.1.0.now)
      (shows (number_of m.result) (exit m).1.1.1.1.0.now) (exit m).0.now
  save-did : (m : Made save.ended save-reads.Learnt) →
      Did m.args.0.now (saving m.args.1.0 m.args.1.1.0.now)
      (shows (number_of m.result) (exit m).1.1.0.now) (exit m).0.now
  load-did : (m : Made load.ended load-reads.Learnt) →
      Did m.args.0.now (loading m.args.1.0 m.args.1.1.0.now) (shows (number_of m.result) []) (exit m).0.now
  ask-did : (m : Made ask.ended ask-reads.Learnt) →
      Did m.args.0.now (asking m.args.1.0)
      (shows_told (number_of m.result) (told_of m.result)) (exit m).0.now
  drop-did : (m : Made drop.ended drop-reads.Learnt) →
      Did m.args.0.now (dropping m.args.1.0) (shows (number_of m.result) []) (exit m).0.now
