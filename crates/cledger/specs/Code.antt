-- The C names that were called: `Did` holds of a call by the function's own contract and nothing else, as in ledger/specs/Code.antt.
-- SPEC, "C names".
use Rattle.std.specs.Prelude.{ℕ, List, []}
use Rattle.contracts.specs.Says.{Made, exit}
use Rattle.calls.specs.Calls.{Call, lay_out, opening, adding, closing, saving, loading, asking, dropping, Seen, told}
use Rattle.capi.specs.contracts.dw_lay_out as lay-out
use Rattle.capi.proofs.dw_lay_out.Reads as lay-out-reads
use Rattle.capi.specs.contracts.dw_open as opn
use Rattle.capi.proofs.dw_open.Reads as open-reads
use Rattle.capi.specs.contracts.dw_add as add
use Rattle.capi.proofs.dw_add.Reads as add_reads
use Rattle.capi.specs.contracts.dw_close as close
use Rattle.capi.proofs.dw_close.Reads as close-reads
use Rattle.capi.specs.contracts.dw_save as save
use Rattle.capi.proofs.dw_save.Reads as save-reads
use Rattle.capi.specs.contracts.dw_load as load
use Rattle.capi.proofs.dw_load.Reads as load-reads
use Rattle.capi.specs.contracts.dw_ask as ask
use Rattle.capi.proofs.dw_ask.Reads as ask-reads
use Rattle.capi.specs.contracts.dw_drop as drop
use Rattle.capi.proofs.dw_drop.Reads as drop-reads
use Rattle.ledger.specs.Traces.{shows, shows_told}

pub data Did : List ℕ → Call → Seen → List ℕ → Type 0 where
  lay-out-did : (m : Made lay-out.ended lay-out-reads.Learnt) →
      Did m.args.0.now (lay_out m.args.1.0) (shows m.result []) (exit m).0.now
  open-did : (m : Made opn.ended open-reads.Learnt) →
      Did m.args.0.now (opening m.args.1.0 m.args.1.1.0) (shows m.result []) (exit m).0.now
  add-did : (m : Made add.ended add_reads.Learnt) →
      Did m.args.0.now (adding m.args.1.0 m.args.1.1.0.now) (shows m.result []) (exit m).0.now
  close-did : (m : Made close.ended close-reads.Learnt) →
      Did m.args.0.now (closing m.args.1.0 m.args.1.1.0 m.args.1.1.1.0 m.args.1.1.1.1.0.now)
      (shows m.result (exit m).1.1.1.1.0.now) (exit m).0.now
  save-did : (m : Made save.ended save-reads.Learnt) →
      Did m.args.0.now (saving m.args.1.0 m.args.1.1.0.now)
      (shows m.result (exit m).1.1.0.now) (exit m).0.now
  load-did : (m : Made load.ended load-reads.Learnt) →
      Did m.args.0.now (loading m.args.1.0 m.args.1.1.0.now) (shows m.result []) (exit m).0.now
  ask-did : (m : Made ask.ended ask-reads.Learnt) →
      Did m.args.0.now (asking m.args.1.0)
      (shows_told m.result (told (exit m).1.1.0.now (exit m).1.1.1.0.now)) (exit m).0.now
  drop-did : (m : Made drop.ended drop-reads.Learnt) →
      Did m.args.0.now (dropping m.args.1.0) (shows m.result []) (exit m).0.now
