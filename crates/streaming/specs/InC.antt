-- Words in which calls under C names have made a stream: begun, and then with pieces added, some of them refused. `Learnt` is made from the
-- `ensures` in capi/src/lib.rt.
use Rattle.std.specs.Prelude.{ℕ, ◌<◌, List, [], ◌++◌, ◌≡◌}
use Rattle.contracts.specs.Says.{Made, exit}
use Rattle.capi.specs.contracts.dw_stream_begin as begin
use Rattle.capi.proofs.dw_stream_begin.Reads as begin-reads
use Rattle.capi.specs.contracts.dw_stream_add as add
use Rattle.capi.proofs.dw_stream_add.Reads as add_reads

-- the bytes that were taken, and the words
pub data Lent : List ℕ → List ℕ → Type 0 where
  begun-in : (m : Made begin.ended begin-reads.Learnt) → m.result ≡ 0 → Lent [] (exit m).0.now
  added-in : {bytes ws : List ℕ} → Lent bytes ws → (m : Made add.ended add_reads.Learnt) → m.args.0.now ≡ ws → m.result ≡ 0 →
      Lent (bytes ++ m.args.1.0.now) (exit m).0.now
  kept_in : {bytes ws : List ℕ} → Lent bytes ws → (m : Made add.ended add_reads.Learnt) → m.args.0.now ≡ ws → 0 < m.result →
      Lent bytes (exit m).0.now
