-- Words in which calls under C names have made a keyed hash: started with a key, and then with pieces added, some of them refused. `Learnt`
-- is made from the `ensures` in capi/src/lib.rt.
use Rattle.std.specs.Prelude.{ℕ, ◌<◌, List, [], ◌++◌, ◌≡◌}
use Rattle.contracts.specs.Says.{Made, exit}
use Rattle.capi.specs.contracts.dw_keyed_start as start
use Rattle.capi.proofs.dw_keyed_start.Reads as start-reads
use Rattle.capi.specs.contracts.dw_keyed_add as add
use Rattle.capi.proofs.dw_keyed_add.Reads as add_reads

-- the edition and the key, the bytes that were taken, and the words
pub data Lent : ℕ → List ℕ → List ℕ → List ℕ → Type 0 where
  started-in : (m : Made start.ended start-reads.Learnt) → m.result ≡ 0 →
      Lent m.args.1.0 m.args.1.1.0.now [] (exit m).0.now
  added-in : {e : ℕ} {key bytes ws : List ℕ} → Lent e key bytes ws → (m : Made add.ended add_reads.Learnt) → m.args.0.now ≡ ws →
      m.result ≡ 0 → Lent e key (bytes ++ m.args.1.0.now) (exit m).0.now
  kept_in : {e : ℕ} {key bytes ws : List ℕ} → Lent e key bytes ws → (m : Made add.ended add_reads.Learnt) → m.args.0.now ≡ ws →
      0 < m.result → Lent e key bytes (exit m).0.now
