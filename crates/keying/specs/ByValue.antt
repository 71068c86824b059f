-- A keyed hash that calls of `keyed` have made: started with a key, and then with pieces added, some of them refused. `Learnt` is a
-- function's own contract as a caller learns it, made from the `ensures` in keyed/src; `Made` is a call of which it holds.
use Rattle.std.specs.Prelude.{ℕ, ◌<◌, List, [], ◌++◌, ◌≡◌, Ok}
use Rattle.contracts.specs.Says.{Made}
use Rattle.answers.specs.Judged.{handed}
use Rattle.answers.specs.Numbers.{number_of}
use Rattle.keyed.specs.declared.Keyed.{Keyed}
use Rattle.keyed.specs.contracts.state.start as start
use Rattle.keyed.proofs.state.start.Reads as start-reads
use Rattle.keyed.specs.contracts.add.add as add
use Rattle.keyed.proofs.add.add.Reads as add_reads

-- the edition and the key that it was started with, the bytes that were taken, and the keyed hash
pub data Taken : ℕ → List ℕ → List ℕ → Keyed → Type 0 where
  started-by : {k : Keyed} → (m : Made start.ended start-reads.Learnt) → m.result ≡ Ok k → Taken m.args.0 m.args.1.0.now [] k
  added-by : {e : ℕ} {key bytes : List ℕ} {k next : Keyed} → Taken e key bytes k → (m : Made add.ended add_reads.Learnt) → m.args.0 ≡ k →
      m.result ≡ Ok next → Taken e key (bytes ++ m.args.1.0.now) next
  kept_by : {e : ℕ} {key bytes : List ℕ} {k : Keyed} → Taken e key bytes k → (m : Made add.ended add_reads.Learnt) → m.args.0 ≡ k →
      0 < number_of m.result → Taken e key bytes (handed m.args.0 m.result)
