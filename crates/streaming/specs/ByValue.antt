-- A stream that calls of `stream` have made: begun, and then with pieces added, some of them refused. `Learnt` is a function's own contract
-- as a caller learns it, made from the `ensures` in stream/src; `Made` is a call of which it holds.
use Rattle.std.specs.Prelude.{ℕ, ◌<◌, List, [], ◌++◌, ◌≡◌, Ok}
use Rattle.contracts.specs.Says.{Made}
use Rattle.answers.specs.Judged.{handed}
use Rattle.answers.specs.Numbers.{number_of}
use Rattle.stream.specs.declared.Stream.{Stream}
use Rattle.stream.specs.contracts.state.begin as begin
use Rattle.stream.proofs.state.begin.Reads as begin-reads
use Rattle.stream.specs.contracts.add.add as add
use Rattle.stream.proofs.add.add.Reads as add_reads

-- the bytes that were taken, and the stream
pub data Streamed : List ℕ → Stream → Type 0 where
  begun-by : (m : Made begin.ended begin-reads.Learnt) → Streamed [] m.result
  added-by : {bytes : List ℕ} {s : Stream} → Streamed bytes s → (m : Made add.ended add_reads.Learnt) → m.args.0 ≡ s →
      {t : Stream} → m.result ≡ Ok t → Streamed (bytes ++ m.args.1.0.now) t
  kept_by : {bytes : List ℕ} {s : Stream} → Streamed bytes s → (m : Made add.ended add_reads.Learnt) → m.args.0 ≡ s →
      0 < number_of m.result → Streamed bytes (handed m.args.0 m.result)
