-- Starts and puts that were made, by the functions' own contracts and nothing else: `Began` and `Did`, each for a call of `writer` and for
-- one under its C name. `Learnt` is that contract as a caller learns it, made from the `ensures` in src; `Made` is a call of which it
-- holds.
use Rattle.std.specs.Prelude.{ℕ, List, [], ◌∷◌}
use Rattle.contracts.specs.Says.{Made, exit}
use Rattle.answers.specs.Numbers.{number_of}
use Rattle.writer.specs.contracts.start as start
use Rattle.writer.proofs.start.Reads as start-reads
use Rattle.writer.specs.contracts.put as put
use Rattle.writer.proofs.put.Reads as put_reads
use Rattle.capi.specs.contracts.dw_list_start as dw-list-start
use Rattle.capi.proofs.dw_list_start.Reads as dw-list-start-reads
use Rattle.capi.specs.contracts.dw_list_put as dw-list-put
use Rattle.capi.proofs.dw_list_put.Reads as dw-list-put-reads
use Rattle.written.specs.Written.{Put}

-- a start of a list: the edition, the buffer, the number of its answer, and the buffer that it left
pub data Began : ℕ → List ℕ → ℕ → List ℕ → Type 0 where
  start-made : (m : Made start.ended start-reads.Learnt) →
      Began m.args.0 m.args.1.0.now (number_of m.result) (exit m).1.0.now
  c-start-made : (m : Made dw-list-start.ended dw-list-start-reads.Learnt) →
      Began m.args.0 m.args.1.0.now m.result (exit m).1.0.now

pub data Did : Put → Type 0 where
  put-made : (m : Made put.ended put_reads.Learnt) →
      Did
      (record {
        buffer = m.args.0.now;
        name = m.args.1.0.now;
        digest = m.args.1.1.0.now;
        answer = number_of m.result;
        left = (exit m).0.now;
      })
  c-put-made : (m : Made dw-list-put.ended dw-list-put-reads.Learnt) →
      Did
      (record {
        buffer = m.args.0.now;
        name = m.args.1.0.now;
        digest = m.args.1.1.0.now;
        answer = m.result;
        left = (exit m).0.now;
      })

abbrev pub AllDid : List Put → Type 0
AllDid [] = Unit {0}
AllDid (m ∷ ms) = Did m × AllDid ms
