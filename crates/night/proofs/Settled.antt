-- Settled: two outcomes that the night's own contract allows coincide, the answer and the three outputs. What is left of the tables and of
-- the record is not said. `Learnt` is that contract, made from src.
use Rattle.contracts.specs.Says.{Settles}
use Rattle.answers.specs.Numbers.{Answer}
use Rattle.answers.proofs.Outcome.{answer-settled}
use Rattle.night.specs.Night.{Digests, digests}
use Rattle.night.specs.contracts.night as night
use Rattle.night.proofs.night.Reads as night-reads

pub night-settled : Settles {A = Answer × Digests} night.ended night-reads.Learnt
    (λ κs r x.
    let out = x.1.1.1.1.1.1.1.1 in
    (r, digests out.0.now out.1.0.now out.1.1.0.now))
night-settled κs a r s x y j k = let o = answer-settled r s j k in λ i. (o.0 i, o.1 i)
