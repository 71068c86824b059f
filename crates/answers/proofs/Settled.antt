-- Settled: two results that a public function's own contract allows coincide. `Learnt` is that contract, made from src.
use Rattle.contracts.specs.Says.{Settles}
use Rattle.contracts.proofs.Values.{value-settled}
use Rattle.answers.specs.contracts.number as number
use Rattle.answers.proofs.number.Reads as number-reads

pub number-settled : Settles number.ended number-reads.Learnt (λ κs r x. r)
number-settled κs a r s x y = value-settled
