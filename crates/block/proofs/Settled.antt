-- Settled: two results that the contract of `absorb32` or of `absorb64` allows coincide. `Learnt` is that contract, made from src.
use Rattle.contracts.specs.Says.{Settles}
use Rattle.contracts.proofs.Values.{value-settled}
use Rattle.block.specs.contracts.absorb32 as absorb32
use Rattle.block.proofs.absorb32.Reads as absorb32-reads
use Rattle.block.specs.contracts.absorb64 as absorb64
use Rattle.block.proofs.absorb64.Reads as absorb64-reads

pub absorb32-settled : Settles absorb32.ended absorb32-reads.Learnt (λ κs r x. r)
absorb32-settled κs a r s x y = value-settled

pub absorb64-settled : Settles absorb64.ended absorb64-reads.Learnt (λ κs r x. r)
absorb64-settled κs a r s x y = value-settled
