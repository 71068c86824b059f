-- Settled: two outcomes that a public function's own contract allows coincide: what is answered, and all that was lent to be written.
-- `Learnt` is that contract, made from src. SPEC, "How much each call says".
use Prim.Native.Nat.{ℕ}
use mathlib.Core.List.{List}
use Rattle.contracts.specs.Says.{Settles}
use Rattle.contracts.proofs.Values.{value-settled}
use Rattle.answers.specs.Numbers.{Answer}
use Rattle.answers.proofs.Outcome.{answer-both}
use Rattle.dwsha2.specs.contracts.hash.hash as hash
use Rattle.dwsha2.proofs.hash.hash.Reads as hash-reads
use Rattle.dwsha2.specs.contracts.hashing.absorb as absorb
use Rattle.dwsha2.proofs.hashing.absorb.Reads as absorb-reads
use Rattle.dwsha2.specs.contracts.finish.finish as finish
use Rattle.dwsha2.proofs.finish.finish.Reads as finish-reads
use Rattle.dwsha2.specs.contracts.hashing.write_digest as write-digest
use Rattle.dwsha2.proofs.hashing.write_digest.Reads as write-digest-reads
use Rattle.dwsha2.specs.contracts.closing.closing_fits as closing-fits
use Rattle.dwsha2.proofs.closing.closing_fits.Reads as closing-fits-reads
use Rattle.dwsha2.specs.contracts.closing.closing_byte as closing-byte
use Rattle.dwsha2.proofs.closing.closing_byte.Reads as closing-byte-reads
use Rattle.dwsha2.specs.contracts.closing.length_field as length-field
use Rattle.dwsha2.proofs.closing.length_field.Reads as length-field-reads
use Rattle.dwsha2.specs.contracts.limit.too_long as too_long
use Rattle.dwsha2.proofs.limit.too_long.Reads as too-long-reads
use Rattle.dwsha2.specs.contracts.starting.starting_words as starting-words
use Rattle.dwsha2.proofs.starting.starting_words.Reads as starting-words-reads

pub hash-settled : Settles {A = Answer × List ℕ} hash.ended hash-reads.Learnt (λ κs r x. (r, x.1.1.1.1.0.now))
hash-settled κs a r s x y = answer-both

pub absorb-settled : Settles absorb.ended absorb-reads.Learnt (λ κs r x. r)
absorb-settled κs a r s x y = value-settled

pub finish-settled : Settles finish.ended finish-reads.Learnt (λ κs r x. r)
finish-settled κs a r s x y = value-settled

pub write-digest-settled : Settles write-digest.ended write-digest-reads.Learnt (λ κs r x. x.1.1.0.now)
write-digest-settled κs a r s x y = value-settled

pub closing-fits-settled : Settles closing-fits.ended closing-fits-reads.Learnt (λ κs r x. r)
closing-fits-settled κs a r s x y = value-settled

pub closing-byte-settled : Settles closing-byte.ended closing-byte-reads.Learnt (λ κs r x. r)
closing-byte-settled κs a r s x y = value-settled

pub length-field-settled : Settles length-field.ended length-field-reads.Learnt (λ κs r x. r)
length-field-settled κs a r s x y = value-settled

pub too-long-settled : Settles too_long.ended too-long-reads.Learnt (λ κs r x. r)
too-long-settled κs a r s x y = value-settled

pub starting-words-settled : Settles starting-words.ended starting-words-reads.Learnt (λ κs r x. r)
starting-words-settled κs a r s x y = value-settled
