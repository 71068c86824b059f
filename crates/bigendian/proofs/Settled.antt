-- Settled: two results that a public function's own contract allows coincide: what is answered, or all that was lent to be written.
-- `Learnt` is that contract, made from src.
use Rattle.contracts.specs.Says.{Settles}
use Rattle.contracts.proofs.Values.{value-settled}
use Rattle.bigendian.specs.contracts.put as put
use Rattle.bigendian.proofs.put.Reads as put_reads
use Rattle.bigendian.specs.contracts.get as get
use Rattle.bigendian.proofs.get.Reads as get-reads
use Rattle.bigendian.specs.contracts.put_words as put-words
use Rattle.bigendian.proofs.put_words.Reads as put-words-reads
use Rattle.bigendian.specs.contracts.get_words as get-words
use Rattle.bigendian.proofs.get_words.Reads as get-words-reads
use Rattle.bigendian.specs.contracts.rows.put_row as put-row
use Rattle.bigendian.proofs.rows.put_row.Reads as put-row-reads
use Rattle.bigendian.specs.contracts.rows.field as field
use Rattle.bigendian.proofs.rows.field.Reads as field-reads

pub put-settled : Settles put.ended put_reads.Learnt (λ κs r x. x.0.now)
put-settled κs a r s x y = value-settled

pub get-settled : Settles get.ended get-reads.Learnt (λ κs r x. r)
get-settled κs a r s x y = value-settled

pub put-words-settled : Settles put-words.ended put-words-reads.Learnt (λ κs r x. x.0.now)
put-words-settled κs a r s x y = value-settled

pub get-words-settled : Settles get-words.ended get-words-reads.Learnt (λ κs r x. x.0.now)
get-words-settled κs a r s x y = value-settled

pub put-row-settled : Settles put-row.ended put-row-reads.Learnt (λ κs r x. x.0.now)
put-row-settled κs a r s x y = value-settled

pub field-settled : Settles field.ended field-reads.Learnt (λ κs r x. r)
field-settled κs a r s x y = value-settled
