-- Settled: two outcomes that a public function's own contract allows coincide: what is answered, and all that was lent to be written.
-- `Learnt` is that contract, made from src. SPEC, "How much each call says".
use Rattle.std.proofs.Common.{ℕ, List}
use Rattle.contracts.specs.Says.{Settles}
use Rattle.contracts.proofs.Values.{value-settled, both-settled}
use Rattle.lines.specs.contracts.text.append as append
use Rattle.lines.proofs.text.append.Reads as append-reads
use Rattle.lines.specs.contracts.line as line
use Rattle.lines.proofs.line.Reads as line_reads_lem
use Rattle.lines.specs.contracts.Why.words as words
use Rattle.lines.proofs.Why.words.Reads as words-reads
use Rattle.lines.specs.contracts.why_words as why-words
use Rattle.lines.proofs.why_words.Reads as why-words-reads
use Rattle.lines.specs.contracts.reason as reason
use Rattle.lines.proofs.reason.Reads as reason-reads
use Rattle.lines.specs.contracts.count as count
use Rattle.lines.proofs.count.Reads as count-reads
use Rattle.lines.specs.contracts.counts as counts
use Rattle.lines.proofs.counts.Reads as counts-reads
use Rattle.lines.specs.contracts.not_a_list as not-a-list
use Rattle.lines.proofs.not_a_list.Reads as not-a-list-reads
use Rattle.lines.specs.contracts.counted as counted
use Rattle.lines.proofs.counted.Reads as counted-reads

pub append-settled : Settles {A = ℕ × List ℕ} append.ended append-reads.Learnt (λ κs r x. (r, x.0.now))
append-settled κs a r s x y = both-settled

pub line-settled : Settles {A = ℕ × List ℕ} line.ended line_reads_lem.Learnt (λ κs r x. (r, x.1.1.1.0.now))
line-settled κs a r s x y = both-settled

pub words-settled : (v : List ℕ) → Settles words.ended (λ κs. words-reads.Learnt (v, κs)) (λ κs r x. r.now)
words-settled v κs a r s x y = value-settled

pub why-words-settled : Settles {A = ℕ × List ℕ} why-words.ended why-words-reads.Learnt (λ κs r x. (r, x.1.0.now))
why-words-settled κs a r s x y = both-settled

pub reason-settled : Settles {A = ℕ × List ℕ} reason.ended reason-reads.Learnt (λ κs r x. (r, x.1.1.1.0.now))
reason-settled κs a r s x y = both-settled

pub count-settled : Settles {A = ℕ × List ℕ} count.ended count-reads.Learnt (λ κs r x. (r, x.0.now))
count-settled κs a r s x y = both-settled

pub counts-settled : Settles {A = ℕ × List ℕ} counts.ended counts-reads.Learnt (λ κs r x. (r, x.1.0.now))
counts-settled κs a r s x y = both-settled

pub not-a-list-settled : Settles {A = ℕ × List ℕ} not-a-list.ended not-a-list-reads.Learnt (λ κs r x. (r, x.0.now))
not-a-list-settled κs a r s x y = both-settled

pub counted-settled : Settles counted.ended counted-reads.Learnt (λ κs r x. r)
counted-settled κs a r s x y = value-settled
