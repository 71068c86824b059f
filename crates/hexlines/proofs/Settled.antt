-- Settled: two outcomes that a public function's own contract allows coincide: what is answered, and all that was lent to be written.
-- `Learnt` is that contract, made from src.
use Prim.Native.Nat.{ℕ}
use mathlib.Core.List.{List, ◌++◌}
use mathlib.Core.Path.{◌≡◌, sym, ap, ◌∙◌}
use lib.ListN.{drop}
use Rattle.std.specs.Option.{unwrap_or}
use Rattle.std.proofs.Common.{Option}
use Rattle.contracts.specs.Says.{Settles}
use Rattle.contracts.proofs.Values.{value-settled}
use Rattle.slices.proofs.LiesAt.{lies-settled}
use Rattle.hexlines.specs.Digits.{bytes_of}
use Rattle.hexlines.specs.contracts.find as find
use Rattle.hexlines.proofs.find.Reads as find-reads
use Rattle.hexlines.specs.contracts.first_field as first_field
use Rattle.hexlines.proofs.first_field.Reads as first-field-reads
use Rattle.hexlines.specs.contracts.other_fields as other-fields
use Rattle.hexlines.proofs.other_fields.Reads as other-fields-reads
use Rattle.hexlines.specs.contracts.digit as digit
use Rattle.hexlines.proofs.digit.Reads as digit-reads
use Rattle.hexlines.specs.contracts.is_hex as is-hex
use Rattle.hexlines.proofs.is_hex.Reads as is-hex-reads
use Rattle.hexlines.specs.contracts.unhex as unhex
use Rattle.hexlines.proofs.unhex.Reads as unhex-reads
use Rattle.hexlines.specs.contracts.unhex_all as unhex-all
use Rattle.hexlines.proofs.unhex_all.Reads as unhex-all-reads
use Rattle.hexlines.specs.contracts.decimal as decimal
use Rattle.hexlines.proofs.decimal.Reads as decimal-reads
use Rattle.hexlines.specs.declared.Tally.{Tally}
use Rattle.hexlines.specs.contracts.Tally.count as count
use Rattle.hexlines.proofs.Tally.count.Reads as count-reads

-- of what says a number of bytes, and an output that is said by it
unhexed-settled : {A : Type 0} (number : A → ℕ) (text d : List ℕ) {x r s : A} {l m : List ℕ} →
    (r ≡ x) × (l ≡ bytes_of text (number r) ++ drop (number r) d) → (s ≡ x) × (m ≡ bytes_of text (number s) ++ drop (number s) d) →
    ◌≡◌ {A = A × List ℕ} (r, l) (s, m)
unhexed-settled number text d p q =
    let e = value-settled p.0 q.0 in
    λ i. (e i, (p.1 ∙ ap (λ a. bytes_of text (number a) ++ drop (number a) d) e ∙ sym q.1) i)

pub find-settled : Settles find.ended find-reads.Learnt (λ κs r x. r)
find-settled κs a r s x y p q = value-settled p.0 q.0

-- the bytes, and where they lie
pub first-field-settled : Settles {A = List ℕ × (ℕ × ℕ)} first_field.ended first-field-reads.Learnt (λ κs r x. (r.now, r.ref_ptr))
first-field-settled κs a r s x y = lies-settled

pub other-fields-settled : Settles {A = List ℕ × (ℕ × ℕ)} other-fields.ended other-fields-reads.Learnt (λ κs r x. (r.now, r.ref_ptr))
other-fields-settled κs a r s x y = lies-settled

pub digit-settled : Settles digit.ended digit-reads.Learnt (λ κs r x. r)
digit-settled κs a r s x y = value-settled

pub is-hex-settled : Settles is-hex.ended is-hex-reads.Learnt (λ κs r x. r)
is-hex-settled κs a r s x y = value-settled

pub unhex-settled : Settles {A = ℕ × List ℕ} unhex.ended unhex-reads.Learnt (λ κs r x. (r, x.1.0.now))
unhex-settled κs a r s x y = unhexed-settled (λ n. n) a.0.now a.1.0.now

pub unhex-all-settled : Settles {A = Option ℕ × List ℕ} unhex-all.ended unhex-all-reads.Learnt (λ κs r x. (r, x.1.0.now))
unhex-all-settled κs a r s x y = unhexed-settled (λ o. unwrap_or o 0) a.0.now a.1.0.now

pub decimal-settled : Settles decimal.ended decimal-reads.Learnt (λ κs r x. r)
decimal-settled κs a r s x y = value-settled

pub count-settled : Settles {A = Tally} count.ended count-reads.Learnt (λ κs r x. x.0.now)
count-settled κs a r s x y = value-settled
