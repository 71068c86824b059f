-- The record that is saved, by the numbers of SPEC, "The saved record" and "Limits". `record-rules`: bytes are a record exactly where they
-- keep the rules; `load-rules`: and then they load. `record-places`, `tail-places` and `record-sizes`: where the fields stand.
-- `record-longest`: a record has up to 119 or 215 bytes.
use Prim.Native.Nat.{ℕ, ◌^◌, ◌<◌}
use mathlib.Core.Bool.{true}
use mathlib.Core.List.{List}
use mathlib.Core.Path.{◌≡◌, refl, ap, subst}
use native.Mathlib.Omega.{arith}
use borrow.Author.Tests.{not-false}
use Rattle.contracts.specs.Says.{Made}
use Rattle.std.specs.Prelude.{Result, Ok}
use Rattle.answers.specs.declared.Refusal.{Refusal}
use Rattle.answers.specs.Judged.{Judged, first, handed}
use Rattle.answers.specs.Numbers.{number_of}
use Rattle.answers.proofs.Outcome.{done, handed-settled}
use Rattle.answers.proofs.Refusals.{done_first}
use Rattle.answers.proofs.Tests.{passed}
use Rattle.slices.specs.Below.{Bytes}
use Rattle.fips.specs.Words.{Width, w32, w64}
use Rattle.fips.specs.Editions.{known, width}
use Rattle.fips.proofs.Sizes.{bytes-within}
use Rattle.halfread.specs.State.{blank}
use Rattle.halfread.specs.declared.HalfRead.{HalfRead}
use Rattle.records.specs.Record.{newest, word_count, number_bytes, edition_at, word_count_at, words_field_at, tail_field_at, count_at}
use Rattle.records.specs.Record.{tail_length_at, whole_length_at, zeros_at, words_at, tail_at, loaded, is_record, load_tests}
use Rattle.records.specs.Rules.{Rules, Lengths, longest_of}
use Rattle.records.specs.contracts.load as load
use Rattle.records.proofs.load.Reads as load-reads
use Rattle.records.proofs.ByRules.{form-record-keeps, form-keeps-record, form-record-rules, form-lengths}

-- the longest record can say how long it is
newest-fits : (e : ℕ) → longest_of newest e < 256 ^ number_bytes
newest-fits e = omega (arith, bytes-within e)

pub record-rules : (bytes : List ℕ) → Bytes bytes →
    (is_record bytes ≡ true → Rules newest bytes) × (Rules newest bytes → is_record bytes ≡ true)
record-rules bytes all = form-record-rules newest newest-fits bytes all

-- so, by the contract of the code, a load is done exactly where they are kept
loads : (s : List ℕ) (r : Result HalfRead Refusal) → Judged (load_tests s) blank (loaded s) (number_of r) (handed blank r) →
    ((h : HalfRead) → r ≡ Ok h → is_record s ≡ true) × (is_record s ≡ true → r ≡ Ok (loaded s))
unfolding load_tests first
loads s r j = (
  λ h d. not-false (is_record s) (passed (load_tests s) tt (done_first j d) 0),
  λ e. handed-settled r (Ok (loaded s)) j (done (rw e) refl),
)

pub load-rules : (m : Made load.ended load-reads.Learnt) →
    ((h : HalfRead) → m.result ≡ Ok h → Rules newest m.args.0.now)
    × (Bytes m.args.0.now → Rules newest m.args.0.now → m.result ≡ Ok (loaded m.args.0.now))
load-rules m =
    let s = m.args.0.now in
    let done = loads s m.result m.learnt in
    (λ h d. form-record-keeps newest newest-fits s (done.0 h d), λ all r. done.1 (form-keeps-record newest s all r))

-- the first column of SPEC's table: edition, count of words, words at, tail at, count, tail length, whole length, spare, words
pub record-places : (edition_at ≡ 0) × (word_count_at ≡ 2) × (words_field_at ≡ 4) × (tail_field_at ≡ 6) × (count_at ≡ 8)
    × (tail_length_at newest ≡ 16) × (whole_length_at newest ≡ 18) × (zeros_at newest ≡ 20) × (words_at newest ≡ 24)
record-places = (refl, refl, refl, refl, refl, refl, refl, refl, refl)

-- the column beside it: the bytes of a number, of the count and of the spare; and how many words there are
pub record-sizes : (number_bytes ≡ 2) × (newest.count_bytes ≡ 8) × (newest.zero_bytes ≡ 4) × (word_count ≡ 8)
record-sizes = (refl, refl, refl, refl)

pub tail-places : (e : ℕ) → (width e ≡ w32 → tail_at newest e ≡ 56) × (width e ≡ w64 → tail_at newest e ≡ 88)
tail-places e =
    let bytes : Width → ℕ = λ w. w.bytes in
    (λ p. omega (arith, ap bytes p), λ p. omega (arith, ap bytes p))

pub record-longest : (e : ℕ) → known e ≡ true →
    (width e ≡ w32 → Lengths newest e (tail_at newest e) 119) × (width e ≡ w64 → Lengths newest e (tail_at newest e) 215)
record-longest e is_e =
    let bytes : Width → ℕ = λ w. w.bytes in
    let all = form-lengths newest (omega arith) e is_e in
    let to : (n : ℕ) → longest_of newest e ≡ n → Lengths newest e (tail_at newest e) n =
    λ n p. subst (λ (k : ℕ). Lengths newest e (tail_at newest e) k) p all in
    (λ p. to 119 (omega (arith, ap bytes p)), λ p. to 215 (omega (arith, ap bytes p)))
