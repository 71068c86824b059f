-- `saved-loaded`: what save wrote of a bay, loaded into any bay of any table, is that bay again, word for word; `saved-taken`: and no load
-- refuses it as no record. It is said of calls that were made, by the functions' own contracts.
use Prim.Native.Nat.{ℕ, ◌^◌, ◌≤◌}
use mathlib.Core.Bool.{Bool, true, false, not, cond}
use mathlib.Core.List.{List}
use mathlib.Core.Path.{◌≡◌, sym, ap, ◌∙◌}
use native.Mathlib.Omega.{arith}
use lib.Dec.{leb}
use lib.ListN.{length, take, drop}
use lib.Seq.{take-append_seam}
use borrow.Author.Tests.{not-false, leb-false, ltb-false}
use Rattle.contracts.specs.Says.{Made, exit}
use Rattle.std.specs.Prelude.{Ok}
use Rattle.answers.specs.Judged.{Lent, first}
use Rattle.answers.specs.Numbers.{number_of}
use Rattle.answers.proofs.Refusals.{done_first, done-leaves}
use Rattle.answers.proofs.Tests.{passed}
use Rattle.slices.specs.AtFront.{at_front}
use Rattle.slices.specs.Below.{Below}
use Rattle.slices.proofs.AtFront.{at_front-room}
use Rattle.halfread.specs.State.{sound, Shaped}
use Rattle.records.specs.Record.{record_of, record_length, loaded, is_record}
use Rattle.records.proofs.Records.{length-record_of, saved-loads}
use Rattle.bays.specs.Places.{bay_words}
use Rattle.bays.specs.Table.{bays_of, headed, bay_at, put_bay}
use Rattle.bays.specs.Bay.{half_of, bay_of, is_empty, sound_bay}
use Rattle.bays.specs.Gate.{half_at}
use Rattle.bays.proofs.Frames.{bay-inside, length-bay_at, below-bay_at, bay_at-put_bay}
use Rattle.bays.proofs.Packing.{bay_of-half_of, shaped-half_of, sound_bay-taken}
use Rattle.calls.specs.Calls.{saving, loading, tests, leaves}
use Rattle.calls.specs.contracts.save as save
use Rattle.calls.proofs.save.Reads as save-reads
use Rattle.calls.specs.contracts.load as load
use Rattle.calls.proofs.load.Reads as load-reads

-- what a save that is done was lent, and what it wrote
record Saved (t : List ℕ) (i : ℕ) (out : List ℕ) : Type 0 where
  back : bay_of (loaded (record_of (half_at t i))) ≡ bay_at t i
  long : length (bay_of (loaded (record_of (half_at t i)))) ≡ bay_words
  is_one : is_record (record_of (half_at t i)) ≡ true
  front : take (record_length (half_at t i)) (at_front (record_of (half_at t i)) out) ≡ record_of (half_at t i)

module _ (t : List ℕ) (i : ℕ) (out : List ℕ) (words : Below (2 ^ 64) t) (z : first (tests t (saving i out)) ≡ 0) where
  saved : Saved t i out
  unfolding tests
  saved =
      let at = passed (tests t (saving i out)) tt z in
      let b : List ℕ = bay_at t i in
      let h = half_of b in
      let fits = length-bay_at t i (bay-inside t i (not-false (headed t) (at 0)) (leb-false (bays_of t) i (at 1))) in
      let small = below-bay_at t i words in
      let shaped : Shaped h = shaped-half_of b fits small in
      let ok : sound h ≡ true = sym (sound_bay-taken b (at 3)) ∙ not-false _ (at 2) in
      let same = ap bay_of (saved-loads h ok shaped).0 ∙ bay_of-half_of b fits small in
      let size = length-record_of h shaped in
      let room : length (record_of h) ≤ length out = omega (arith, size, ltb-false (length out) (record_length h) (at 4)) in
      record {
        back = same;
        long = ap length same ∙ fits;
        is_one = (saved-loads h ok shaped).1;
        front =
            ap (λ (k : ℕ). take k (at_front (record_of h) out)) (sym size)
            ∙ ap (take (length (record_of h))) (at_front-room (record_of h) out room)
            ∙ take-append_seam (record_of h) (drop (length (record_of h)) out);
      }

-- what was saved of a bay: the front of the output, as long as its record is
abbrev saved_of : Made save.ended save-reads.Learnt → List ℕ
saved_of s = take (record_length (half_at s.args.0.now s.args.1.0)) (exit s).1.1.0.now

kept : (s : Made save.ended save-reads.Learnt) → s.result ≡ Ok tt → Saved s.args.0.now s.args.1.0 s.args.1.1.0.now
kept s d = saved s.args.0.now s.args.1.0 s.args.1.1.0.now s.learnt.1.0 (done_first s.learnt.0 d)

saved-record : (s : Made save.ended save-reads.Learnt) → s.result ≡ Ok tt →
    saved_of s ≡ record_of (half_at s.args.0.now s.args.1.0)
unfolding leaves
saved-record s d =
    ap (take (record_length (half_at s.args.0.now s.args.1.0))) (ap (λ (x : Lent). x.output) (done-leaves s.learnt.0 d))
    ∙ (kept s d).front

pub saved-loaded : (s : Made save.ended save-reads.Learnt) → s.result ≡ Ok tt →
    (l : Made load.ended load-reads.Learnt) → l.result ≡ Ok tt → l.args.1.1.0.now ≡ saved_of s →
    bay_at (exit l).0.now l.args.1.0 ≡ bay_at s.args.0.now s.args.1.0
unfolding tests leaves
saved-loaded s ds l dl same =
    let u = l.args.0.now in
    let j = l.args.1.0 in
    let there = bay_of (loaded (record_of (half_at s.args.0.now s.args.1.0))) in
    let at = passed (tests u (loading j l.args.1.1.0.now)) tt (done_first l.learnt.0 dl) in
    let inside = bay-inside u j (not-false (headed u) (at 0)) (leb-false (bays_of u) j (at 1)) in
    let left = ap (λ (x : Lent). x.table) (done-leaves l.learnt.0 dl) in
    ap (λ (x : List ℕ). bay_at x j) (left ∙ ap (λ (x : List ℕ). put_bay u j (bay_of (loaded x))) (same ∙ saved-record s ds))
    ∙ bay_at-put_bay u j there (kept s ds).long inside
    ∙ (kept s ds).back

-- and it is never refused as no record, 10
pub saved-taken : (s : Made save.ended save-reads.Learnt) → s.result ≡ Ok tt →
    (l : Made load.ended load-reads.Learnt) → l.args.1.1.0.now ≡ saved_of s → number_of l.result ≡ 10 → ⊥
unfolding tests first
saved-taken s ds l same ten =
    let u = l.args.0.now in
    let j = l.args.1.0 in
    let ok : is_record l.args.1.1.0.now ≡ true = ap is_record (same ∙ saved-record s ds) ∙ (kept s ds).is_one in
    go (headed u) (leb (bays_of u) j) (sound_bay (bay_at u j)) (is_empty (bay_at u j)) (rw ok at (sym l.learnt.0.answer ∙ ten))
  where
    go : (a b c d : Bool) → ◌≡◌ {A = ℕ} (cond (not a) 1 (cond b 2 (cond (not c) 6 (cond (not d) 3 0)))) 10 → ⊥
    go false b c d e = omega arith
    go true true c d e = omega arith
    go true false false d e = omega arith
    go true false true false e = omega arith
    go true false true true e = omega arith
