-- `add_nothing`: an add of no bytes changes no word of the table, refused or done. It is said of the function's own contract.
use Prim.Native.Nat.{ℕ, zero, suc, ◌^◌}
use mathlib.Core.Bool.{true}
use mathlib.Core.List.{List, []}
use mathlib.Core.Path.{◌≡◌, refl, sym, ap, subst, ◌∙◌}
use denote.Triple.Clauses.{AtExit}
use denote.Triple.Entry.{Args, Res}
use contract.Lifetimes.{Lfts}
use borrow.Author.Tests.{not-false, leb-false}
use Rattle.answers.specs.Judged.{Lent, lent, first, after}
use Rattle.answers.specs.Numbers.{number_of}
use Rattle.answers.proofs.Tests.{passed}
use Rattle.slices.specs.Below.{Below}
use Rattle.halfread.specs.declared.HalfRead.{HalfRead}
use Rattle.halfread.specs.State.{sound}
use Rattle.halfread.specs.Steps.{added}
use Rattle.halfread.proofs.Adding.{added_none}
use Rattle.bays.specs.Table.{bays_of, headed, bay_at, put_bay}
use Rattle.bays.specs.Bay.{half_of, bay_of}
use Rattle.bays.specs.Gate.{half_at}
use Rattle.bays.proofs.Frames.{bay-inside, length-bay_at, below-bay_at, put_bay-same}
use Rattle.bays.proofs.Packing.{bay_of-half_of, shaped-half_of, sound_bay-taken}
use Rattle.calls.specs.Calls.{adding, tests, leaves, Outcome}
use Rattle.calls.specs.contracts.add as add
use Rattle.calls.proofs.add.Reads as add_reads

module _ (t : List ℕ) (i : ℕ) (words : Below (2 ^ 64) t) where
  -- done, the bay is put back as it was
  back : first (tests t (adding i [])) ≡ 0 → put_bay t i (bay_of (added (half_at t i) [])) ≡ t
  unfolding tests
  back z =
      let at = passed (tests t (adding i [])) tt z in
      let b : List ℕ = bay_at t i in
      let header = not-false (headed t) (at 0) in
      let fits = length-bay_at t i (bay-inside t i header (leb-false (bays_of t) i (at 1))) in
      let small = below-bay_at t i words in
      let ok : sound (half_of b) ≡ true = sym (sound_bay-taken b (at 3)) ∙ not-false _ (at 2) in
      ap (λ (h : HalfRead). put_bay t i (bay_of h)) (added_none (half_of b) (shaped-half_of b fits small) ok)
      ∙ ap (put_bay t i) (bay_of-half_of b fits small)
      ∙ put_bay-same t i

  kept : {n : ℕ} {left : List ℕ} → Outcome t (adding i []) n left [] → left ≡ t
  unfolding leaves
  kept {n} {left} j = ap (λ (x : Lent). x.table) j.leaves ∙ go (first (tests t (adding i []))) back
    where
      go : (k : ℕ) → (k ≡ 0 → put_bay t i (bay_of (added (half_at t i) [])) ≡ t) →
          (after k (lent t []) (lent (put_bay t i (bay_of (added (half_at t i) []))) [])).table ≡ t
      go zero d = d refl
      go (suc k) d = refl

pub add_nothing : (κs : Lfts 2) (a : Args add.signature κs) (r : Res add.signature κs) (x : AtExit add.ended κs) →
    add_reads.Learnt κs a r x → a.1.1.0.now ≡ [] → x.0.now ≡ a.0.now
add_nothing κs a r x (j, l) none =
    kept a.0.now a.1.0 l.0
    (subst (λ (p : List ℕ). Outcome a.0.now (adding a.1.0 p) (number_of r) x.0.now []) none j)
