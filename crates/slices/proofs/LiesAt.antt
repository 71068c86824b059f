-- Where a part that is handed back lies: a part with some bytes at its place, `lies-there`, one with none at the beginning, `lies-first`.
-- Two parts that one statement allows are the same bytes at the same place: `lies-settled`.
use mathlib.Core.List.{List, [], ◌∷◌}
use mathlib.Core.Path.{◌≡◌, refl, sym, ap, subst, ◌∙◌}
use Prim.Native.Nat.{ℕ, ◌+◌, ◌<◌}
use native.Mathlib.Nat.{add-zero, add_comm}
use native.Mathlib.Omega.{arith}
use denote.Ref.{Bor}
use lib.ListN.{length}
use Rattle.slices.specs.Parts.{begins, LiesAt}

begins-there : (l : List ℕ) (at : ℕ) → 0 < length l → begins l at ≡ at
begins-there [] at h = absurd (omega arith)
begins-there (x ∷ l) at h = refl

module _ {r s : Bor (List ℕ)} {at : ℕ} (same : r.ref_ptr.0 ≡ s.ref_ptr.0) where
  -- the borrow checker has the offset of a part as the place and then the offset of the whole
  pub lies-there : (start : ℕ) → r.ref_ptr.1 ≡ start + s.ref_ptr.1 → start ≡ at → 0 < length r.now → LiesAt r s at
  lies-there start e p h = record {
    block = same;
    offset = e ∙ add_comm start s.ref_ptr.1 ∙ ap (λ (k : ℕ). s.ref_ptr.1 + k) (p ∙ sym (begins-there r.now at h));
  }

  pub lies-first : r.ref_ptr.1 ≡ s.ref_ptr.1 → r.now ≡ [] → LiesAt r s at
  lies-first e n = record {
    block = same;
    offset = e ∙ sym (add-zero s.ref_ptr.1) ∙ ap (λ (l : List ℕ). s.ref_ptr.1 + begins l at) (sym n);
  }

-- the place by another name
pub lies-also : {r s : Bor (List ℕ)} {at place : ℕ} → at ≡ place → LiesAt r s at → LiesAt r s place
lies-also {r = r} {s = s} e l = subst (LiesAt r s) e l

pub lies-settled : {r t s : Bor (List ℕ)} {at : ℕ} {bs : List ℕ} → (r.now ≡ bs) × LiesAt r s at → (t.now ≡ bs) × LiesAt t s at →
    ◌≡◌ {A = List ℕ × (ℕ × ℕ)} (r.now, r.ref_ptr) (t.now, t.ref_ptr)
lies-settled {s = s} {at = at} p q =
    let bytes = p.0 ∙ sym q.0 in
    let block = p.1.block ∙ sym q.1.block in
    let offset = p.1.offset ∙ ap (λ (l : List ℕ). s.ref_ptr.1 + begins l at) bytes ∙ sym q.1.offset in
    λ i. (bytes i, (block i, offset i))
