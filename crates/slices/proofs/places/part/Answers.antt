-- `slices::places::part` meets its contract: it is cut where the bytes end, and a part of none is put at the beginning.
use mathlib.Core.List.{List, []}
use mathlib.Core.Path.{◌≡◌, refl, ap, ◌∙◌}
use Prim.Native.Nat.{ℕ, ◌+◌, ◌-◌, ◌<◌, min}
use native.Mathlib.Nat.{add-sub_cancel_left}
use native.Mathlib.Omega.{arith}
use lib.ListN.{length, take, drop, length-take, length-drop}
use Rattle.slices.proofs.LiesAt.{lies-there, lies-first}
use Rattle.slices.proofs.Parts.{take_within, drop-within}
use Rattle.slices.specs.Parts.{part}
use Rattle.slices.proofs.places.part.Goals as goal

module _ (bs : List ℕ) (at n start size : ℕ) (s : start ≡ min at (length bs)) (e : size ≡ min n (length bs - start)) where
  cut : take (start + size - start) (drop start bs) ≡ part bs at n
  cut =
      let from : drop start bs ≡ drop at bs = rw s (drop-within at bs) in
      rw (add-sub_cancel_left start size, e, ← length-drop start bs, take_within n (drop start bs), from)

  none : start ≡ start + size → [] ≡ part bs at n
  none z =
      let no : 0 ≡ start + size - start = omega arith in
      ap (λ (k : ℕ). take k (drop start bs)) no ∙ cut

  module _ (z : start ≡ start + size → ⊥) where
    there : start ≡ at
    there = omega arith

    some : 0 < length (take (start + size - start) (drop start bs))
    some = simp (length-take, length-drop) (omega arith)

pub returns-then-start-end : goal.returns-then-start-end
returns-then-start-end c = record {
  result_value = none _ _ _ _ _ c.least-start.ensures c.least.ensures c.if-start-end.true;
  lies_at =
      lies-first refl refl refl;
}

pub returns : goal.returns
returns c = let a = c.args in
    let start = c.least-start.ensures in
    let size = c.least.ensures in
    let z = c.if-start-end.false in
    record {
      result_value = cut _ _ _ _ _ start size;
      lies_at = lies-there refl _ refl (there a.s.now a.at a.n _ _ start size z)
          (some a.s.now a.at a.n _ _ start size z);
    }
