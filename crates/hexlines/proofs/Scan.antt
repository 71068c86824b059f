-- What the library's search answers, in the words of the crate: `found`.
use Rattle.std.proofs.Common.{arith, ◌≡◌, refl, sym, ap, ◌∙◌, ℕ, ◌≤◌, eqb, ltb, List, [], ◌∷◌, Option, None, Some, unwrap_or, cond, length}
use Rattle.std.proofs.Common.{take}
use Rattle.std.proofs.lemmas.Grind.{common_steps}
use Rattle.std.proofs.lemmas.List.{length-take-le}
use Rattle.std.proofs.lemmas.List.Recursion.{is_position_or_len}
use Rattle.std.specs.List.{position_or_len}
use Rattle.hexlines.specs.Fields.{place}

place_is : (b : ℕ) (s : List ℕ) → place b s ≡ position_or_len (λ x. eqb x b) s
unfolding place
place_is b = is_position_or_len (place b) (λ x. eqb x b) refl (λ x s. ap (λ (n : ℕ). cond (eqb x b) 0 n) (omega arith))

place_within : (b : ℕ) (s : List ℕ) → place b s ≤ length s
unfolding place
place_within b [] = omega arith
place_within b (x ∷ s) = grind (arith, common_steps, place_within b s)

known : (n l : ℕ) → n ≤ l → unwrap_or (cond (ltb n l) (Some n) None) l ≡ n
known n l h = grind (arith, common_steps)

pub found : (b : ℕ) (s : List ℕ) (o : Option ℕ) (r : ℕ)
    → o ≡ cond (ltb (position_or_len (λ x. eqb x b) s) (length s)) (Some (position_or_len (λ x. eqb x b) s)) None
    → r ≡ unwrap_or o (length s) → (r ≡ place b s) × (r ≤ length s) × (r ≡ length (take r s))
found b s o r h e =
    let w = place_within b s in
    let p : r ≡ place b s = e ∙ rw (h, ← place_is b s) (known (place b s) (length s) w) in
    let l : r ≤ length s = omega arith in
    (p, l, sym (length-take-le r s l))
