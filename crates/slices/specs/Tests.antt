-- Tests on lists that compute: `holds` of a list of conditions, `every` of one condition over a list, `same` of two lists of numbers.
use Rattle.std.specs.Prelude.{ℕ, Bool, true, false, cond, List, [], ◌∷◌, ltb, eqb}

-- all the conditions hold
unfoldable pub holds : List Bool → Bool
holds [] = true
holds (b ∷ bs) = cond b (holds bs) false

-- the condition holds of every element
unfoldable pub every : {A : Type 0} → (A → Bool) → List A → Bool
every p [] = true
every p (x ∷ xs) = cond (p x) (every p xs) false

abbrev pub all_below : ℕ → List ℕ → Bool
all_below m xs = every (λ x. ltb x m) xs

abbrev pub all_zero : List ℕ → Bool
all_zero xs = every (λ x. eqb x 0) xs

-- the same elements by a test of two, and as many
unfoldable pub same_by : {A : Type 0} → (A → A → Bool) → List A → List A → Bool
same_by eq [] [] = true
same_by eq [] (y ∷ ys) = false
same_by eq (x ∷ xs) [] = false
same_by eq (x ∷ xs) (y ∷ ys) = cond (eq x y) (same_by eq xs ys) false

-- the same numbers, and as many
abbrev pub same : List ℕ → List ℕ → Bool
same xs ys = same_by eqb xs ys
