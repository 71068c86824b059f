-- The order of a list's names: SPEC, "Digest list". `before` is the order, in which no name comes before itself.
use Rattle.std.specs.Prelude.{Bool, true, false, cond, List, [], ◌∷◌, ℕ, eqb, ltb}

-- the lesser byte decides at the first difference; without one, the name that ends first is the lesser
unfoldable pub before : List ℕ → List ℕ → Bool
before [] [] = false
before [] (y ∷ ys) = true
before (x ∷ xs) [] = false
before (x ∷ xs) (y ∷ ys) = cond (eqb x y) (before xs ys) (ltb x y)
