-- The fields of a line: a field ends at a space, and `other_fields` are what stands after it.
use Rattle.std.specs.Prelude.{cond, List, [], ◌∷◌, ℕ, suc, eqb, take, drop}

-- where b first stands, the length where it stands nowhere
unfoldable pub place : ℕ → List ℕ → ℕ
place b [] = 0
place b (x ∷ s) = cond (eqb x b) 0 (suc (place b s))

unfoldable pub first_field : List ℕ → List ℕ
first_field s = take (place 32 s) s

unfoldable pub other_fields : List ℕ → List ℕ
other_fields s = drop (suc (place 32 s)) s
