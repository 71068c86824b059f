-- Names that come one behind the other, each ended by a zero byte: SPEC, "The list maker". `ending` is how names are written; that the
-- names read are those that were written is `names-back`.
use Rattle.std.specs.Prelude.{ℕ, zero, suc, ◌+◌, ◌-◌, Bool, not, cond, List, [], ◌∷◌, ◌++◌, eqb, length, get_or, take, drop}
use Rattle.slices.specs.Tests.{every}

-- each name, and a zero byte behind it
unfoldable pub ending : List (List ℕ) → List ℕ
ending [] = []
ending (name ∷ names) = name ++ (0 ∷ ending names)

-- no byte of it is zero
abbrev pub without_zero : List ℕ → Bool
without_zero name = every (λ b. not (eqb b 0)) name

-- how many bytes stand before the first zero, all where there is none; and what stands behind it
unfoldable pub before_zero : List ℕ → ℕ
before_zero [] = 0
before_zero (b ∷ bs) = cond (eqb b 0) 0 (suc (before_zero bs))

abbrev pub behind_zero : List ℕ → List ℕ
behind_zero bs = drop (suc (before_zero bs)) bs

-- the name of that number, counted from 0
unfoldable pub name_in : ℕ → List ℕ → List ℕ
name_in zero bs = take (before_zero bs) bs
name_in (suc i) bs = name_in i (behind_zero bs)

-- where it begins: what stands from there on is all but what stands before
unfoldable pub names_from : ℕ → List ℕ → List ℕ
names_from zero bs = bs
names_from (suc i) bs = names_from i (behind_zero bs)

abbrev pub name_place : ℕ → List ℕ → ℕ
name_place i bs = length bs - length (names_from i bs)

-- how many names there are
unfoldable pub is_zero : ℕ → ℕ
is_zero b = cond (eqb b 0) 1 0

unfoldable pub zeros : List ℕ → ℕ
zeros [] = 0
zeros (b ∷ bs) = is_zero b + zeros bs

-- the last byte is zero, or there is none
unfoldable pub ended : List ℕ → Bool
ended bs = eqb (get_or bs (length bs - 1) 0) 0
