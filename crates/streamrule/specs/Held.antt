-- The roots that a stream of chunks holds: SPEC, "Tree over a stream". `subtrees` of the leaves so far are the roots of their full
-- subtrees, one for each one in the binary number of leaves, the largest first. `grown` is what further leaves make of any roots; `folded`
-- is the node above them all.
use Rattle.std.specs.Prelude.{ℕ, zero, suc, ◌-◌, ◌/◌, ◌%◌, ◌^◌, cond, List, [], ◌∷◌, ◌++◌, eqb, leb, length, take, drop}
use Rattle.treerule.specs.Root.{Node, sha256, parent, top}

-- ---- which roots the leaves so far have

-- of fewer than 2^d leaves: the first 2^(d-1) are a full subtree where there are so many, and then come the subtrees of the others
unfoldable pub subtrees_in : ℕ → List Node → List Node
subtrees_in zero ns = []
subtrees_in (suc d) ns =
    cond (leb (2 ^ d) (length ns)) (top (take (2 ^ d) ns) ∷ subtrees_in d (drop (2 ^ d) ns)) (subtrees_in d ns)

-- no number n has more than n binary digits
unfoldable pub subtrees : List Node → List Node
subtrees ns = subtrees_in (length ns) ns

-- ---- what becomes of roots

-- the node above them: the last two have a parent, it and the one before have one, and so on to the first; of one it is that node, and of
-- none what no bytes hash to
unfoldable pub folded : List Node → Node
folded [] = sha256 []
folded (n ∷ []) = n
folded (l ∷ r ∷ ns) = parent l (folded (r ∷ ns))

-- a leaf that k roots are joined with, the last k: these and it become one
unfoldable pub joined : ℕ → List Node → Node → List Node
joined k roots leaf =
    let stay = length roots - k in
    take stay roots ++ (folded (drop stay roots ++ (leaf ∷ [])) ∷ [])

-- the ones at the end of a number, of its d last binary digits
unfoldable pub ones_at_end_in : ℕ → ℕ → ℕ
ones_at_end_in zero n = 0
ones_at_end_in (suc d) n = cond (eqb (n % 2) 1) (suc (ones_at_end_in d (n / 2))) 0

unfoldable pub ones_at_end : ℕ → ℕ
ones_at_end n = ones_at_end_in n n

-- a leaf behind the first n: it is joined with as many roots as there are ones at the end of that number
unfoldable pub pushed : ℕ → List Node → Node → List Node
pushed n roots leaf = joined (ones_at_end n) roots leaf

-- leaves behind the first n, one after the other
unfoldable pub grown : ℕ → List Node → List Node → List Node
grown n roots [] = roots
grown n roots (leaf ∷ leaves) = grown (suc n) (pushed n roots leaf) leaves
