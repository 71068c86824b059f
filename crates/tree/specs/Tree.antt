-- The call, its refusals in their order and what it leaves: SPEC, "Calls and their numbers".
use Rattle.std.specs.Prelude.{ℕ, List, [], ◌∷◌, ltb, length}
use Rattle.answers.specs.Judged.{Test, ◌when◌, Judged}
use Rattle.slices.specs.AtFront.{at_front}
use Rattle.treerule.specs.Root.{node_bytes, root}

-- house: at most 1 MiB
abbrev pub tree_limit : ℕ
tree_limit = 1048576

-- the refusals in order
unfoldable pub tree_tests : List ℕ → List ℕ → List Test
tree_tests bytes out = 7 when ltb tree_limit (length bytes) ∷ 9 when ltb (length out) node_bytes ∷ []

-- the root at the front of the output
unfoldable pub rooted : List ℕ → List ℕ → List ℕ
rooted bytes out = at_front (root bytes) out

-- the call answered the number n, and left the output as it is then
abbrev pub Trees : List ℕ → List ℕ → ℕ → List ℕ → Type 0
Trees bytes out n left = Judged (tree_tests bytes out) out (rooted bytes out) n left
