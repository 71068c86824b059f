-- A text in an output: `put` says where it goes, `behind` where it ends. Both are cut where the output ends.
use Rattle.std.specs.Prelude.{◌≡◌, ℕ, ◌+◌, min, List, ◌++◌, length, take, drop}
use Rattle.slices.specs.AtFront.{at_front}

-- the output with a text from a place on, as much of it as there is room for
unfoldable pub put : ℕ → List ℕ → List ℕ → List ℕ
put at text out = take at out ++ at_front text (drop at out)

-- the place behind it
abbrev pub behind : ℕ → List ℕ → List ℕ → ℕ
behind at text out = min (at + length text) (length out)

-- what a function that puts a text ends with: the place that it answers, and the output that it leaves
abbrev pub Put : ℕ → List ℕ → List ℕ → ℕ → List ℕ → Type 0
Put at text out end left = (end ≡ behind at text out) × (left ≡ put at text out)
