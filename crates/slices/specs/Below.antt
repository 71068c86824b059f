-- Bounds on the elements of a list: `Below m xs`, and of bytes `Bytes xs`.
use Rattle.std.specs.Prelude.{List, ℕ, ◌<◌, get_or}

-- each element is below m
abbrev pub Below : ℕ → List ℕ → Type 0
Below m xs = (i : ℕ) → get_or xs i 0 < m

abbrev pub Bytes : List ℕ → Type 0
Bytes xs = Below 256 xs
