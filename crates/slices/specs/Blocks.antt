-- What is left after the whole blocks of a list: `rest`.
use Rattle.std.specs.Prelude.{List, ℕ, ◌*◌, ◌/◌, length, drop}

-- the elements after the last whole block, in blocks of n
abbrev pub rest : ℕ → List ℕ → List ℕ
rest n xs = drop (length xs / n * n) xs
