-- Bytes with zeros behind them: `padded`.
use Rattle.std.specs.Prelude.{List, ℕ, replicate}
use Rattle.slices.specs.AtFront.{at_front}

-- so many in all; of more bytes, the first
abbrev pub padded : ℕ → List ℕ → List ℕ
padded room bytes = at_front bytes (replicate room 0)
