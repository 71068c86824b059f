-- `writer::moving::raise` meets its contract. It runs from the last entry to the first: before entry i the bytes are as they were, and
-- from there on stand the n - i last entries, raised. An offset has four bytes, so no sum passes a word.
use mathlib.Core.List.{List, ◌++◌}
use mathlib.Core.Path.{◌≡◌}
use Prim.Native.Nat.{ℕ, ◌-◌, ◌*◌, ◌≤◌}
use lib.ListN.{length, take, drop}
use Rattle.lists.specs.Layout.{offset_size}
use Rattle.writer.specs.Code.Moves.{raised}
use Rattle.writer.proofs.moving.raise.Given as goal

pub record Raising (xs₀ : List ℕ) (n size by : ℕ) (xs : List ℕ) (i : ℕ) : Type 0 where
  pub wide : offset_size ≤ size
  pub long : length xs₀ ≡ n * size
  pub within : i ≤ n
  pub bytes : xs ≡ take (i * size) xs₀ ++ raised (n - i) size by (drop (i * size) xs₀)

abbrev pub invariant-loop-i : goal.invariant-loop-i
invariant-loop-i l = Raising l.initial.entries l.n l.size l.by l.entries l.i
