-- `bigendian::rows::put_row` meets its contract. The invariant: what is to be there in the end is what stands in front of `at`, and what
-- the sizes and values that are left make of the rest.
use mathlib.Core.Path.{◌≡◌}
use mathlib.Core.List.{List, ◌++◌}
use Prim.Native.Nat.{ℕ, ◌≤◌}
use lib.ListN.{length, take, drop}
use Rattle.bigendian.specs.Code.PutRow.{put_row}
use Rattle.bigendian.proofs.rows.put_row.Given as goal

-- `whole` is to be there, and the sizes ns and the values xs are left
pub record Written (whole ns xs d : List ℕ) (at : ℕ) : Type 0 where
  pub within : at ≤ length d
  pub all : whole ≡ take at d ++ put_row ns xs (drop at d)

abbrev pub invariant-loop-size : goal.invariant-loop-size
invariant-loop-size l =
    Written (put_row l.sizes l.values l.initial.d) l.size-iterator.a.rest.now l.size-iterator.b.rest.now l.d l.at
