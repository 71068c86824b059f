-- `lists::order::before` meets its contract. What is left from i on decides.
use mathlib.Core.List.{List}
use mathlib.Core.Path.{◌≡◌}
use Prim.Native.Nat.{ℕ, ◌≤◌}
use lib.ListN.{length, drop}
use Rattle.lists.specs.Order.{before}
use Rattle.lists.proofs.order.before.Given as goal

pub record Left (a b : List ℕ) (i : ℕ) : Type 0 where
  pub within : i ≤ length a
  pub decides : before a b ≡ before (drop i a) (drop i b)

abbrev pub invariant-loop-i : goal.invariant-loop-i
invariant-loop-i l = Left l.a l.b l.i
