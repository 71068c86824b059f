-- `bigendian::put` meets its contract. It writes from the end: the invariant says that from i on stand the last bytes of x,
-- and that what is left of x is x without them.
use mathlib.Core.Path.{◌≡◌}
use mathlib.Core.List.{List}
use Prim.Native.Nat.{ℕ, ◌-◌, ◌/◌, ◌^◌, ◌≤◌}
use lib.ListN.{length, drop}
use Rattle.bigendian.specs.BigEndian.{be}
use Rattle.bigendian.proofs.put.Given as goal

pub record Filled (d₀ : List ℕ) (x : ℕ) (d : List ℕ) (rest i : ℕ) : Type 0 where
  pub size : length d ≡ length d₀
  pub within : i ≤ length d₀
  pub bytes : drop i d ≡ be (length d₀ - i) x
  pub left : rest ≡ x / 256 ^ (length d₀ - i)

abbrev pub invariant-loop-i : goal.invariant-loop-i
invariant-loop-i l = Filled l.initial.d l.x l.d l.rest l.i
