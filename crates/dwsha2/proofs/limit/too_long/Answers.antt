-- `dwsha2::limit::too_long` meets its contract: the length so far passes the limit, or what the limit leaves is too little. Assumes
-- nothing.
use mathlib.Core.Bool.{Bool, true, false}
use mathlib.Core.Path.{◌≡◌, refl, sym}
use Prim.Native.Nat.{ℕ, ◌-◌, ◌≤◌}
use native.Mathlib.Omega.{arith}
use lib.Dec.{ltb}
use borrow.Author.Tests.{ltb-true, ltb-false}
use Rattle.dwsha2.specs.Limit.{limit, too_long}
use Rattle.dwsha2.proofs.Limits.{within-limit, past-limit}
use Rattle.dwsha2.proofs.limit.too_long.Goals as goal

-- the difference is compared where the sum would be

by_difference : (e c n : ℕ) → c ≤ limit → ltb (limit - c) n ≡ too_long e c n
by_difference e c n h = go (ltb (limit - c) n) refl
  where
    go : (b : Bool) → ltb (limit - c) n ≡ b → b ≡ too_long e c n
    go true q = sym (past-limit e c n (omega (arith, ltb-true (limit - c) n q)))
    go false q = sym (within-limit e c n (omega (arith, ltb-false (limit - c) n q)))

pub returns-then-count-gt-LIMIT : goal.returns-then-count-gt-LIMIT
returns-then-count-gt-LIMIT c = sym (past-limit _ _ _ (omega arith))

pub returns : goal.returns
returns c = by_difference _ _ _ c.if-count-gt-LIMIT.false
