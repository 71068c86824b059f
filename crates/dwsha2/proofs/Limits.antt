-- Laws of the length limit: what `too_long` says of a sum of lengths. The layers above cite these and not the number.
use Prim.Native.Nat.{ℕ, ◌+◌, ◌^◌, ◌≤◌, ◌<◌}
use mathlib.Core.Bool.{true, false}
use mathlib.Core.Path.{◌≡◌, ap}
use native.Mathlib.Omega.{arith}
use lib.Dec.{ltb}
use borrow.Author.Tests.{lt-ltb, le-ltb, ltb-true, ltb-false}
use Rattle.dwsha2.specs.Limit.{limit, too_long}

module _ (e : ℕ) where
  pub within-limit : (c n : ℕ) → c + n ≤ limit → too_long e c n ≡ false
  unfolding too_long
  within-limit c n h = le-ltb limit (c + n) h

  pub past-limit : (c n : ℕ) → limit < c + n → too_long e c n ≡ true
  unfolding too_long
  past-limit c n h = lt-ltb limit (c + n) h

  module _ (c n : ℕ) (short : too_long e c n ≡ false) where
    pub limit-within : c + n ≤ limit
    unfolding too_long
    limit-within = ltb-false limit (c + n) short

    -- a length within the limit fits a word
    pub length-fits : c + n < 2 ^ 64
    length-fits = omega (arith, limit-within)

    -- what came before was not too long, nor is what came with it, nor a part of it
    pub shorter : (m : ℕ) → m ≤ n → too_long e c m ≡ false
    shorter m h = within-limit c m (omega (arith, limit-within))

    pub counted-in : too_long e (c + n) 0 ≡ false
    counted-in = within-limit (c + n) 0 (omega (arith, limit-within))

  -- what is too long stays so with more behind it
  pub longer : (c n m : ℕ) → n ≤ m → too_long e c n ≡ true → too_long e c m ≡ true
  unfolding too_long
  longer c n m h long = past-limit c m (omega (arith, ltb-true limit (c + n) long))

  -- only the sum counts
  pub same_sum : (c n d m : ℕ) → c + n ≡ d + m → too_long e c n ≡ too_long e d m
  unfolding too_long
  same_sum c n d m q = ap (ltb limit) q

  pub no_length : too_long e 0 0 ≡ false
  no_length = within-limit 0 0 (omega arith)
