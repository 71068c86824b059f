-- Bounds on the elements of a list: `Below m xs`, and so `Bytes xs`, of a list that is made of others.
-- Each law says how: `below-nil`, `below-cons`, `below-append`, `below-take`, `below-drop`, `below-replicate`; `below_more` raises m.
use mathlib.Core.List.{List, [], ◌∷◌, ◌++◌}
use Prim.Native.Nat.{ℕ, zero, suc, ◌+◌, ◌<◌, ◌≤◌}
use native.Mathlib.Omega.{arith}
use lib.ListN.{take, drop, replicate}
use lib.Seq.{get_or-drop}
use Rattle.slices.specs.Below.{Below}

pub below-nil : (m : ℕ) → zero < m → Below m []
below-nil m p i = p

pub below-cons : {m x : ℕ} (xs : List ℕ) → x < m → Below m xs → Below m (x ∷ xs)
below-cons xs p h zero = p
below-cons xs p h (suc i) = h i

pub below-append : {m : ℕ} (xs ys : List ℕ) → Below m xs → Below m ys → Below m (xs ++ ys)
below-append [] ys h k i = k i
below-append (x ∷ xs) ys h k zero = h 0
below-append (x ∷ xs) ys h k (suc i) = below-append xs ys (λ j. h (suc j)) k i

pub below-take : {m : ℕ} (n : ℕ) (xs : List ℕ) → Below m xs → Below m (take n xs)
below-take zero xs h i = omega (arith, h i)
below-take (suc n) [] h i = h i
below-take (suc n) (x ∷ xs) h zero = h 0
below-take (suc n) (x ∷ xs) h (suc i) = below-take n xs (λ j. h (suc j)) i

pub below-drop : {m : ℕ} (n : ℕ) (xs : List ℕ) → Below m xs → Below m (drop n xs)
below-drop {m} n xs h i = rw (get_or-drop n xs i 0) (h (n + i))

pub below_more : {m n : ℕ} (xs : List ℕ) → m ≤ n → Below m xs → Below n xs
below_more xs p h i = omega (arith, h i)

pub below-replicate : {m x : ℕ} (n : ℕ) → x < m → Below m (replicate n x)
below-replicate zero h i = omega arith
below-replicate (suc n) h zero = h
below-replicate (suc n) h (suc i) = below-replicate n h i
