-- The primes in order: SPEC, "Constants, by rule". `Prime` is the definition of a prime, `primes_below n` computes them.
use Rattle.std.specs.Prelude.{ℕ, zero, suc, ◌%◌, ◌<◌, Bool, true, ◌&&◌, ◌||◌, not, cond, List, [], ◌∷◌, ◌++◌, ◌⊎◌, ◌≡◌, ltb, eqb, length}
use Rattle.std.specs.Prelude.{get_or}

-- a number above 1 that only 1 and itself divide
pub record Prime (n : ℕ) : Type 0 where
  pub above : 1 < n
  pub only : (d : ℕ) → n % d ≡ 0 → (d ≡ 1) ⊎ (d ≡ n)

-- the list has the primes below n and nothing else, in ascending order
pub record PrimesBelow (n : ℕ) (ps : List ℕ) : Type 0 where
  pub prime : (i : ℕ) → i < length ps → Prime (get_or ps i 0)
  pub below : (i : ℕ) → i < length ps → get_or ps i 0 < n
  pub ascending : (i j : ℕ) → i < j → j < length ps → get_or ps i 0 < get_or ps j 0
  pub all : (p : ℕ) → Prime p → p < n → (i : ℕ) × (i < length ps) × (get_or ps i 0 ≡ p)

-- p is a prime, and i primes are below it: the first prime is at place 0
pub record PrimeAt (i p : ℕ) : Type 0 where
  pub prime : Prime p
  pub before : List ℕ
  pub those : PrimesBelow p before
  pub count : length before ≡ i

-- no number from 2 up to, and without, k divides n
unfoldable pub undivided : ℕ → ℕ → Bool
undivided n zero = true
undivided n (suc k) = undivided n k && (ltb k 2 || not (eqb (n % k) 0))

unfoldable pub is_prime : ℕ → Bool
is_prime n = ltb 1 n && undivided n n

-- in order
unfoldable pub primes_below : ℕ → List ℕ
primes_below zero = []
primes_below (suc n) = primes_below n ++ cond (is_prime n) (n ∷ []) []

-- the first eighty, of which 409 is the last
unfoldable pub primes : List ℕ
primes = primes_below 410
