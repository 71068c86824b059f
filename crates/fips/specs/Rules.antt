-- The constants' rules as statements about a table: SPEC, "Constants, by rule". `RootTable` is the rule of the round constants
-- and of three rows of starting words, `StartRule` of all six rows. The laws `round32-rule`, `round64-rule` and `start-rule` say them.
use Rattle.std.specs.Prelude.{ℕ, ◌+◌, ◌%◌, ◌^◌, ◌<◌, List, map, ◌≡◌, length, get_or}
use Rattle.fips.specs.Primes.{PrimeAt}
use Rattle.fips.specs.Roots.{RootWord}
use Rattle.fips.specs.Constants.{seeded}

-- x is the root word of exponent e, in w bits, of the prime at place i; the first prime is at place 0
pub record PrimeWord (e w i x : ℕ) : Type 0 where
  pub prime : ℕ
  pub place : PrimeAt i prime
  pub root : RootWord e w prime x

-- n words: the root words of the n primes from place k on
pub record RootTable (e w k n : ℕ) (ws : List ℕ) : Type 0 where
  pub count : length ws ≡ n
  pub words : (i : ℕ) → i < n → PrimeWord e w (k + i) (get_or ws i 0)

-- the starting words, a row for each edition's number
pub record StartRule (row : ℕ → List ℕ) : Type 0 where
  pub sha224 : row 1 ≡ map (λ x. x % 2 ^ 32) (row 3)
  pub sha256 : RootTable 2 32 0 8 (row 2)
  pub sha384 : RootTable 2 64 8 8 (row 3)
  pub sha512 : RootTable 2 64 0 8 (row 4)
  pub sha512-224 : row 5 ≡ seeded (row 4) "SHA-512/224"
  pub sha512-256 : row 6 ≡ seeded (row 4) "SHA-512/256"
