-- Root words: SPEC, "Constants, by rule"; FIPS 180-4 §4.2.2, §4.2.3 and §5.3. `IsRoot` says of a number that it is the whole root,
-- `root` computes it, and `root_word` is made of its lower bits: those of the fraction of the prime's root.
use Rattle.std.specs.Prelude.{ℕ, zero, suc, ◌+◌, ◌*◌, ◌%◌, ◌^◌, ◌≤◌, ◌<◌, cond, ◌≡◌, leb}

-- n is the e-th root of x, rounded down
pub record IsRoot (e x n : ℕ) : Type 0 where
  pub low : n ^ e ≤ x
  pub high : x < (n + 1) ^ e

-- x is the lower w bits of the whole root of p·2^(ew)
pub record RootWord (e w p x : ℕ) : Type 0 where
  pub whole : ℕ
  pub bounds : IsRoot e (p * 2 ^ (e * w)) whole
  pub rest : x ≡ whole % 2 ^ w

-- the binary digits of the root, k of them to come, the highest first, after n
unfoldable pub root : ℕ → ℕ → ℕ → ℕ → ℕ
root e x zero n = n
root e x (suc k) n = root e x k (cond (leb ((n + 2 ^ k) ^ e) x) (n + 2 ^ k) n)

-- the lower w bits of that root, which has at most w + p binary digits
unfoldable pub root_word : ℕ → ℕ → ℕ → ℕ
root_word e w p = root e (p * 2 ^ (e * w)) (w + p) 0 % 2 ^ w
