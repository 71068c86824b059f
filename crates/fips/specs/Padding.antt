-- Padding and parsing on lists of bits: FIPS 180-4 §5.1 and §5.2. 448 and 512 are 14 and 16 words of 32 bits, 896 and 1024 of 64.
use Rattle.std.specs.Prelude.{ℕ, ◌+◌, ◌-◌, ◌*◌, ◌/◌, ◌%◌, ◌≤◌, Bool, true, false, List, ◌∷◌, ◌++◌, map, ◌≡◌, length, replicate}
use Rattle.fips.specs.Bits.{bits, value, pieces}
use Rattle.fips.specs.Words.{Width, word}

-- §5.1: k is the smallest number with l + 1 + k ≡ 14·w modulo 16·w
pub record Fewest (w l k : ℕ) : Type 0 where
  pub reach : (l + 1 + k) % (16 * w) ≡ 14 * w
  pub fewest : (j : ℕ) → (l + 1 + j) % (16 * w) ≡ 14 * w → k ≤ j

-- §5.1: the count of zero bits after l bits and the 1 bit; `pad-fewest` says that it is the fewest
unfoldable pub zeros : ℕ → ℕ → ℕ
zeros w l = (14 * w + (16 * w - (l + 1) % (16 * w))) % (16 * w)

module _ (p : Width) where
  -- §5.1: the message, a 1 bit, the zero bits, the length as two words
  unfoldable pub pad : List Bool → List Bool
  pad m = m ++ (true ∷ replicate (zeros (word p) (length m)) false) ++ bits (2 * word p) (length m)

  -- §5.2: blocks of sixteen words
  unfoldable pub parse : List Bool → List (List ℕ)
  parse m = map (λ b. map value (pieces (word p) 16 b)) (pieces (16 * word p) (length m / (16 * word p)) m)
