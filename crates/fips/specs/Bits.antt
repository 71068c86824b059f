-- Bits and the numbers that they make: FIPS 180-4 §2.1 and §3.1. A bit is a Bool, 1 is true; a bit string is a list of bits.
-- Everywhere the most significant bit stands first.
use Rattle.std.specs.Prelude.{ℕ, zero, suc, ◌+◌, ◌*◌, ◌/◌, ◌%◌, ◌^◌, Bool, true, false, List, [], ◌∷◌, ◌++◌, eqb, length, take, drop}

-- §3.1: the k bits of a number, x modulo 2^k
unfoldable pub bits : ℕ → ℕ → List Bool
bits zero x = []
bits (suc k) x = eqb (x / 2 ^ k % 2) 1 ∷ bits k x

abbrev pub digit : Bool → ℕ
digit true = 1
digit false = 0

-- §3.1: the number that a bit string makes
unfoldable pub value : List Bool → ℕ
value [] = 0
value (b ∷ bs) = digit b * 2 ^ length bs + value bs

-- §3.1: the bits of a list of bytes, eight a byte
unfoldable pub bits_of : List ℕ → List Bool
bits_of [] = []
bits_of (x ∷ xs) = bits 8 x ++ bits_of xs

-- k pieces of n elements each, from the front
unfoldable pub pieces {ℓ} : {A : Type ℓ} → ℕ → ℕ → List A → List (List A)
pieces n zero xs = []
pieces n (suc k) xs = take n xs ∷ pieces n k (drop n xs)
