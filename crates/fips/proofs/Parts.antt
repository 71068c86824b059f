-- A bit string is whole bytes and less than eight bits more in one way: laws of specs/Message.antt.
-- Main: `parts-message` (the parts of a bit string are a message that is the string), and of a message whose closing byte has zeros behind
-- its bits `message-bits`, `message-bytes` and `message-closing` (it has no other parts than those that made it).
use Prim.Native.Nat.{ℕ, zero, suc, ◌+◌, ◌-◌, ◌*◌, ◌/◌, ◌%◌, ◌^◌, ◌≤◌, ◌<◌}
use mathlib.Core.Bool.{Bool}
use mathlib.Core.List.{List, [], ◌∷◌, ◌++◌, map, append_assoc}
use mathlib.Core.Path.{◌≡◌, refl, sym, ap, ap₂, subst, ◌∙◌}
use native.Mathlib.Nat.{mul-suc, add_comm, add-zero, mod-lt, mod-eq_of_lt, div-add-mod, le_of_lt}
use native.Mathlib.Omega.{arith}
use lib.ListN.{length, take, drop, length-drop, take-append-drop}
use lib.Pow.{shl_lt, shl-shr, shr_mod, split, low, pow_pos}
use lib.Seq.{length-take-le, take-add, take_at, drop_at}
use Rattle.slices.specs.Below.{Bytes}
use Rattle.fips.specs.Bits.{bits, value, bits_of, pieces}
use Rattle.fips.specs.Message.{message, bytes_in}
use Rattle.fips.proofs.ByteForm.{length-message}
use Rattle.fips.proofs.Bits.{length-bits, value-bits, value-lt, bits-value, take-bits, length-bits_of}

-- ---- bytes

one_byte : (m : List Bool) → 8 ≤ length m → bits 8 (value (take 8 m)) ≡ take 8 m
one_byte m h = ap (λ (n : ℕ). bits n (value (take 8 m))) (sym (length-take-le 8 m h)) ∙ bits-value (take 8 m)

below-byte : (m : List Bool) → 8 ≤ length m → value (take 8 m) < 256
below-byte m h = subst (λ (n : ℕ). value (take 8 m) < 2 ^ n) (length-take-le 8 m h) (value-lt (take 8 m))

module _ (k : ℕ) (m : List Bool) (h : 8 * suc k ≤ length m) where
  enough : 8 ≤ length m
  enough = omega (arith, mul-suc 8 k)

  more : 8 * k ≤ length (drop 8 m)
  more = rw (length-drop 8 m) (omega (arith, mul-suc 8 k))

-- k pieces of eight bits are bytes, and have the bits that the bytes have
bits-pieces : (k : ℕ) (m : List Bool) → 8 * k ≤ length m → bits_of (map value (pieces 8 k m)) ≡ take (8 * k) m
unfolding bits_of pieces
bits-pieces zero m h = refl
bits-pieces (suc k) m h =
    ap₂ (λ (a b : List Bool). a ++ b) (one_byte m (enough k m h)) (bits-pieces k (drop 8 m) (more k m h))
    ∙ sym (rw (mul-suc 8 k, add_comm (8 * k) 8) (take-add 8 (8 * k) m))

bytes-pieces : (k : ℕ) (m : List Bool) → 8 * k ≤ length m → Bytes (map value (pieces 8 k m))
unfolding pieces
bytes-pieces zero m h i = omega arith
bytes-pieces (suc k) m h zero = below-byte m (enough k m h)
bytes-pieces (suc k) m h (suc i) = bytes-pieces k (drop 8 m) (more k m h) i

length-pieces : (k : ℕ) (m : List Bool) → length (map value (pieces 8 k m)) ≡ k
unfolding pieces
length-pieces zero m = refl
length-pieces (suc k) m = ap suc (length-pieces k (drop 8 m))

-- bytes are the pieces of their bits, whatever stands behind these
pieces-bits : (xs : List ℕ) → Bytes xs → (m : List Bool) → map value (pieces 8 (length xs) (bits_of xs ++ m)) ≡ xs
unfolding bits_of pieces
pieces-bits [] h m = refl
pieces-bits (x ∷ xs) h m =
    let all : (bits 8 x ++ bits_of xs) ++ m ≡ bits 8 x ++ (bits_of xs ++ m) = append_assoc (bits 8 x) (bits_of xs) m in
    rw (all, take_at (bits 8 x) (bits_of xs ++ m) 8 (length-bits 8 x), drop_at (bits 8 x) (bits_of xs ++ m) 8 (length-bits 8 x))
    (ap₂ (λ (a : ℕ) (l : List ℕ). a ∷ l) (value-bits 8 x ∙ mod-eq_of_lt (h 0)) (pieces-bits xs (λ i. h (suc i)) m))

-- ---- the closing byte: bits at its upper end, and zeros behind them

upper-end : (b : ℕ) → b < 8 → (x : ℕ) → take b (bits 8 x) ≡ bits b (x / 2 ^ (8 - b))
upper-end b few x = subst (λ (n : ℕ). take b (bits n x) ≡ bits b (x / 2 ^ (8 - b))) (omega arith) (take-bits b (8 - b) x)

module _ (b : ℕ) (few : b < 8) where
  eight : b + (8 - b) ≡ 8
  eight = omega arith

  -- bits at the upper end of a byte, read from there
  up-down : (m : List Bool) → length m ≡ b → take b (bits 8 (value m * 2 ^ (8 - b))) ≡ m
  up-down m long =
      upper-end b few (value m * 2 ^ (8 - b))
      ∙ ap (bits b) (shl-shr (value m) (8 - b))
      ∙ ap (λ (n : ℕ). bits n (value m)) (sym long)
      ∙ bits-value m

  up-byte : (m : List Bool) → length m ≡ b → value m * 2 ^ (8 - b) < 256
  up-byte m long =
      subst (λ (n : ℕ). value m * 2 ^ (8 - b) < 2 ^ n) eight
      (shl_lt b (8 - b) (subst (λ (n : ℕ). value m < 2 ^ n) long (value-lt m)))

  up-zeros : (v : ℕ) → v * 2 ^ (8 - b) % 2 ^ (8 - b) ≡ 0
  up-zeros v = ap (λ (n : ℕ). n % 2 ^ (8 - b)) (sym (add-zero (v * 2 ^ (8 - b)))) ∙ low v (8 - b) (pow_pos (8 - b))

  -- a byte with zeros below, by its upper bits
  down-up : (x : ℕ) → x < 256 → x % 2 ^ (8 - b) ≡ 0 → value (take b (bits 8 x)) * 2 ^ (8 - b) ≡ x
  down-up x small none =
      let k : ℕ = 8 - b in
      let within : x < 2 ^ (b + k) = subst (λ (n : ℕ). x < 2 ^ n) (sym eight) small in
      let above : value (take b (bits 8 x)) ≡ x / 2 ^ k =
      ap value (upper-end b few x) ∙ value-bits b (x / 2 ^ k) ∙ shr_mod b k within in
      rw above (omega (arith, split x k))

-- ---- a bit string by its parts

module _ (m : List Bool) where
  -- how many whole bytes it has, how many bits stand behind them, and the closing byte that has these
  abbrev pub whole_bytes : ℕ
  whole_bytes = length m / 8

  abbrev pub bits_behind : ℕ
  bits_behind = length m % 8

  unfoldable pub closing_in : ℕ
  closing_in = value (drop (8 * whole_bytes) m) * 2 ^ (8 - bits_behind)

  within : 8 * whole_bytes ≤ length m
  within = omega (arith, div-add-mod (length m) 8)

  pub few-behind : bits_behind < 8
  few-behind = mod-lt (length m) (omega arith)

  behind : length (drop (8 * whole_bytes) m) ≡ bits_behind
  behind = length-drop (8 * whole_bytes) m ∙ omega (arith, div-add-mod (length m) 8)

  pub bytes_in-bytes : Bytes (bytes_in m)
  unfolding bytes_in
  bytes_in-bytes = bytes-pieces whole_bytes m within

  pub length-bytes_in : length (bytes_in m) ≡ whole_bytes
  unfolding bytes_in
  length-bytes_in = length-pieces whole_bytes m

  pub closing_in-byte : closing_in < 256
  unfolding closing_in
  closing_in-byte = up-byte bits_behind few-behind (drop (8 * whole_bytes) m) behind

  pub closing_in-zeros : closing_in % 2 ^ (8 - bits_behind) ≡ 0
  unfolding closing_in
  closing_in-zeros = up-zeros bits_behind few-behind (value (drop (8 * whole_bytes) m))

  pub parts-message : message (bytes_in m) closing_in bits_behind ≡ m
  unfolding message bytes_in closing_in
  parts-message =
      ap₂ (λ (a b : List Bool). a ++ b) (bits-pieces whole_bytes m within)
      (up-down bits_behind few-behind (drop (8 * whole_bytes) m) behind)
      ∙ take-append-drop (8 * whole_bytes) m

-- ---- a message has the parts that made it

module _ (bytes : List ℕ) (x b : ℕ) (few : b < 8) where
  pub message-wholes : whole_bytes (message bytes x b) ≡ length bytes
  message-wholes = rw (length-message bytes x b (le_of_lt few)) (omega arith)

  pub message-bits : bits_behind (message bytes x b) ≡ b
  message-bits = rw (length-message bytes x b (le_of_lt few)) (omega arith)

  pub message-bytes : Bytes bytes → bytes_in (message bytes x b) ≡ bytes
  unfolding bytes_in message
  message-bytes all =
      ap (λ (k : ℕ). map value (pieces 8 k (message bytes x b))) message-wholes ∙ pieces-bits bytes all (take b (bits 8 x))

  pub message-closing : x < 256 → x % 2 ^ (8 - b) ≡ 0 → closing_in (message bytes x b) ≡ x
  unfolding closing_in message
  message-closing small none =
      ap₂ (λ (k n : ℕ). value (drop (8 * k) (message bytes x b)) * 2 ^ (8 - n)) message-wholes message-bits
      ∙ ap (λ (m : List Bool). value m * 2 ^ (8 - b))
      (drop_at (bits_of bytes) (take b (bits 8 x)) (8 * length bytes) (length-bits_of bytes))
      ∙ down-up b few x small none
