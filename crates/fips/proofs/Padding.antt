-- The zero bits are the fewest, `pad-fewest`, and a padded message is whole blocks, `pad-whole`: FIPS 180-4 §5.1.
-- `zeros_of`: whatever count reaches 14 words modulo 16 is that count modulo 16 words.
use Prim.Native.Nat.{ℕ, suc, ◌+◌, ◌-◌, ◌*◌, ◌%◌, ◌≤◌, ◌<◌}
use mathlib.Core.Path.{◌≡◌, sym, ap, ap₂, ◌∙◌}
use native.Mathlib.Nat.{mod-lt, mod-le, mod-add-mod, add-mod-mod, add-mod_right, mod-eq_of_lt, le_trans, le_of_eq, mod_self, add_assoc}
use native.Mathlib.Nat.{mul-add-mod_self_right}
use native.Mathlib.Omega.{arith}
use lib.ListN.{length, replicate, length-append, length-replicate}
use mathlib.Core.Bool.{Bool, true, false}
use mathlib.Core.List.{List, ◌∷◌, ◌++◌}
use Rattle.fips.specs.Bits.{bits}
use Rattle.fips.specs.Padding.{Fewest, zeros, pad}
use Rattle.fips.specs.Words.{Width, word}
use Rattle.fips.proofs.Bits.{length-bits}

module _ (w l : ℕ) (some : 0 < w) where
  room : (l + 1) % (16 * w) < 16 * w
  room = mod-lt (l + 1) (omega arith)

  -- a whole turn, cut at r
  split : (r k : ℕ) → r ≤ 16 * w → k + 16 * w ≡ r + k + (16 * w - r)
  split r k h = omega arith

  pub zeros-lt : zeros w l < 16 * w
  unfolding zeros
  zeros-lt = mod-lt _ (omega arith)

  pub zeros-reach : (l + 1 + zeros w l) % (16 * w) ≡ 14 * w
  unfolding zeros
  zeros-reach =
      let r = (l + 1) % (16 * w) in
      add-mod-mod (l + 1) (14 * w + (16 * w - r)) (16 * w)
      ∙ sym (mod-add-mod (l + 1) (16 * w) (14 * w + (16 * w - r)))
      ∙ ap (λ (n : ℕ). n % (16 * w)) (omega (arith, room))
      ∙ add-mod_right (14 * w) (16 * w)
      ∙ mod-eq_of_lt (omega arith)

  -- whatever count reaches 14 words, is this count modulo 16 words
  pub zeros_of : (k : ℕ) → (l + 1 + k) % (16 * w) ≡ 14 * w → k % (16 * w) ≡ zeros w l
  unfolding zeros
  zeros_of k e =
      let r = (l + 1) % (16 * w) in
      sym (add-mod_right k (16 * w))
      ∙ ap (λ (n : ℕ). n % (16 * w)) (split r k (omega (arith, room)))
      ∙ sym (mod-add-mod (r + k) (16 * w) (16 * w - r))
      ∙ ap (λ (n : ℕ). (n + (16 * w - r)) % (16 * w)) (mod-add-mod (l + 1) (16 * w) k ∙ e)

  pub pad-fewest : Fewest w l (zeros w l)
  pad-fewest = record { reach = zeros-reach; fewest = λ k e. le_trans (le_of_eq (sym (zeros_of k e))) (mod-le k (16 * w)) }

-- whole blocks before do not count
pub zeros-period : (w k l : ℕ) → zeros w (k * (16 * w) + l) ≡ zeros w l
unfolding zeros
zeros-period w k l =
    ap (λ (n : ℕ). (14 * w + (16 * w - n)) % (16 * w))
    (ap (λ (n : ℕ). n % (16 * w)) (add_assoc (k * (16 * w)) l 1) ∙ mul-add-mod_self_right k (16 * w) (l + 1))

-- where one block has room for the 1 bit and two words after l, and where it has not
pub zeros-one : (w l : ℕ) → l + 1 + 2 * w ≤ 16 * w → l + 1 + zeros w l + 2 * w ≡ 16 * w
zeros-one w l h =
    let k = 14 * w - (l + 1) in
    let some : 0 < w = omega arith in
    let sum : l + 1 + k ≡ 14 * w = omega arith in
    let reach : (l + 1 + k) % (16 * w) ≡ 14 * w = ap (λ (n : ℕ). n % (16 * w)) sum ∙ mod-eq_of_lt (omega arith) in
    let is : k ≡ zeros w l = sym (mod-eq_of_lt (omega arith)) ∙ zeros_of w l some k reach in
    omega arith

pub zeros-two : (w l : ℕ) → l < 16 * w → 16 * w < l + 1 + 2 * w → l + 1 + zeros w l + 2 * w ≡ 2 * (16 * w)
zeros-two w l h m =
    let k = 30 * w - (l + 1) in
    let some : 0 < w = omega arith in
    let sum : l + 1 + k ≡ 14 * w + 16 * w = omega arith in
    let reach : (l + 1 + k) % (16 * w) ≡ 14 * w =
    ap (λ (n : ℕ). n % (16 * w)) sum ∙ add-mod_right (14 * w) (16 * w) ∙ mod-eq_of_lt (omega arith) in
    let is : k ≡ zeros w l = sym (mod-eq_of_lt (omega arith)) ∙ zeros_of w l some k reach in
    omega arith

-- a padded message is whole blocks
pub pad-whole : (p : Width) (m : List Bool) → 0 < p.bytes → length (pad p m) % (16 * word p) ≡ 0
unfolding pad
pad-whole p m some =
    let l = length m in
    let w = word p in
    let z = zeros w l in
    let sum : length (pad p m) ≡ l + 1 + z + 2 * w =
    length-append (m ++ (true ∷ replicate z false)) (bits (2 * w) l)
    ∙ ap₂ ◌+◌ (length-append m (true ∷ replicate z false) ∙ ap (λ (n : ℕ). l + suc n) (length-replicate z false)) (length-bits (2 * w) l)
    ∙ omega arith
    in
    ap (λ (n : ℕ). n % (16 * w)) sum
    ∙ sym (mod-add-mod (l + 1 + z) (16 * w) (2 * w))
    ∙ ap (λ (n : ℕ). (n + 2 * w) % (16 * w)) (zeros-reach w l (omega arith))
    ∙ ap (λ (n : ℕ). n % (16 * w)) (omega arith)
    ∙ mod_self (16 * w)
