-- Ch and Maj in fewer operations than FIPS 180-4 §4.1.2 and §4.1.3 write them with, for all words of any width.
-- Main statements: `ch-short` and `maj-short`. Both are cases of `forms-agree`: forms with one truth table make the same words.
use Prim.Native.Nat.{ℕ, zero, suc, ◌+◌, ◌-◌, ◌*◌, ◌/◌, ◌%◌, ◌^◌, ◌<◌}
use mathlib.Core.List.{List, [], ◌∷◌}
use mathlib.Core.Path.{◌≡◌, refl, sym, ap, ap₂, subst, ◌∙◌}
use native.Mathlib.Nat.{mod-lt, div-add-mod', pow-suc}
use native.Mathlib.Numerals.{add-one}
use native.Mathlib.Omega.{arith}
use lib.Arith.{lt-one}
use lib.Bits.{bit_and, bit_or, bit_xor, and_lt, or_lt, xor_lt, and_block, or_block, xor_block}
use lib.ListN.{get_or}
use lib.Pow.{shr_lt, pow_pos}
use Rattle.fips.specs.Words.{Width, word, ch, maj}

infixl 20 ◌and◌
infixl 20 ◌or◌
infixl 20 ◌xor◌
-- an expression in three letters
data Form : Type 0 where
  X : Form
  Y : Form
  Z : Form
  not : Form → Form
  ◌and◌ : Form → Form → Form
  ◌or◌ : Form → Form → Form
  ◌xor◌ : Form → Form → Form

-- what it makes of three words of k bits
abbrev makes : ℕ → Form → ℕ → ℕ → ℕ → ℕ
makes k X x y z = x
makes k Y x y z = y
makes k Z x y z = z
makes k (not f) x y z = 2 ^ k - 1 - makes k f x y z
makes k (f and g) x y z = bit_and (makes k f x y z) (makes k g x y z)
makes k (f or g) x y z = bit_or (makes k f x y z) (makes k g x y z)
makes k (f xor g) x y z = bit_xor (makes k f x y z) (makes k g x y z)

-- and that is a word of k bits
makes-lt : (k : ℕ) (f : Form) {x y z : ℕ} → x < 2 ^ k → y < 2 ^ k → z < 2 ^ k → makes k f x y z < 2 ^ k
makes-lt k X a b c = a
makes-lt k Y a b c = b
makes-lt k Z a b c = c
makes-lt k (not f) a b c = omega (arith, pow_pos k)
makes-lt k (f and g) a b c = and_lt k _ _ (makes-lt k f a b c) (makes-lt k g a b c)
makes-lt k (f or g) a b c = or_lt k _ _ (makes-lt k f a b c) (makes-lt k g a b c)
makes-lt k (f xor g) a b c = xor_lt k _ _ (makes-lt k f a b c) (makes-lt k g a b c)

-- ---- on single bits a form is its truth table

abbrev table : Form → List ℕ
table f =
    makes 1 f 0 0 0 ∷ makes 1 f 0 0 1 ∷ makes 1 f 0 1 0 ∷ makes 1 f 0 1 1
    ∷ makes 1 f 1 0 0 ∷ makes 1 f 1 0 1 ∷ makes 1 f 1 1 0 ∷ makes 1 f 1 1 1 ∷ []

zero-or-one : (P : ℕ → Type 0) → P 0 → P 1 → {n : ℕ} → n < 2 → P n
zero-or-one P p q {n = zero} h = p
zero-or-one P p q {n = suc zero} h = q
zero-or-one P p q {n = suc (suc n)} h = absurd (omega arith)

bits-agree : (f g : Form) → table f ≡ table g → {x y z : ℕ} → x < 2 → y < 2 → z < 2 → makes 1 f x y z ≡ makes 1 g x y z
bits-agree f g e {x} {y} {z} a b c =
    let Agree : ℕ → ℕ → ℕ → Type 0 = λ x y z. makes 1 f x y z ≡ makes 1 g x y z in
    let row : (i : ℕ) → get_or (table f) i 0 ≡ get_or (table g) i 0 = λ i. ap (λ (t : List ℕ). get_or t i 0) e in
    let either : (x y : ℕ) → Agree x y 0 → Agree x y 1 → Agree x y z = λ x y p q. zero-or-one (Agree x y) p q c in
    zero-or-one (λ (x : ℕ). Agree x y z)
    (zero-or-one (λ (y : ℕ). Agree 0 y z) (either 0 0 (row 0) (row 1)) (either 0 1 (row 2) (row 3)) b)
    (zero-or-one (λ (y : ℕ). Agree 1 y z) (either 1 0 (row 4) (row 5)) (either 1 1 (row 6) (row 7)) b)
    a

-- ---- a form's lowest bit is made of the lowest bits, and its others of the others

lowest-lt : (n : ℕ) → n % 2 < 2
lowest-lt n = mod-lt n (omega arith)

others-lt : (k : ℕ) {n : ℕ} → n < 2 ^ suc k → n / 2 < 2 ^ k
others-lt k {n} h = shr_lt k 1 (subst (λ (i : ℕ). n < 2 ^ i) (sym (add-one k)) h)

complement-parts : (p q r : ℕ) → q < p → r < 2 → p * 2 - 1 - (q * 2 + r) ≡ (p - 1 - q) * 2 + (1 - r)
complement-parts p q r h k = omega arith

module _ (k : ℕ) {x y z : ℕ} (a : x < 2 ^ suc k) (b : y < 2 ^ suc k) (c : z < 2 ^ suc k) where
  upper_lt : (f : Form) → makes k f (x / 2) (y / 2) (z / 2) < 2 ^ k
  upper_lt f = makes-lt k f (others-lt k a) (others-lt k b) (others-lt k c)

  lower-lt : (f : Form) → makes 1 f (x % 2) (y % 2) (z % 2) < 2
  lower-lt f = makes-lt 1 f (lowest-lt x) (lowest-lt y) (lowest-lt z)

  by_bits : (f : Form) → makes (suc k) f x y z ≡ makes k f (x / 2) (y / 2) (z / 2) * 2 + makes 1 f (x % 2) (y % 2) (z % 2)
  by_bits X = sym (div-add-mod' x 2)
  by_bits Y = sym (div-add-mod' y 2)
  by_bits Z = sym (div-add-mod' z 2)
  by_bits (not f) = ap₂ (λ (p q : ℕ). p - 1 - q) (pow-suc 2 k) (by_bits f) ∙ complement-parts (2 ^ k) _ _ (upper_lt f) (lower-lt f)
  by_bits (f and g) = ap₂ bit_and (by_bits f) (by_bits g) ∙ and_block 1 _ _ _ _ (lower-lt f) (lower-lt g)
  by_bits (f or g) = ap₂ bit_or (by_bits f) (by_bits g) ∙ or_block 1 _ _ _ _ (lower-lt f) (lower-lt g)
  by_bits (f xor g) = ap₂ bit_xor (by_bits f) (by_bits g) ∙ xor_block 1 _ _ _ _ (lower-lt f) (lower-lt g)

forms-agree : (f g : Form) → table f ≡ table g → (k : ℕ) {x y z : ℕ} → x < 2 ^ k → y < 2 ^ k → z < 2 ^ k
    → makes k f x y z ≡ makes k g x y z
forms-agree f g e zero a b c = lt-one (makes-lt 0 f a b c) ∙ sym (lt-one (makes-lt 0 g a b c))
forms-agree f g e (suc k) {x} {y} {z} a b c =
    by_bits k a b c f
    ∙ ap₂ (λ (p q : ℕ). p * 2 + q)
    (forms-agree f g e k (others-lt k a) (others-lt k b) (others-lt k c))
    (bits-agree f g e (lowest-lt x) (lowest-lt y) (lowest-lt z))
    ∙ sym (by_bits k a b c g)

-- ---- the two laws

module _ (p : Width) {x y z : ℕ} (a : x < 2 ^ word p) (b : y < 2 ^ word p) (c : z < 2 ^ word p) where
  pub ch-short : bit_xor z (bit_and x (bit_xor y z)) ≡ ch p x y z
  ch-short = forms-agree (Z xor (X and (Y xor Z))) ((X and Y) xor ((not X) and Z)) refl (word p) a b c

  pub maj-short : bit_and (bit_or y z) (bit_or x (bit_and y z)) ≡ maj p x y z
  maj-short = forms-agree ((Y or Z) and (X or (Y and Z))) (((X and Y) xor (X and Z)) xor (Y and Z)) refl (word p) a b c
