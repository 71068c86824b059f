-- The rest after whole blocks of n: how long it is, `length_rest`, that less than a block is its own rest, `rest-small`, and that whole
-- blocks before it do not count, `rest-append`. What a begun block lacks: `lack`.
use Prim.Native.Nat.{ℕ, zero, suc, ◌+◌, ◌-◌, ◌*◌, ◌/◌, ◌%◌, ◌≤◌, ◌<◌}
use mathlib.Core.List.{List, ◌++◌}
use mathlib.Core.Logic.{◌⊎◌, inl, inr, ⊎_elim}
use mathlib.Core.Path.{◌≡◌, refl, sym, ap, ◌∙◌}
use native.Mathlib.Nat.{div-add-mod', div-mul-le_self, div-eq_of_lt, mul-add-div_right, add-mul}
use native.Mathlib.Nat.{zero-mul, one-mul, mod-eq_of_lt, mod_self, sub-zero}
use native.Mathlib.Omega.{arith}
use lib.ListN.{length, take, drop, length-append, length-drop}
use lib.Seq.{length-take-le, drop-append-add}
use Rattle.slices.specs.Blocks.{rest}

pub length_rest : (n : ℕ) (xs : List ℕ) → length (rest n xs) ≡ length xs % n
length_rest n xs = length-drop (length xs / n * n) xs ∙ omega (arith, div-add-mod' (length xs) n)

pub rest-small : (n : ℕ) (xs : List ℕ) → length xs < n → rest n xs ≡ xs
rest-small n xs h = ap (λ (k : ℕ). drop (k * n) xs) (div-eq_of_lt h) ∙ rw (zero-mul n)

pub rest-append : (n k : ℕ) (a b : List ℕ) → 0 < n → k * n ≡ length a → rest n (a ++ b) ≡ rest n b
rest-append n k a b p e =
    let long : length (a ++ b) ≡ k * n + length b = length-append a b ∙ ap (λ (m : ℕ). m + length b) (sym e) in
    let from : length (a ++ b) / n * n ≡ length a + length b / n * n =
    ap (λ (m : ℕ). m / n * n) long ∙ ap (λ (m : ℕ). m * n) (mul-add-div_right p k (length b)) ∙ add-mul k (length b / n) n
    ∙ ap (λ (m : ℕ). m + length b / n * n) e in
    ap (λ (m : ℕ). drop m (a ++ b)) from ∙ drop-append-add a b (length b / n * n)

-- the whole blocks, as long as they are
pub length_whole : (n : ℕ) (xs : List ℕ) → length xs / n * n ≡ length (take (length xs / n * n) xs)
length_whole n xs = sym (length-take-le (length xs / n * n) xs (div-mul-le_self (length xs) n))

-- ---- what a begun block of b bytes lacks where n are there

abbrev pub lack : ℕ → ℕ → ℕ
lack b n = (b - n) % b

pub lack-cases : (b n : ℕ) → n < b → ((n ≡ 0) × (lack b n ≡ 0)) ⊎ ((0 < n) × (lack b n ≡ b - n))
lack-cases b zero h = inl (refl, ap (λ (k : ℕ). k % b) (sub-zero b) ∙ mod_self b)
lack-cases b (suc n) h = inr (omega arith, mod-eq_of_lt (omega arith))

-- with it there are no blocks, or one
pub lack-whole : (b n : ℕ) → n < b → (k : ℕ) × (k * b ≡ n + lack b n) × (n + lack b n ≤ b)
lack-whole b n h =
    ⊎_elim (λ (c : (n ≡ 0) × (lack b n ≡ 0)). (0, zero-mul b ∙ omega arith, omega arith))
    (λ (c : (0 < n) × (lack b n ≡ b - n)). (1, one-mul b ∙ omega arith, omega arith)) (lack-cases b n h)

pub lack-short : (b n m : ℕ) → n < b → m < lack b n → n + m < b
lack-short b n m h k =
    ⊎_elim (λ (c : (n ≡ 0) × (lack b n ≡ 0)). absurd (omega arith)) (λ (c : (0 < n) × (lack b n ≡ b - n)). omega arith) (lack-cases b n h)
