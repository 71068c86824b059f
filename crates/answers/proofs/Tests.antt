-- Laws of `first`: which tests a call passed, and at which it stopped.
-- One test: `first-skip`, `first-stop`. A list: `first-none` and its converse `passed`, and `first_on`, `first_off` over two lists joined.
use mathlib.Core.Path.{◌≡◌, refl, ◌∙◌}
use mathlib.Core.Bool.{Bool, true, false, cond}
use mathlib.Core.List.{List, [], ◌∷◌, ◌++◌}
use Prim.Native.Nat.{ℕ, zero, suc, ◌<◌}
use native.Mathlib.Omega.{arith}
use lib.Dec.{T, ltb, ltb→lt}
use lib.ListN.{get_or}
use Rattle.answers.specs.Judged.{Test, ◌when◌, first}

pub first-skip : (t : Test) (ts : List Test) → t.applies ≡ false → first (t ∷ ts) ≡ first ts
unfolding first
first-skip t ts e = rw e

pub first-stop : (t : Test) (ts : List Test) → t.applies ≡ true → first (t ∷ ts) ≡ t.number
unfolding first
first-stop t ts e = rw e

-- whether the test at place i applies; past the end there is none that does
abbrev pub applies_at : List Test → ℕ → Bool
applies_at ts i = (get_or ts i (0 when false)).applies

pub first-none : (ts : List Test) → ((i : ℕ) → applies_at ts i ≡ false) → first ts ≡ 0
unfolding first
first-none [] h = refl
first-none (t ∷ ts) h = first-skip t ts (h 0) ∙ first-none ts (λ i. h (suc i))

-- every test has a number to refuse with, which is not 0: antt computes it where the list is written out
abbrev pub refusing : List Test → Bool
refusing [] = true
refusing (t ∷ ts) = cond (ltb 0 t.number) (refusing ts) false

refusing-both : (b c : Bool) → T (cond b c false) → T b × T c
refusing-both true c t = (tt, t)
refusing-both false c t = absurd t

cond-zero : (b : Bool) {n m : ℕ} → zero < n → cond b n m ≡ 0 → (b ≡ false) × (m ≡ 0)
cond-zero true p e = absurd (omega arith)
cond-zero false p e = (refl, e)

-- where `first` gives 0, no test applies
pub passed : (ts : List Test) → T (refusing ts) → first ts ≡ 0 → (i : ℕ) → applies_at ts i ≡ false
unfolding first
passed [] r e i = refl
passed (t ∷ ts) r e zero =
    let p = refusing-both (ltb 0 t.number) (refusing ts) r in
    (cond-zero t.applies (ltb→lt 0 t.number p.0) e).0
passed (t ∷ ts) r e (suc i) =
    let p = refusing-both (ltb 0 t.number) (refusing ts) r in
    passed ts p.1 (cond-zero t.applies (ltb→lt 0 t.number p.0) e).1 i

-- two lists joined: where no test of the first list applies, the second decides
pub first_on : (ts us : List Test) → ((i : ℕ) → applies_at ts i ≡ false) → first (ts ++ us) ≡ first us
first_on [] us h = refl
first_on (t ∷ ts) us h = first-skip t (ts ++ us) (h 0) ∙ first_on ts us (λ i. h (suc i))

cond_same : (b : Bool) (n : ℕ) {x y : ℕ} → (zero < y → x ≡ y) → zero < cond b n y → cond b n x ≡ cond b n y
cond_same true n h p = refl
cond_same false n h p = h p

-- where one of the first list does, that list decides
pub first_off : (ts us : List Test) → zero < first ts → first (ts ++ us) ≡ first ts
unfolding first
first_off [] us p = absurd (omega arith)
first_off (t ∷ ts) us p = cond_same t.applies t.number (first_off ts us) p
