-- Pieces of a list: how many (`length-pieces`), one more at the end (`pieces-snoc`), of a front (`pieces-front`), that enough of them leave
-- nothing out (`pieces-flat`), the first of them and the others (`pieces-take`, `pieces-drop`), and of two lists (`pieces-append`).
use Prim.Native.Nat.{ℕ, zero, suc, ◌+◌, ◌-◌, ◌*◌, ◌≤◌}
use mathlib.Core.List.{List, [], ◌∷◌, ◌++◌, flatten}
use mathlib.Core.Path.{◌≡◌, refl, sym, ap, ap₂, ◌∙◌}
use native.Mathlib.Nat.{zero-add, suc-add, zero-mul, suc-mul, add_comm, sub-zero}
use native.Mathlib.Omega.{arith}
use lib.ListN.{length, take, drop, length-drop, take-append-drop}
use lib.Seq.{take-append-le, drop-append-le, drop-drop}
use Rattle.fips.specs.Bits.{pieces}

pub length-pieces : (n k : ℕ) (xs : List ℕ) → length (pieces n k xs) ≡ k
unfolding pieces
length-pieces n zero xs = refl
length-pieces n (suc k) xs = ap suc (length-pieces n k (drop n xs))

drop-one-more : (n k : ℕ) (xs : List ℕ) → drop (suc k * n) xs ≡ drop (k * n) (drop n xs)
drop-one-more n k xs = rw (suc-mul k n, add_comm (k * n) n, ← drop-drop (k * n) n xs)

-- one piece more, at the end
pub pieces-snoc : (n k : ℕ) (xs : List ℕ) → pieces n (suc k) xs ≡ pieces n k xs ++ (take n (drop (k * n) xs) ∷ [])
unfolding pieces
pieces-snoc n zero xs = rw zero-mul
pieces-snoc n (suc k) xs =
    ap (λ (l : List (List ℕ)). take n xs ∷ l)
    (pieces-snoc n k (drop n xs)
    ∙ ap (λ (l : List ℕ). pieces n k (drop n xs) ++ (take n l ∷ [])) (sym (drop-one-more n k xs)))

-- what follows k pieces does not count
pub pieces-front : (n k : ℕ) (xs ys : List ℕ) → k * n ≤ length xs → pieces n k (xs ++ ys) ≡ pieces n k xs
unfolding pieces
pieces-front n zero xs ys h = refl
pieces-front n (suc k) xs ys h =
    let e = suc-mul k n in
    rw (take-append-le n xs ys (omega arith), drop-append-le n xs ys (omega arith))
    (ap (λ (l : List (List ℕ)). take n xs ∷ l) (pieces-front n k (drop n xs) ys (simp length-drop (omega arith))))

-- pieces that are enough leave nothing out
pub pieces-flat : (n k : ℕ) (xs : List ℕ) → length xs ≤ k * n → flatten (pieces n k xs) ≡ xs
unfolding pieces flatten
pieces-flat n zero [] h = refl
pieces-flat n zero (x ∷ xs) h = absurd (omega (arith, zero-mul n))
pieces-flat n (suc k) xs h =
    let fewer : length (drop n xs) ≤ k * n = simp length-drop (omega (arith, suc-mul k n)) in
    ap (λ (l : List ℕ). take n xs ++ l) (pieces-flat n k (drop n xs) fewer) ∙ take-append-drop n xs

-- the first j of them, and the others
pub pieces-take : (n j k : ℕ) (xs : List ℕ) → j ≤ k → take j (pieces n k xs) ≡ pieces n j xs
unfolding pieces
pieces-take n zero k xs h = refl
pieces-take n (suc j) zero xs h = absurd (omega arith)
pieces-take n (suc j) (suc k) xs h = ap (λ (l : List (List ℕ)). take n xs ∷ l) (pieces-take n j k (drop n xs) (omega arith))

pub pieces-drop : (n j k : ℕ) (xs : List ℕ) → j ≤ k → drop j (pieces n k xs) ≡ pieces n (k - j) (drop (j * n) xs)
unfolding pieces
pieces-drop n zero k xs h = rw (zero-mul, sub-zero k)
pieces-drop n (suc j) zero xs h = absurd (omega arith)
pieces-drop n (suc j) (suc k) xs h =
    let fewer : k - j ≡ suc k - suc j = omega arith in
    pieces-drop n j k (drop n xs) (omega arith) ∙ rw (fewer, ← drop-one-more n j xs)

-- whole pieces at the front, and those of what follows
pub pieces-append : (n j k : ℕ) (xs ys : List ℕ) → length xs ≡ j * n → pieces n (j + k) (xs ++ ys) ≡ pieces n j xs ++ pieces n k ys
unfolding pieces
pieces-append n zero k [] ys e = ap (λ (m : ℕ). pieces n m ys) (zero-add k)
pieces-append n zero k (x ∷ xs) ys e = absurd (omega (arith, zero-mul n))
pieces-append n (suc j) k xs ys e =
    let whole = suc-mul j n in
    let rest : length (drop n xs) ≡ j * n = length-drop n xs ∙ omega arith in
    ap (λ (m : ℕ). pieces n m (xs ++ ys)) (suc-add j k)
    ∙ ap₂ (λ (a b : List ℕ). a ∷ pieces n (j + k) b) (take-append-le n xs ys (omega arith)) (drop-append-le n xs ys (omega arith))
    ∙ ap (λ (l : List (List ℕ)). take n xs ∷ l) (pieces-append n j k (drop n xs) ys rest)
