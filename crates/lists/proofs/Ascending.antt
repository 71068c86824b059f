-- The order of names: `before` is an order that no name has to itself, and one of two comes first unless they are the same, `before-or`.
-- Along ascending names each comes before all that follow: `ascending-later`.
use mathlib.Core.Bool.{Bool, true, false, cond, false≢true, true≢false}
use mathlib.Core.List.{List, [], ◌∷◌}
use mathlib.Core.Logic.{◌⊎◌, inl, inr, ⊎_elim}
use mathlib.Core.Path.{◌≡◌, refl, sym, ◌∙◌}
use Prim.Native.Nat.{ℕ, zero, suc, ◌<◌, ◌≤◌}
use native.Mathlib.Nat.{not-suc-le-zero, le_of_suc-le-suc}
use native.Mathlib.Omega.{arith}
use lib.Arith.{lt_of_le-ne}
use lib.Dec.{eqb, ltb, leb-suc-suc}
use lib.ListN.{length, get_or, drop, drop_of_length-le}
use lib.Seq.{drop-cons}
use borrow.Author.Tests.{lt-ltb, le-ltb, ltb-true, ltb-false, eq-eqb, ne_eqb, eqb-true, eqb-false}
use Rattle.slices.specs.Tests.{same, same_by}
use Rattle.lists.specs.Order.{before}
use Rattle.lists.specs.Lists.{Pair, ascending}
use Rattle.slices.proofs.Tests.{cond_both}

-- ---- the order of bytes

pub before-not-self : (xs : List ℕ) → before xs xs ≡ false
unfolding before
before-not-self [] = refl
before-not-self (x ∷ xs) = rw (eq-eqb x x refl) (before-not-self xs)

-- the first bytes differ, or they are equal and the rest decides
before-cons : (x y : ℕ) (xs ys : List ℕ) → before (x ∷ xs) (y ∷ ys) ≡ true → (x < y) ⊎ ((x ≡ y) × (before xs ys ≡ true))
unfolding before
before-cons x y xs ys e = go (eqb x y) refl e
  where
    go : (b : Bool) → eqb x y ≡ b → cond b (before xs ys) (ltb x y) ≡ true → (x < y) ⊎ ((x ≡ y) × (before xs ys ≡ true))
    go true q r = inr (eqb-true x y q, r)
    go false q r = inl (ltb-true x y r)

before-less : (x y : ℕ) (xs ys : List ℕ) → x < y → before (x ∷ xs) (y ∷ ys) ≡ true
unfolding before
before-less x y xs ys h = rw (ne_eqb x y (λ e. omega arith), lt-ltb x y h)

before-rest : (x y : ℕ) (xs ys : List ℕ) → x ≡ y → before xs ys ≡ true → before (x ∷ xs) (y ∷ ys) ≡ true
unfolding before
before-rest x y xs ys e h = rw (eq-eqb x y e) h

pub before-trans : (xs ys zs : List ℕ) → before xs ys ≡ true → before ys zs ≡ true → before xs zs ≡ true
unfolding before
before-trans [] [] zs p q = absurd (false≢true p)
before-trans [] (y ∷ ys) [] p q = absurd (false≢true q)
before-trans [] (y ∷ ys) (z ∷ zs) p q = refl
before-trans (x ∷ xs) [] zs p q = absurd (false≢true p)
before-trans (x ∷ xs) (y ∷ ys) [] p q = absurd (false≢true q)
before-trans (x ∷ xs) (y ∷ ys) (z ∷ zs) p q =
    ⊎_elim
    (λ (a : x < y).
    ⊎_elim (λ (b : y < z). before-less x z xs zs (omega arith)) (λ b. before-less x z xs zs (omega arith)) (before-cons y z ys zs q))
    (λ (a : (x ≡ y) × (before xs ys ≡ true)).
    ⊎_elim (λ (b : y < z). before-less x z xs zs (omega arith))
    (λ (b : (y ≡ z) × (before ys zs ≡ true)). before-rest x z xs zs (a.0 ∙ b.0) (before-trans xs ys zs a.1 b.1))
    (before-cons y z ys zs q))
    (before-cons x y xs ys p)

-- of two lists one comes before the other, unless they are the same
pub before-or : (xs ys : List ℕ) → same xs ys ≡ false → before xs ys ≡ false → before ys xs ≡ true
unfolding before same_by
before-or [] [] s b = absurd (true≢false s)
before-or [] (y ∷ ys) s b = absurd (true≢false b)
before-or (x ∷ xs) [] s b = refl
before-or (x ∷ xs) (y ∷ ys) s b = go (eqb x y) refl s b (before-or xs ys)
  where
    go : (t : Bool) → eqb x y ≡ t → cond t (same xs ys) false ≡ false → cond t (before xs ys) (ltb x y) ≡ false →
        (same xs ys ≡ false → before xs ys ≡ false → before ys xs ≡ true) → cond (eqb y x) (before ys xs) (ltb y x) ≡ true
    go true q s b rest = rw (eq-eqb y x (sym (eqb-true x y q))) (rest s b)
    go false q s b rest =
        let n : y ≡ x → ⊥ = λ e. eqb-false x y q (sym e) in
        rw (ne_eqb y x n) (lt-ltb y x (lt_of_le-ne (ltb-false x y b) n))

pub before_on : (xs ys : List ℕ) (i : ℕ) → i < length xs → i < length ys →
    before (drop i xs) (drop i ys)
    ≡ cond (eqb (get_or xs i 0) (get_or ys i 0)) (before (drop (suc i) xs) (drop (suc i) ys)) (ltb (get_or xs i 0) (get_or ys i 0))
unfolding before
before_on xs ys i h k = rw (drop-cons xs i 0 h, drop-cons ys i 0 k)

-- the second ends first
pub before-short : (xs ys : List ℕ) (i : ℕ) → i < length xs → length ys ≤ i → before (drop i xs) (drop i ys) ≡ false
unfolding before
before-short xs ys i h k = rw (drop-cons xs i 0 h, drop_of_length-le ys k)

-- the first ends: it comes before unless the second ends too
pub before-over : (xs ys : List ℕ) (i : ℕ) → length xs ≤ i → before (drop i xs) (drop i ys) ≡ ltb i (length ys)
unfolding before
before-over xs ys i h = rw (drop_of_length-le xs h) (rest ys i)
  where
    rest : (ys : List ℕ) (i : ℕ) → before [] (drop i ys) ≡ ltb i (length ys)
    rest [] zero = refl
    rest [] (suc i) = sym (le-ltb (suc i) 0 (omega arith))
    rest (y ∷ ys) zero = sym (lt-ltb 0 (suc (length ys)) (omega arith))
    rest (y ∷ ys) (suc i) = rest ys i ∙ sym (leb-suc-suc (suc i) (length ys))

-- ---- ascending names

pub ascending-first : (a : List ℕ) (ps : List Pair) → ascending a ps ≡ true →
    (d : Pair) (i : ℕ) → i < length ps → before a (get_or ps i d).name ≡ true
unfolding ascending
ascending-first a [] e d i h = absurd (not-suc-le-zero h)
ascending-first a (p ∷ ps) e d zero h = (cond_both (before a p.name) (ascending p.name ps) e).0
ascending-first a (p ∷ ps) e d (suc i) h =
    let t = cond_both (before a p.name) (ascending p.name ps) e in
    before-trans a p.name (get_or ps i d).name t.0 (ascending-first p.name ps t.1 d i (le_of_suc-le-suc h))

pub ascending-later : (a : List ℕ) (ps : List Pair) → ascending a ps ≡ true →
    (d : Pair) (i j : ℕ) → i < j → j < length ps → before (get_or ps i d).name (get_or ps j d).name ≡ true
unfolding ascending
ascending-later a [] e d i j h k = absurd (not-suc-le-zero k)
ascending-later a (p ∷ ps) e d i zero h k = absurd (not-suc-le-zero h)
ascending-later a (p ∷ ps) e d zero (suc j) h k =
    ascending-first p.name ps (cond_both (before a p.name) (ascending p.name ps) e).1 d j (le_of_suc-le-suc k)
ascending-later a (p ∷ ps) e d (suc i) (suc j) h k =
    let t = cond_both (before a p.name) (ascending p.name ps) e in
    ascending-later p.name ps t.1 d i j (le_of_suc-le-suc h) (le_of_suc-le-suc k)
