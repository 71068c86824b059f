-- Tests on lists, and the facts that they tell: laws of `holds`, `every` and `same`, and of the loops that ask them.
use Prim.Native.Nat.{ℕ, zero, suc, ◌<◌, ◌≤◌}
use mathlib.Core.Bool.{Bool, true, false, cond, ◌&&◌, false≢true}
use mathlib.Core.List.{List, [], ◌∷◌}
use mathlib.Core.Logic.{◌⊎◌, inl, inr}
use mathlib.Core.Path.{◌≡◌, refl, sym, ap, ap₂, ◌∙◌}
use native.Mathlib.Nat.{not-suc-le-zero, le_of_suc-le-suc}
use native.Mathlib.Omega.{arith}
use lib.Dec.{ltb, eqb}
use lib.ListN.{length, get_or, drop, replicate, drop_of_length-le}
use lib.Seq.{drop-cons}
use borrow.Author.Tests.{lt-ltb, ltb-true, eq-eqb, eqb-true}
use Rattle.std.specs.Bool.{MatchBool}
use Rattle.std.specs.List.{AllWithin, HoldsAt}
use Rattle.slices.specs.Below.{Below}
use Rattle.slices.specs.Tests.{holds, every, all_below, all_zero, same, same_by}
use Rattle.slices.proofs.Below.{below-nil, below-cons}

-- ---- two conditions

pub cond_both : (a b : Bool) → cond a b false ≡ true → (a ≡ true) × (b ≡ true)
cond_both true b e = (refl, e)
cond_both false b e = absurd (false≢true e)

cond-not : (a b : Bool) → b ≡ false → cond a b false ≡ false
cond-not true b e = e
cond-not false b e = refl

is_false : (b : Bool) → (b ≡ true → ⊥) → b ≡ false
is_false true h = absurd (h refl)
is_false false h = refl

-- two conditions that follow from each other
pub tests_agree : (a b : Bool) → (a ≡ true → b ≡ true) → (b ≡ true → a ≡ true) → a ≡ b
tests_agree true b f g = sym (f refl)
tests_agree false b f g = sym (is_false b (λ e. false≢true (g e)))

-- ---- conjunctions: past the end there is no test that fails

pub holds_at : (bs : List Bool) → holds bs ≡ true → (i : ℕ) → get_or bs i true ≡ true
unfolding holds
holds_at [] e i = refl
holds_at (b ∷ bs) e zero = (cond_both b (holds bs) e).0
holds_at (b ∷ bs) e (suc i) = holds_at bs (cond_both b (holds bs) e).1 i

pub at-holds : (bs : List Bool) → ((i : ℕ) → get_or bs i true ≡ true) → holds bs ≡ true
unfolding holds
at-holds [] h = refl
at-holds (b ∷ bs) h = rw (h 0) (at-holds bs (λ i. h (suc i)))

pub fails-at : (bs : List Bool) (i : ℕ) → get_or bs i true ≡ false → holds bs ≡ false
unfolding holds
fails-at [] i e = e
fails-at (b ∷ bs) zero e = rw e
fails-at (b ∷ bs) (suc i) e = cond-not b (holds bs) (fails-at bs i e)

pub holds_on : (b : Bool) (bs : List Bool) → b ≡ true → holds (b ∷ bs) ≡ holds bs
unfolding holds
holds_on b bs e = rw e

pub holds-last : (b : Bool) → holds (b ∷ []) ≡ b
unfolding holds
holds-last true = refl
holds-last false = refl

-- ---- every element

module _ {A : Type 0} (p : A → Bool) (d : A) where
  pub every-at : (xs : List A) → every p xs ≡ true → (i : ℕ) → i < length xs → p (get_or xs i d) ≡ true
  unfolding every
  every-at [] e i h = absurd (not-suc-le-zero h)
  every-at (x ∷ xs) e zero h = (cond_both (p x) (every p xs) e).0
  every-at (x ∷ xs) e (suc i) h = every-at xs (cond_both (p x) (every p xs) e).1 i (le_of_suc-le-suc h)

  pub at_every : (xs : List A) → ((i : ℕ) → i < length xs → p (get_or xs i d) ≡ true) → every p xs ≡ true
  unfolding every
  at_every [] h = refl
  at_every (x ∷ xs) h = rw (h 0 (omega arith)) (at_every xs (λ i k. h (suc i) (omega arith)))

-- what an iterator finds of all is what the test says
pub every-found : (p : ℕ → Bool) (xs : List ℕ) (r : Bool) →
    MatchBool r (AllWithin (λ x. p x ≡ true) xs 0 (length xs)) ((k : ℕ) × (k < length xs) × HoldsAt (λ x. p x ≡ false) xs k) →
    r ≡ every p xs
every-found p xs true all = sym (at_every p 0 xs (λ i h. all i 0 (omega arith) h))
every-found p xs false one = go (every p xs) refl
  where
    go : (b : Bool) → every p xs ≡ b → false ≡ b
    go true e = sym (one.2 0) ∙ every-at p 0 xs e one.0 one.1
    go false e = refl

pub and-true : (b : Bool) → (b && true) ≡ b
and-true true = refl
and-true false = refl

and-cond : (a b c : Bool) → (a && cond b c false) ≡ ((a && b) && c)
and-cond true true c = refl
and-cond true false c = refl
and-cond false b c = refl

-- the loop: what is left from i decides
module _ (p : ℕ → Bool) (xs : List ℕ) (i : ℕ) where
  pub every-turn : i < length xs → p (get_or xs i 0) ≡ true → every p (drop i xs) ≡ every p (drop (suc i) xs)
  unfolding every
  every-turn h e = rw (drop-cons xs i 0 h, e)

  pub every-stop : i < length xs → p (get_or xs i 0) ≡ false → every p (drop i xs) ≡ false
  unfolding every
  every-stop h e = rw (drop-cons xs i 0 h, e)

  pub every-end : length xs ≤ i → every p (drop i xs) ≡ true
  unfolding every
  every-end h = rw (drop_of_length-le xs {i = i} h)

-- the loop without a way out, over any elements: what was found so far, and what is left from i, decide
module _ {A : Type 0} (p : A → Bool) (xs : List A) (i : ℕ) where
  pub every-on : (b : Bool) (x : A) → i < length xs → x ≡ get_or xs i x →
      (b && every p (drop i xs)) ≡ ((b && p x) && every p (drop (suc i) xs))
  unfolding every
  every-on b x h e = rw (drop-cons xs i x h, ← e) (and-cond b (p x) (every p (drop (suc i) xs)))

  pub every-left : (b : Bool) → length xs ≤ i → (b && every p (drop i xs)) ≡ b
  unfolding every
  every-left b h = rw (drop_of_length-le xs {i = i} h) (and-true b)

-- ---- bounds, zeros

pub every-below : (p : ℕ → Bool) (m : ℕ) → 0 < m → ((x : ℕ) → p x ≡ true → x < m) → (xs : List ℕ) → every p xs ≡ true → Below m xs
unfolding every
every-below p m some f [] e = below-nil m some
every-below p m some f (x ∷ xs) e =
    let t = cond_both (p x) (every p xs) e in
    below-cons xs (f x t.0) (every-below p m some f xs t.1)

pub all_below-below : (m : ℕ) (xs : List ℕ) → 0 < m → all_below m xs ≡ true → Below m xs
all_below-below m xs some e = every-below (λ x. ltb x m) m some (λ x. ltb-true x m) xs e

pub below-all_below : (m : ℕ) (xs : List ℕ) → Below m xs → all_below m xs ≡ true
below-all_below m xs h = at_every (λ x. ltb x m) 0 xs (λ i k. lt-ltb (get_or xs i 0) m (h i))

pub all_zero-zeros : (xs : List ℕ) → all_zero xs ≡ true → xs ≡ replicate (length xs) 0
unfolding every
all_zero-zeros [] e = refl
all_zero-zeros (x ∷ xs) e =
    let t = cond_both (eqb x 0) (all_zero xs) e in
    ap₂ (λ (y : ℕ) (l : List ℕ). y ∷ l) (eqb-true x 0 t.0) (all_zero-zeros xs t.1)

pub zeros-all_zero : (n : ℕ) → all_zero (replicate n 0) ≡ true
unfolding every
zeros-all_zero zero = refl
zeros-all_zero (suc n) = zeros-all_zero n

-- ---- two lists

pub same_refl : (xs : List ℕ) → same xs xs ≡ true
unfolding same_by
same_refl [] = refl
same_refl (x ∷ xs) = rw (eq-eqb x x refl) (same_refl xs)

pub same-eq : (xs ys : List ℕ) → same xs ys ≡ true → xs ≡ ys
unfolding same_by
same-eq [] [] e = refl
same-eq [] (y ∷ ys) e = absurd (false≢true e)
same-eq (x ∷ xs) [] e = absurd (false≢true e)
same-eq (x ∷ xs) (y ∷ ys) e =
    let t = cond_both (eqb x y) (same xs ys) e in
    ap₂ (λ (z : ℕ) (l : List ℕ). z ∷ l) (eqb-true x y t.0) (same-eq xs ys t.1)

pub eq-same : (xs ys : List ℕ) → xs ≡ ys → same xs ys ≡ true
eq-same xs ys e = rw (← e) (same_refl xs)

pub same-apart : (xs ys : List ℕ) → (xs ≡ ys → ⊥) → same xs ys ≡ false
same-apart xs ys h = is_false (same xs ys) (λ e. h (same-eq xs ys e))

-- ---- two lists of any elements, by a test of two

module _ {A : Type 0} (eq : A → A → Bool) where
  -- of different lengths
  pub same_by-lengths : (xs ys : List A) → (length xs ≡ length ys → ⊥) → same_by eq xs ys ≡ false
  unfolding same_by
  same_by-lengths [] [] h = absurd (h refl)
  same_by-lengths [] (y ∷ ys) h = refl
  same_by-lengths (x ∷ xs) [] h = refl
  same_by-lengths (x ∷ xs) (y ∷ ys) h = cond-not (eq x y) (same_by eq xs ys) (same_by-lengths xs ys (λ e. h (ap suc e)))

  -- the loop: what was found so far, and what is left of both, decide
  pub record Compared (xs ys : List A) (found : Bool) (left right : List A) : Type 0 where
    pub long : length left ≡ length right
    pub decides : same_by eq xs ys ≡ (found && same_by eq left right)

  module _ {xs ys : List A} where
    pub compared-none : length xs ≡ length ys → Compared xs ys true xs ys
    compared-none e = record { long = e; decides = refl }

    pub compared-more : {b : Bool} {x y : A} {left right : List A} → Compared xs ys b (x ∷ left) (y ∷ right) →
        Compared xs ys (b && eq x y) left right
    unfolding same_by
    compared-more {b} {x} {y} {left} {right} c =
        record { long = omega (arith, c.long); decides = c.decides ∙ and-cond b (eq x y) (same_by eq left right) }

    pub compared-all : (b : Bool) (left right : List A) → (left ≡ []) ⊎ (right ≡ []) → Compared xs ys b left right → b ≡ same_by eq xs ys
    unfolding same_by
    compared-all b [] [] e c = sym (c.decides ∙ and-true b)
    compared-all b [] (y ∷ right) e c = absurd (omega (arith, c.long))
    compared-all b (x ∷ left) [] e c = absurd (omega (arith, c.long))
    compared-all b (x ∷ left) (y ∷ right) (inl e) c = absurd (omega (arith, ap length e))
    compared-all b (x ∷ left) (y ∷ right) (inr e) c = absurd (omega (arith, ap length e))
