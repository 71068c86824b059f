-- The primes in order: SPEC, "Constants, by rule". `is_prime` tests for a prime, and `primes_below n` has the primes below n in order;
-- so `prime-at`: the entry at each place of `primes` is the prime of that place, and `place-unique`: there is no other.
use mathlib.Core.Path.{◌≡◌, refl, sym, ◌∙◌}
use mathlib.Core.Bool.{Bool, true, false, ◌&&◌, ◌||◌, not, cond, and-eq-true_iff, true≢false}
use mathlib.Core.List.{List, [], ◌∷◌, ◌++◌, append-nil}
use mathlib.Core.Logic.{◌≢◌, ◌⊎◌, inl, inr}
use Prim.Native.Nat.{ℕ, zero, suc, ◌-◌, ◌%◌, ◌≤◌, ◌<◌, zero-le}
use native.Mathlib.Nat.{mod-zero, mod-eq_of_lt, le_trans, le_antisymm, le_of_lt, le_of_suc-le-suc, not-suc-le-zero, eq-or-lt_of_le}
use native.Mathlib.Nat.{not-le_of_lt, lt_of_not-le, lt_irrefl}
use native.Mathlib.Numerals.{add-one}
use native.Mathlib.Omega.{arith}
use lib.Dec.{ltb, eqb}
use lib.ListN.{length, get_or, take, length-append, get_or-append}
use lib.Seq.{get_or-append_seam, get_or-take, length-take-le}
use borrow.Author.Tests.{ltb-true, ltb-false, eqb-true, eqb-false, not-true, lt-ltb, le-ltb, ne_eqb}
use Rattle.fips.specs.Primes.{Prime, PrimesBelow, PrimeAt, undivided, is_prime, primes_below, primes}

lt-or-ge : (m n : ℕ) → (m < n) ⊎ (n ≤ m)
lt-or-ge m n = go (ltb m n) refl
  where
    go : (b : Bool) → ltb m n ≡ b → (m < n) ⊎ (n ≤ m)
    go true q = inl (ltb-true m n q)
    go false q = inr (ltb-false m n q)

-- ---- the test

module _ (n k : ℕ) where
  passes : Bool
  passes = ltb k 2 || not (eqb (n % k) 0)

  passes-undivided : 1 < k → passes ≡ true → n % k ≢ 0
  unfolding passes
  passes-undivided above q = eqb-false (n % k) 0 (not-true (eqb (n % k) 0) (rw (le-ltb k 2 above) at q))

  undivided-passes : (1 < k → n % k ≢ 0) → passes ≡ true
  unfolding passes
  undivided-passes h =
      elim (lt-or-ge k 2) [ inl below ↦ rw (lt-ltb k 2 below) | inr above ↦ rw (le-ltb k 2 above, ne_eqb (n % k) 0 (h above)) ]

undivided-by : (n k : ℕ) → undivided n k ≡ true → (d : ℕ) → d < k → 1 < d → n % d ≢ 0
unfolding undivided passes
undivided-by n zero q d below above = absurd (not-suc-le-zero below)
undivided-by n (suc k) q d below above =
    let both : (undivided n k ≡ true) × (passes n k ≡ true) = (and-eq-true_iff (undivided n k) (passes n k)).0 q in
    elim (eq-or-lt_of_le (le_of_suc-le-suc below)) [
      | inl same ↦ rw same (passes-undivided n k (rw same at above) both.1)
      | inr less ↦ undivided-by n k both.0 d less above
    ]

by-undivided : (n k : ℕ) → ((d : ℕ) → d < k → 1 < d → n % d ≢ 0) → undivided n k ≡ true
unfolding undivided passes
by-undivided n zero h = refl
by-undivided n (suc k) h =
    (and-eq-true_iff (undivided n k) (passes n k)).1
    (by-undivided n k (λ d below. h d (omega arith)), undivided-passes n k (h k (omega arith)))

pub is_prime-prime : (n : ℕ) → is_prime n ≡ true → Prime n
unfolding is_prime
is_prime-prime n q = record { above = above; only = only }
  where
    above : 1 < n
    above = ltb-true 1 n ((and-eq-true_iff (ltb 1 n) (undivided n n)).0 q).0

    none : (d : ℕ) → d < n → 1 < d → n % d ≢ 0
    none = undivided-by n n ((and-eq-true_iff (ltb 1 n) (undivided n n)).0 q).1

    large : (d : ℕ) → 1 < d → n % d ≡ 0 → d ≡ n
    large d h e =
        elim (lt-or-ge d n) [
          | inl less ↦ absurd (none d less h e)
          | inr more ↦
              elim (eq-or-lt_of_le more) [ inl same ↦ sym same | inr less ↦ absurd (omega (arith, above, e, mod-eq_of_lt less)) ]
        ]

    only : (d : ℕ) → n % d ≡ 0 → (d ≡ 1) ⊎ (d ≡ n)
    only zero e = inr (sym e ∙ mod-zero n)
    only (suc zero) e = inl refl
    only (suc (suc d)) e = inr (large (suc (suc d)) (omega arith) e)

pub prime-is_prime : (n : ℕ) → Prime n → is_prime n ≡ true
unfolding is_prime
prime-is_prime n r = (and-eq-true_iff (ltb 1 n) (undivided n n)).1 (lt-ltb 1 n r.above, by-undivided n n none)
  where
    none : (d : ℕ) → d < n → 1 < d → n % d ≢ 0
    none d below above e = elim (r.only d e) [ inl q ↦ omega arith | inr q ↦ omega arith ]

-- ---- the list

-- what holds of each entry, and of one more at the end, holds of each entry of both
each_snoc : (P : ℕ → ℕ → Type 0) (ps : List ℕ) (n : ℕ) → ((i : ℕ) → i < length ps → P i (get_or ps i 0)) → P (length ps) n
    → (i : ℕ) → i < length (ps ++ (n ∷ [])) → P i (get_or (ps ++ (n ∷ [])) i 0)
each_snoc P ps n old new i h =
    elim (eq-or-lt_of_le (le_of_suc-le-suc (rw (length-append, add-one) at h))) [
      | inl same ↦ rw (same, get_or-append_seam) new
      | inr less ↦ rw (get_or-append ps (n ∷ []) 0 i less) (old i less)
    ]

below-prime : (n : ℕ) (ps : List ℕ) → PrimesBelow n ps → Prime n → PrimesBelow (suc n) (ps ++ (n ∷ []))
below-prime n ps r q =
    record {
      prime = each_snoc (λ i x. Prime x) ps n r.prime q;
      below = each_snoc (λ i x. x < suc n) ps n (λ i h. le_trans (r.below i h) (omega arith)) (omega arith);
      ascending = λ i j h b. each_snoc Above ps n old (λ k g. rw (get_or-append ps (n ∷ []) 0 k g) (r.below k g)) j b i h;
      all = all;
    }
  where
    Above : ℕ → ℕ → Type 0
    Above j x = (i : ℕ) → i < j → get_or (ps ++ (n ∷ [])) i 0 < x

    old : (j : ℕ) → j < length ps → Above j (get_or ps j 0)
    old j b i h = rw (get_or-append ps (n ∷ []) 0 i (omega arith)) (r.ascending i j h b)

    all : (p : ℕ) → Prime p → p < suc n → (i : ℕ) × (i < length (ps ++ (n ∷ []))) × (get_or (ps ++ (n ∷ [])) i 0 ≡ p)
    all p h b =
        elim (eq-or-lt_of_le (le_of_suc-le-suc b)) [
          | inl same ↦ (length ps, rw length-append (omega arith), get_or-append_seam ps n [] 0 ∙ sym same)
          | inr less ↦
              let (i, g, e) = r.all p h less in (i, rw length-append (omega arith), get_or-append ps (n ∷ []) 0 i g ∙ e)
        ]

below-composite : (n : ℕ) (ps : List ℕ) → PrimesBelow n ps → (Prime n → ⊥) → PrimesBelow (suc n) ps
below-composite n ps r q =
    record {
      prime = r.prime;
      below = λ i h. le_trans (r.below i h) (omega arith);
      ascending = r.ascending;
      all = all;
    }
  where
    all : (p : ℕ) → Prime p → p < suc n → (i : ℕ) × (i < length ps) × (get_or ps i 0 ≡ p)
    all p h b = elim (eq-or-lt_of_le (le_of_suc-le-suc b)) [ inl same ↦ absurd (q (rw same at h)) | inr less ↦ r.all p h less ]

pub primes_below-in-order : (n : ℕ) → PrimesBelow n (primes_below n)
unfolding primes_below
primes_below-in-order zero =
    record {
      prime = λ i h. absurd (not-suc-le-zero h);
      below = λ i h. absurd (not-suc-le-zero h);
      ascending = λ i j g h. absurd (not-suc-le-zero h);
      all = λ p q h. absurd (not-suc-le-zero h);
    }
primes_below-in-order (suc n) = step (is_prime n) refl (primes_below-in-order n)
  where
    step : (b : Bool) → is_prime n ≡ b → PrimesBelow n (primes_below n) → PrimesBelow (suc n) (primes_below n ++ cond b (n ∷ []) [])
    step true q r = below-prime n (primes_below n) r (is_prime-prime n q)
    step false q r = rw append-nil (below-composite n (primes_below n) r (λ p. true≢false (sym (prime-is_prime n p) ∙ q)))

-- ---- places

module _ (n : ℕ) (ps : List ℕ) (r : PrimesBelow n ps) where
  -- the smaller entry stands first
  place-lt : (i j : ℕ) → i < length ps → get_or ps i 0 < get_or ps j 0 → i < j
  place-lt i j h l =
      lt_of_not-le
      (λ g. elim (eq-or-lt_of_le g) [
        | inl same ↦ lt_irrefl (get_or ps i 0) (rw same at l)
        | inr less ↦ not-le_of_lt l (le_of_lt (r.ascending j i less h))
      ])

  -- the entries before a prime of the list are the primes below it
  before-place : (i : ℕ) → i < length ps → PrimesBelow (get_or ps i 0) (take i ps)
  before-place i h =
      let size : length (take i ps) ≡ i = length-take-le i ps (omega arith) in
      record {
        prime = λ k b. rw (get_or-take i ps k 0 (omega arith)) (r.prime k (omega arith));
        below = λ k b. rw (get_or-take i ps k 0 (omega arith)) (r.ascending k i (omega arith) h);
        ascending =
            λ j k l b. rw (get_or-take i ps j 0 (omega arith), get_or-take i ps k 0 (omega arith)) (r.ascending j k l (omega arith));
        all =
            λ p q b.
            let (k, g, e) = r.all p q (omega (arith, r.below i h)) in
            let l : k < i = place-lt k i g (rw e b) in
            (k, omega arith, get_or-take i ps k 0 l ∙ e);
      }

pub entry_place : (n : ℕ) (ps : List ℕ) → PrimesBelow n ps → (i : ℕ) → i < length ps → PrimeAt i (get_or ps i 0)
entry_place n ps r i h =
    record { prime = r.prime i h; before = take i ps; those = before-place n ps r i h; count = length-take-le i ps (omega arith) }

-- a list of more primes has each prime at the same place, or a later one
module _ (n m : ℕ) (ps qs : List ℕ) (r : PrimesBelow n ps) (s : PrimesBelow m qs) (more : n ≤ m) where
  place-le : (i : ℕ) → i < length ps → (j : ℕ) → j < length qs → get_or qs j 0 ≡ get_or ps i 0 → i ≤ j
  place-le zero h j g e = zero-le
  place-le (suc i) h j g e =
      let (k, l, f) = s.all (get_or ps i 0) (r.prime i (omega arith)) (omega (arith, r.below i (omega arith))) in
      let before : k < j = place-lt m qs s k j l (omega (arith, r.ascending i (suc i) (omega arith) h)) in
      omega (arith, place-le i (omega arith) k l f)

-- of two primes, more primes are below the larger
count-lt : (p q : ℕ) (ps qs : List ℕ) → Prime p → PrimesBelow p ps → PrimesBelow q qs → p < q → length ps < length qs
count-lt p q ps qs h r s l =
    let (j, g, e) = s.all p h l in
    let more : PrimesBelow (suc p) (ps ++ (p ∷ [])) = below-prime p ps r h in
    let last : length ps < length (ps ++ (p ∷ [])) = rw length-append (omega arith) in
    omega (arith, place-le (suc p) q (ps ++ (p ∷ [])) qs more s l (length ps) last j g (e ∙ sym (get_or-append_seam ps p [] 0)))

place-ge : (i p q : ℕ) → PrimeAt i p → PrimeAt i q → q ≤ p
place-ge i p q a b =
    le_of_suc-le-suc
    (lt_of_not-le (λ (h : p < q). omega (arith, count-lt p q a.before b.before a.prime a.those b.those h)))

pub place-unique : (i p q : ℕ) → PrimeAt i p → PrimeAt i q → p ≡ q
place-unique i p q a b = le_antisymm (place-ge i q p b a) (place-ge i p q a b)

pub length-primes : length primes ≡ 80
unfolding primes primes_below is_prime undivided
length-primes = refl

pub prime-at : (i : ℕ) → i < 80 → PrimeAt i (get_or primes i 0)
unfolding primes
prime-at i h = entry_place 410 primes (primes_below-in-order 410) i (rw length-primes h)

-- ---- the four primes that SPEC, "Constants, by rule", names by their places

abbrev pub Named : List (ℕ × ℕ) → Type 0
Named [] = Unit
Named (row ∷ rows) = PrimeAt (row.0 - 1) row.1 × Named rows

abbrev agrees : List ℕ → ℕ → ℕ → Bool
agrees ps i p = ltb i 80 && eqb (get_or ps i 0) p

abbrev agree : List ℕ → List (ℕ × ℕ) → Bool
agree ps [] = true
agree ps (row ∷ rows) = agrees ps (row.0 - 1) row.1 && agree ps rows

agrees_at : (i p : ℕ) → agrees primes i p ≡ true → PrimeAt i p
agrees_at i p q =
    let (below, same) = (and-eq-true_iff (ltb i 80) (eqb (get_or primes i 0) p)).0 q in
    rw (eqb-true (get_or primes i 0) p same) at (prime-at i (ltb-true i 80 below))

agree-named : (rows : List (ℕ × ℕ)) → agree primes rows ≡ true → Named rows
agree-named [] q = tt
agree-named (row ∷ rows) q =
    let (here, rest) = (and-eq-true_iff (agrees primes (row.0 - 1) row.1) (agree primes rows)).0 q in
    (agrees_at (row.0 - 1) row.1 here, agree-named rows rest)

pub named-primes : Named ((8, 19) ∷ (16, 53) ∷ (64, 311) ∷ (80, 409) ∷ [])
unfolding primes primes_below is_prime undivided
named-primes = agree-named ((8, 19) ∷ (16, 53) ∷ (64, 311) ∷ (80, 409) ∷ []) refl
