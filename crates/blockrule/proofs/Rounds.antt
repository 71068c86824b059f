-- The rounds and the final sums, each by the turns of its loop: FIPS 180-4 §6.2.2 and §6.4.2, steps 3 and 4.
-- Main statements: `turn-all`, the letters after all rounds, and `join-all`, each letter with its chaining word.
use Prim.Native.Nat.{ℕ, zero, suc, ◌+◌, ◌%◌, ◌≤◌, ◌<◌}
use mathlib.Core.List.{List, [], ◌∷◌, ◌++◌, zip_with, append-nil}
use mathlib.Core.Path.{◌≡◌, refl, ap, ◌∙◌}
use native.Mathlib.Nat.{not-suc-le-zero, le_of_suc-le-suc, suc_inj, suc-ne-zero}
use native.Mathlib.Numerals.{add-one}
use native.Mathlib.Omega.{arith}
use lib.ListN.{length, get_or, set, take, drop, drop_of_length-le}
use lib.Seq.{take_all}
use Rattle.fips.specs.Words.{Width}
use Rattle.fips.specs.Block.{round, rounds}

-- s is the letters after t of n rounds on h, eight at a time
pub record Turned (p : Width) (n : ℕ) (K W h s : List ℕ) (t : ℕ) : Type 0 where
  pub within : t ≤ n
  pub eights : t % 8 ≡ 0
  pub letters : s ≡ rounds p K W t h

module _ (p : Width) (K W h : List ℕ) where
  turn_at : {s r : List ℕ} (i j : ℕ) → j ≡ suc i → r ≡ round p (get_or K i 0) (get_or W i 0) s → s ≡ rounds p K W i h → r ≡ rounds p K W j h
  unfolding rounds
  turn_at i j e q l = rw (e, q, l)

module _ {p : Width} {n : ℕ} {K W h : List ℕ} where
  pub turn-none : Turned p n K W h h 0
  unfolding rounds
  turn-none = record { within = omega arith; eights = refl; letters = refl }

  pub turn_more : {s s1 s2 s3 s4 s5 s6 s7 r : List ℕ} {t : ℕ} → t < n → n % 8 ≡ 0
      → s1 ≡ round p (get_or K t 0) (get_or W t 0) s
      → s2 ≡ round p (get_or K (t + 1) 0) (get_or W (t + 1) 0) s1
      → s3 ≡ round p (get_or K (t + 2) 0) (get_or W (t + 2) 0) s2
      → s4 ≡ round p (get_or K (t + 3) 0) (get_or W (t + 3) 0) s3
      → s5 ≡ round p (get_or K (t + 4) 0) (get_or W (t + 4) 0) s4
      → s6 ≡ round p (get_or K (t + 5) 0) (get_or W (t + 5) 0) s5
      → s7 ≡ round p (get_or K (t + 6) 0) (get_or W (t + 6) 0) s6
      → r ≡ round p (get_or K (t + 7) 0) (get_or W (t + 7) 0) s7
      → Turned p n K W h s t → Turned p n K W h r (t + 8)
  turn_more {t = t} k d e1 e2 e3 e4 e5 e6 e7 e8 l =
      let l1 = turn_at p K W h t (t + 1) (omega arith) e1 l.letters in
      let l2 = turn_at p K W h (t + 1) (t + 2) (omega arith) e2 l1 in
      let l3 = turn_at p K W h (t + 2) (t + 3) (omega arith) e3 l2 in
      let l4 = turn_at p K W h (t + 3) (t + 4) (omega arith) e4 l3 in
      let l5 = turn_at p K W h (t + 4) (t + 5) (omega arith) e5 l4 in
      let l6 = turn_at p K W h (t + 5) (t + 6) (omega arith) e6 l5 in
      let l7 = turn_at p K W h (t + 6) (t + 7) (omega arith) e7 l6 in
      record { within = omega arith; eights = omega arith; letters = turn_at p K W h (t + 7) (t + 8) (omega arith) e8 l7 }

  pub turn-all : {s : List ℕ} {t : ℕ} → n ≤ t → Turned p n K W h s t → s ≡ rounds p K W n h
  turn-all {t = t} k l =
      let e : t ≡ n = omega arith in
      rw e at l.letters

pub length-rounds : (p : Width) (K W : List ℕ) (t : ℕ) (s : List ℕ) → length s ≡ 8 → length (rounds p K W t s) ≡ 8
unfolding rounds round
length-rounds p K W zero s e = e
length-rounds p K W (suc t) s e = refl

-- ---- two rows put together place by place

module _ (f : ℕ → ℕ → ℕ) where
  -- the first i places are done, the others are the first row's
  pub partly : ℕ → List ℕ → List ℕ → List ℕ
  partly i s h = zip_with f (take i s) (take i h) ++ drop i s

  partly-suc : (i : ℕ) (s h : List ℕ) → i < length s → i < length h
      → set (partly i s h) i (f (get_or (partly i s h) i 0) (get_or h i 0)) ≡ partly (suc i) s h
  unfolding partly zip_with
  partly-suc i [] h k l = absurd (not-suc-le-zero k)
  partly-suc i (x ∷ s) [] k l = absurd (not-suc-le-zero l)
  partly-suc zero (x ∷ s) (y ∷ h) k l = refl
  partly-suc (suc i) (x ∷ s) (y ∷ h) k l =
      ap (λ (r : List ℕ). f x y ∷ r) (partly-suc i s h (le_of_suc-le-suc k) (le_of_suc-le-suc l))

  partly-all : (i : ℕ) (s h : List ℕ) → length s ≡ i → length h ≡ i → partly i s h ≡ zip_with f s h
  unfolding partly
  partly-all i s h d e =
      rw (take_all i s (omega arith), take_all i h (omega arith), drop_of_length-le s {i = i} (omega arith), append-nil)

  -- r has the first i of n places done
  pub record Joined (n : ℕ) (s h r : List ℕ) (i : ℕ) : Type 0 where
    pub within : i ≤ n
    pub first : length s ≡ n
    pub second : length h ≡ n
    pub row : r ≡ partly i s h

module _ {f : ℕ → ℕ → ℕ} {n : ℕ} {s h : List ℕ} where
  pub join-none : length s ≡ n → length h ≡ n → Joined f n s h s 0
  unfolding partly zip_with
  join-none d e = record { within = omega arith; first = d; second = e; row = refl }

  pub join_more : {r : List ℕ} {i x : ℕ} → i < n → x ≡ f (get_or r i 0) (get_or h i 0) → Joined f n s h r i
      → Joined f n s h (set r i x) (i + 1)
  join_more {i = i} k e l =
      rw add-one
      (record {
        within = k;
        first = l.first;
        second = l.second;
        row = rw (← (partly-suc f i s h (omega arith) (omega arith)), e, l.row);
      })

  pub join-all : {r : List ℕ} {i : ℕ} → n ≤ i → Joined f n s h r i → r ≡ zip_with f s h
  join-all {i = i} k l = l.row ∙ partly-all f i s h (omega arith) (omega arith)

module _ (f : ℕ → ℕ → ℕ) where
  pub length-zip : (s h : List ℕ) → length s ≡ length h → length (zip_with f s h) ≡ length s
  unfolding zip_with
  length-zip [] h e = refl
  length-zip (x ∷ s) [] e = absurd (suc-ne-zero (length s) e)
  length-zip (x ∷ s) (y ∷ h) e = ap suc (length-zip s h (suc_inj e))

  -- each place is a value of f, or past the end
  pub zip-lt : (b : ℕ) → 0 < b → ((x y : ℕ) → f x y < b) → (s h : List ℕ) (i : ℕ) → get_or (zip_with f s h) i 0 < b
  unfolding zip_with
  zip-lt b z q [] h i = z
  zip-lt b z q (x ∷ s) [] i = z
  zip-lt b z q (x ∷ s) (y ∷ h) zero = q x y
  zip-lt b z q (x ∷ s) (y ∷ h) (suc i) = zip-lt b z q s h i
