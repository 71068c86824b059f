-- How a call's outcome is made of those of its parts: `stopped` by the first tests, `went_on` past them; a part that refuses,
-- `part-refused`, or is done, `done_first` and `done-leaves`, by its number `zero-first` and `zero-leaves`. An answer that is an error
-- refuses: `refuses`. What a `?` hands on: `passed-on` and those below it.
use Prim.Native.Nat.{ℕ, zero, suc, ◌<◌}
use mathlib.Core.List.{List, ◌++◌}
use mathlib.Core.Path.{◌≡◌, refl, sym, ap, ◌∙◌}
use native.Mathlib.Omega.{arith}
use lib.Dec.{T, lt→ltb, ltb→lt}
use Rattle.std.specs.Prelude.{Result, Ok, Err, IsErrAnd}
use Rattle.answers.specs.declared.Refusal.{Refusal}
use Rattle.answers.specs.Judged.{Test, Judged, first, after, handed}
use Rattle.answers.specs.Numbers.{number_of, refusal_number}
use Rattle.answers.proofs.Outcome.{refused, refusing-number}
use Rattle.answers.proofs.Tests.{refusing, passed, first_on, first_off}

-- ---- an answer that is a refusal

pub refuses : {A : Type 0} (a : Result A Refusal) (r : Refusal) → a ≡ Err r → 0 < number_of a
refuses a r e = rw e (ltb→lt 0 (refusal_number r) (refusing-number r))

-- ---- two lists of tests

module _ {A : Type 0} {old new : A} {n : ℕ} {left : A} (ts us : List Test) where
  -- the first list refuses
  pub stopped : n ≡ first ts → 0 < n → left ≡ old → Judged (ts ++ us) old new n left
  stopped e p l = refused (first_off ts us (omega arith) ∙ sym e) (lt→ltb 0 n p) l

  -- the second decides
  pub went_on : T (refusing ts) → first ts ≡ 0 → Judged us old new n left → Judged (ts ++ us) old new n left
  went_on p e j =
      let same : first (ts ++ us) ≡ first us = first_on ts us (passed ts p e) in
      record { answer = j.answer ∙ sym same; leaves = rw same j.leaves }

-- ---- a `?` that hands on the refusal which it met

module _ {B : Type 0} (r : Result B Refusal) (e : Refusal) (is : IsErrAnd r (λ y. y ≡ e)) where
  pub passed-on : r ≡ Err e
  passed-on = go r is
    where
      go : (r : Result B Refusal) → IsErrAnd r (λ y. y ≡ e) → r ≡ Err e
      go (Ok b) h = absurd h
      go (Err y) h = ap Err h

  -- where that refusal is the first, what was lent is as it was
  pub passed-keeps : {A : Type 0} {ts : List Test} {old new : A} → refusal_number e ≡ first ts → Judged ts old new (number_of r) old
  passed-keeps n =
      refused (sym (ap number_of passed-on ∙ n)) (rw passed-on (refusing-number e)) refl

  pub passed-judged : {ts : List Test} {old new : B} → refusal_number e ≡ first ts → Judged ts old new (number_of r) (handed old r)
  passed-judged {old = old} n = record { answer = ap number_of passed-on ∙ n; leaves = ap (handed old) passed-on ∙ (passed-keeps n).leaves }

  pub passed-stops : {A : Type 0} (ts us : List Test) {old new : A} → refusal_number e ≡ first ts →
      Judged (ts ++ us) old new (number_of r) old
  passed-stops ts us n = stopped ts us (ap number_of passed-on ∙ n) (refuses r e passed-on) refl

  pub passed-first : (ts us : List Test) → refusal_number e ≡ first ts → number_of r ≡ first (ts ++ us)
  passed-first ts us n =
      let stops : Judged {A = ℕ} (ts ++ us) 0 0 (number_of r) 0 = passed-stops ts us n in
      stops.answer

-- ---- the outcome of a part

module _ {A B : Type 0} {o n l : A} {old new left : B} {ts : List Test} {r : ℕ} where
  -- where a part refuses, the call refuses with it
  pub part-refused : Judged ts o n r l → 0 < r → left ≡ old → Judged ts old new r left
  part-refused j p e = refused (sym j.answer) (lt→ltb 0 r p) e

pub zero-first : {A : Type 0} {o n l : A} {ts : List Test} {r : ℕ} → Judged ts o n r l → r ≡ 0 → first ts ≡ 0
zero-first j e = sym j.answer ∙ e

pub zero-leaves : {A : Type 0} {o n l : A} {ts : List Test} {r : ℕ} → Judged ts o n r l → r ≡ 0 → l ≡ n
zero-leaves j e = j.leaves ∙ rw (zero-first j e)

pub done_first : {A : Type 0} {o n l : A} {ts : List Test} {B : Type 0} {r : Result B Refusal} {b : B} →
    Judged ts o n (number_of r) l → r ≡ Ok b → first ts ≡ 0
done_first j d = zero-first j (ap number_of d)

pub done-leaves : {A : Type 0} {o n l : A} {ts : List Test} {B : Type 0} {r : Result B Refusal} {b : B} →
    Judged ts o n (number_of r) l → r ≡ Ok b → l ≡ n
done-leaves j d = zero-leaves j (ap number_of d)

pub kept-old : {A : Type 0} (k : ℕ) (o n : A) → 0 < k → after k o n ≡ o
kept-old zero o n p = absurd (omega arith)
kept-old (suc k) o n p = refl

pub refused-leaves : {A : Type 0} {o n l : A} {ts : List Test} {r : ℕ} → Judged ts o n r l → 0 < r → l ≡ o
refused-leaves {o = o} {n = n} {ts = ts} j p = j.leaves ∙ kept-old (first ts) o n (rw j.answer at p)

-- the same with what was lent beside it
after_map : {A B : Type 0} (f : A → B) (k : ℕ) (o n : A) → f (after k o n) ≡ after k (f o) (f n)
after_map f zero o n = refl
after_map f (suc k) o n = refl

pub judged-map : {A B : Type 0} {o n l : A} {ts : List Test} {r : ℕ} (f : A → B) → Judged ts o n r l → Judged ts (f o) (f n) r (f l)
judged-map {o = o} {n = n} {ts = ts} f j = record { answer = j.answer; leaves = ap f j.leaves ∙ after_map f (first ts) o n }
