-- What `Judged` settles: two outcomes that one statement allows coincide, `outcome-settled` and `answer-settled`, and as one equation
-- `number-both` and `answer-both`. The two ways to meet it: `refused` and `done`. An answer is known by its number: `number-injective`.
use mathlib.Core.Path.{◌≡◌, refl, sym, ◌∙◌, ap}
use mathlib.Core.List.{List, [], ◌∷◌}
use Prim.Native.Nat.{ℕ, zero, suc}
use lib.Dec.{T, ltb}
use lib.ListN.{get_or}
use Rattle.std.specs.Prelude.{Result, Ok, Err}
use Rattle.answers.specs.declared.Refusal.{Refusal}
use Rattle.answers.specs.Judged.{Test, Judged, first, after, handed}
use Rattle.answers.specs.Numbers.{Answer, number_of, refusal_number}

-- the answers in the order of their numbers
abbrev pub answers : List Answer
answers =
    Ok tt
    ∷ Err Refusal.BadTable ∷ Err Refusal.NoSuchBay ∷ Err Refusal.BayTaken ∷ Err Refusal.BayEmpty
    ∷ Err Refusal.NoSuchEdition ∷ Err Refusal.NotSound ∷ Err Refusal.TooLong ∷ Err Refusal.BadClosing
    ∷ Err Refusal.ShortOutput ∷ Err Refusal.BadRecord ∷ Err Refusal.BadLayout ∷ Err Refusal.NotAList
    ∷ Err Refusal.NotListed ∷ Err Refusal.DigestDiffers ∷ Err Refusal.ForbiddenName ∷ Err Refusal.NameTaken
    ∷ Err Refusal.ListFull ∷ []

pub answer_at : (a : Answer) → get_or answers (number_of a) (Ok tt) ≡ a
answer_at (Ok tt) = refl
answer_at (Err Refusal.BadTable) = refl
answer_at (Err Refusal.NoSuchBay) = refl
answer_at (Err Refusal.BayTaken) = refl
answer_at (Err Refusal.BayEmpty) = refl
answer_at (Err Refusal.NoSuchEdition) = refl
answer_at (Err Refusal.NotSound) = refl
answer_at (Err Refusal.TooLong) = refl
answer_at (Err Refusal.BadClosing) = refl
answer_at (Err Refusal.ShortOutput) = refl
answer_at (Err Refusal.BadRecord) = refl
answer_at (Err Refusal.BadLayout) = refl
answer_at (Err Refusal.NotAList) = refl
answer_at (Err Refusal.NotListed) = refl
answer_at (Err Refusal.DigestDiffers) = refl
answer_at (Err Refusal.ForbiddenName) = refl
answer_at (Err Refusal.NameTaken) = refl
answer_at (Err Refusal.ListFull) = refl

pub number-injective : (a b : Answer) → number_of a ≡ number_of b → a ≡ b
number-injective a b e = sym (answer_at a) ∙ ap (λ (n : ℕ). get_or answers n (Ok tt)) e ∙ answer_at b

-- a refusal's number is not 0
pub refusing-number : (r : Refusal) → T (ltb 0 (refusal_number r))
refusing-number Refusal.BadTable = tt
refusing-number Refusal.NoSuchBay = tt
refusing-number Refusal.BayTaken = tt
refusing-number Refusal.BayEmpty = tt
refusing-number Refusal.NoSuchEdition = tt
refusing-number Refusal.NotSound = tt
refusing-number Refusal.TooLong = tt
refusing-number Refusal.BadClosing = tt
refusing-number Refusal.ShortOutput = tt
refusing-number Refusal.BadRecord = tt
refusing-number Refusal.BadLayout = tt
refusing-number Refusal.NotAList = tt
refusing-number Refusal.NotListed = tt
refusing-number Refusal.DigestDiffers = tt
refusing-number Refusal.ForbiddenName = tt
refusing-number Refusal.NameTaken = tt
refusing-number Refusal.ListFull = tt

pub refusal-injective : (r s : Refusal) → refusal_number r ≡ refusal_number s → r ≡ s
refusal-injective r s e = error-of (number-injective (Err r) (Err s) e)
  where
    error-of : {A : Type 0} {r s : Refusal} → ◌≡◌ {A = Result A Refusal} (Err r) (Err s) → r ≡ s
    error-of e = cc

pub outcome-settled : {A : Type 0} {tests : List Test} {old new : A} {n m : ℕ} {left also : A} →
    Judged tests old new n left → Judged tests old new m also → (n ≡ m) × (left ≡ also)
outcome-settled j k = (j.answer ∙ sym k.answer, j.leaves ∙ sym k.leaves)

-- the same of a call that answers an `Answer`
pub answer-settled : {A : Type 0} {tests : List Test} {old new : A} (r s : Answer) {left also : A} →
    Judged tests old new (number_of r) left → Judged tests old new (number_of s) also → (r ≡ s) × (left ≡ also)
answer-settled r s j k =
    let o = outcome-settled j k in
    (number-injective r s o.0, o.1)

-- both as one equation of all that is shown: of a number and what is left, of an answer and what is left
pub number-both : {A : Type 0} {tests : List Test} {old new : A} {n m : ℕ} {left also : A} →
    Judged tests old new n left → Judged tests old new m also → ◌≡◌ {A = ℕ × A} (n, left) (m, also)
number-both j k =
    let o = outcome-settled j k in
    λ i. (o.0 i, o.1 i)

pub answer-both : {A : Type 0} {tests : List Test} {old new : A} {r s : Answer} {left also : A} →
    Judged tests old new (number_of r) left → Judged tests old new (number_of s) also → ◌≡◌ {A = Answer × A} (r, left) (s, also)
answer-both {r = r} {s = s} j k =
    let o = answer-settled r s j k in
    λ i. (o.0 i, o.1 i)

-- the same of a call that hands its result out
pub handed-settled : {A : Type 0} {tests : List Test} {old new : A} (r s : Result A Refusal) →
    Judged tests old new (number_of r) (handed old r) → Judged tests old new (number_of s) (handed old s) → r ≡ s
handed-settled (Ok a) (Ok b) j k = ap Ok (j.leaves ∙ sym k.leaves)
handed-settled (Ok a) (Err s) j k = absurd (rw (sym (j.answer ∙ sym k.answer)) at (refusing-number s))
handed-settled (Err r) (Ok b) j k = absurd (rw (j.answer ∙ sym k.answer) at (refusing-number r))
handed-settled (Err r) (Err s) j k = ap Err (refusal-injective r s (j.answer ∙ sym k.answer))

-- an answer of which the number is said
pub answer-numbered : {n : ℕ} {r s : Answer} → number_of r ≡ n → number_of s ≡ n → r ≡ s
answer-numbered {r = r} {s = s} p q = number-injective r s (p ∙ sym q)

keeps-old : {A : Type 0} (n : ℕ) (old new : A) → T (ltb 0 n) → after n old new ≡ old
keeps-old zero old new t = absurd t
keeps-old (suc n) old new t = refl

-- a refusal: the tests give the number, which is not 0, and the old is left
pub refused : {A : Type 0} {tests : List Test} {old new : A} {n : ℕ} {left : A} →
    first tests ≡ n → T (ltb 0 n) → left ≡ old → Judged tests old new n left
refused {old = old} {new = new} {n = n} e t l = record { answer = sym e; leaves = l ∙ rw (e, keeps-old n old new t) }

-- no test applies, and the new is left
pub done : {A : Type 0} {tests : List Test} {old new : A} {left : A} → first tests ≡ 0 → left ≡ new → Judged tests old new 0 left
done e l = record { answer = sym e; leaves = l ∙ rw e }
