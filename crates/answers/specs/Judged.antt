-- How a call is judged: SPEC, "Calls and their numbers".
-- A call's refusals are a list of tests; by `Judged` the earliest that holds is the answer, and decides what is left of what was lent.
use Rattle.std.specs.Prelude.{◌≡◌, Bool, cond, List, [], ◌∷◌, ℕ, zero, suc, Result, Ok, Err}
use Rattle.answers.specs.declared.Refusal.{Refusal}

-- one reason to refuse: its number, and whether it applies
pub record Test : Type 0 where
  pub number : ℕ
  pub applies : Bool

infix 68 ◌when◌
-- `5 when not (known e)`: refuse with 5 where e is not known
abbrev pub ◌when◌ : ℕ → Bool → Test
n when b = record { number = n; applies = b }

-- the number of the earliest test that applies; 0 where all are passed
unfoldable pub first : List Test → ℕ
first [] = 0
first (t ∷ ts) = cond t.applies t.number (first ts)

-- what a call with that number leaves of what it was lent: the old where it refuses, the new where it is done
abbrev pub after : {A : Type 0} → ℕ → A → A → A
after zero old new = new
after (suc n) old new = old

-- what is left where a call hands its result out: what it hands out, and the old where it refuses
abbrev pub handed : {A : Type 0} → A → Result A Refusal → A
handed old (Ok new) = new
handed old (Err r) = old

-- what the calls with an output are lent: the table's words and the output's bytes
pub record Lent : Type 0 where
  pub table : List ℕ
  pub output : List ℕ

abbrev pub lent : List ℕ → List ℕ → Lent
lent t o = record { table = t; output = o }

-- the outcome that the tests allow: the number n of the answer, and `left` of what was lent
pub record Judged {A : Type 0} (tests : List Test) (old new : A) (n : ℕ) (left : A) : Type 0 where
  pub answer : n ≡ first tests
  pub leaves : left ≡ after (first tests) old new
