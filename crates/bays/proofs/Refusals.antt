-- An empty bay is sound, so that 6 excludes 4 and 3: `vacant-alone` and `held-judged`. What the bay's words decide past the gate:
-- `taken-empty` and those below it.
use Prim.Native.Nat.{ℕ, ◌<◌}
use mathlib.Core.Bool.{true, false, not, Bool, cond}
use native.Mathlib.Omega.{arith}
use mathlib.Core.List.{List, [], ◌∷◌, ◌++◌}
use mathlib.Core.Path.{◌≡◌, refl, sym, ◌∙◌, ap}
use Rattle.std.specs.Prelude.{Result, Err}
use Rattle.std.specs.Result.{IsErrAnd}
use Rattle.answers.specs.declared.Refusal.{Refusal}
use Rattle.answers.specs.Numbers.{number_of, refusal_number}
use Rattle.answers.specs.Judged.{Test, ◌when◌, Judged, first}
use Rattle.halfread.specs.State.{sound}
use Rattle.bays.specs.Bay.{half_of, is_empty, sound_bay}
use Rattle.bays.proofs.Packing.{sound_bay-empty, sound_bay-taken}
use Rattle.answers.proofs.Refusals.{refuses, passed-on}
use Rattle.slices.specs.Tests.{all_zero}
use Rattle.bays.specs.Table.{bay_at}
use Rattle.bays.specs.Gate.{half_at, gate_tests, taken_tests, sound_tests, free_tests, vacant, occupied, not_sound}
use Rattle.bays.proofs.Header.{gate-stops, gate-opens}

-- ---- 6 and 4, 6 and 3

pub vacant-alone : (b : List ℕ) (n : ℕ) → 0 < n → first (4 when is_empty b ∷ []) ≡ n → (is_empty b ≡ true) × (n ≡ 4)
unfolding first
vacant-alone b n p e = go (is_empty b) e
  where
    go : (k : Bool) → cond k 4 0 ≡ n → (k ≡ true) × (n ≡ 4)
    go true q = (refl, sym q)
    go false q = absurd (omega arith)

module _ (b : List ℕ) (us : List Test) where
  pub first-vacant : is_empty b ≡ true → first (6 when not (sound_bay b) ∷ 4 when is_empty b ∷ us) ≡ 4
  unfolding first
  first-vacant e = rw (sound_bay-empty b e, e)

  pub first-held : is_empty b ≡ false →
      first (6 when not (sound_bay b) ∷ 4 when is_empty b ∷ us) ≡ first (6 when not (sound (half_of b)) ∷ us)
  unfolding first
  first-held e = rw (sound_bay-taken b e, e)

  module _ {A : Type 0} {old new left : A} where
    pub held-judged : {n : ℕ} → is_empty b ≡ false → Judged (6 when not (sound (half_of b)) ∷ us) old new n left →
        Judged (6 when not (sound_bay b) ∷ 4 when is_empty b ∷ us) old new n left
    held-judged e j = record { answer = j.answer ∙ sym (first-held e); leaves = rw (first-held e) j.leaves }

-- ---- past the gate

module _ (t : List ℕ) (i : ℕ) (us : List Test) where
  -- a refusal of the gate is one of every call behind it
  pub gate-refuses : (e : Refusal) → refusal_number e ≡ first (gate_tests t i) → refusal_number e ≡ first (gate_tests t i ++ us)
  gate-refuses e n = gate-stops t i us n (refuses {A = Unit} (Err e) e refl)

  pub gate-refused : {A : Type 0} (r : Result A Refusal) (e : Refusal) → IsErrAnd r (λ y. y ≡ e) → refusal_number e ≡ first
      (gate_tests t i) →
      number_of r ≡ first (gate_tests t i ++ us)
  gate-refused r e h n = ap number_of (passed-on r e h) ∙ gate-refuses e n

-- ---- past the gate, with the words of the bay

-- all of them are zero where the bay is empty
pub zero-empty : (t : List ℕ) (i : ℕ) {w : List ℕ} {b : Bool} → w ≡ bay_at t i → b ≡ all_zero w → is_empty (bay_at t i) ≡ b
unfolding is_empty
zero-empty t i is e = sym (e ∙ ap all_zero is)

module _ (t : List ℕ) (i : ℕ) (gate : 0 ≡ first (gate_tests t i)) where
  behind : {n : ℕ} (us : List Test) → first us ≡ n → n ≡ first (gate_tests t i ++ us)
  behind us e = gate-opens t i us (sym gate) (sym e)

  pub taken-empty : is_empty (bay_at t i) ≡ true → 4 ≡ first (taken_tests t i)
  unfolding first
  taken-empty e = behind (vacant t i ∷ []) (rw e)

  pub taken-full : is_empty (bay_at t i) ≡ false → 0 ≡ first (taken_tests t i)
  unfolding first
  taken-full e = behind (vacant t i ∷ []) (rw e)

  pub sound-first : sound_bay (bay_at t i) ≡ true → 0 ≡ first (sound_tests t i)
  unfolding first
  sound-first s = behind (not_sound t i ∷ []) (rw s)

  pub unsound-first : sound_bay (bay_at t i) ≡ false → 6 ≡ first (sound_tests t i)
  unfolding first
  unsound-first s = behind (not_sound t i ∷ []) (rw s)

  pub free-empty : is_empty (bay_at t i) ≡ true → 0 ≡ first (free_tests t i)
  unfolding first
  free-empty e = behind (not_sound t i ∷ occupied t i ∷ []) (rw (sound_bay-empty (bay_at t i) e, e))

  -- of a bay that is not empty, what it holds decides
  module _ (e : is_empty (bay_at t i) ≡ false) where
    held-sound : {b : Bool} → sound (half_at t i) ≡ b → sound_bay (bay_at t i) ≡ b
    held-sound s = sound_bay-taken (bay_at t i) e ∙ s

    pub free_taken : sound (half_at t i) ≡ true → 3 ≡ first (free_tests t i)
    unfolding first
    free_taken s = behind (not_sound t i ∷ occupied t i ∷ []) (rw (held-sound s, e))

    pub free-unsound : sound (half_at t i) ≡ false → 6 ≡ first (free_tests t i)
    unfolding first
    free-unsound s = behind (not_sound t i ∷ occupied t i ∷ []) (rw (held-sound s))
