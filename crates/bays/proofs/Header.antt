-- The gate: a run too short for a header, `short-table`, and what a bay has that passed it, `gate-passed`, or that
-- passed it and is taken, `taken-passed`.
use Prim.Native.Nat.{ℕ, ◌+◌, ◌<◌, ◌≤◌}
use mathlib.Core.Bool.{true, false}
use mathlib.Core.List.{List, ◌++◌}
use mathlib.Core.Path.{◌≡◌, sym, ◌∙◌}
use native.Mathlib.Omega.{arith}
use lib.ListN.{length}
use borrow.Author.Tests.{lt-leb, leb-false, not-false}
use Rattle.answers.specs.Judged.{Test, first, after}
use Rattle.answers.proofs.Tests.{passed, first_on, first_off}
use Rattle.slices.proofs.Tests.{fails-at}
use Rattle.bays.specs.Places.{first_bay, bay_words, place_of}
use Rattle.bays.specs.Table.{bays_of, room_for, headed, bay_at}
use Rattle.bays.specs.Bay.{is_empty}
use Rattle.bays.specs.Gate.{gate_tests, taken_tests}
use Rattle.bays.proofs.Frames.{bay-inside}

-- less than four words are no table
pub short-table : (t : List ℕ) → length t < first_bay → headed t ≡ false
unfolding headed room_for
short-table t h = fails-at _ 0 (fails-at _ 2 (lt-leb (place_of (bays_of t)) (length t) (omega arith)))

-- what a bay behind the gate has
pub record Inside (t : List ℕ) (i : ℕ) : Type 0 where
  pub header : headed t ≡ true
  pub below : i < bays_of t
  pub whole : place_of i + bay_words ≤ length t

pub gate-passed : (t : List ℕ) (i : ℕ) → first (gate_tests t i) ≡ 0 → Inside t i
gate-passed t i e =
    let at = passed (gate_tests t i) tt e in
    let header : headed t ≡ true = not-false (headed t) (at 0) in
    let below : i < bays_of t = leb-false (bays_of t) i (at 1) in
    record { header = header; below = below; whole = bay-inside t i header below }

-- and one that must be taken
pub record Taken (t : List ℕ) (i : ℕ) : Type 0 where
  pub gate : first (gate_tests t i) ≡ 0
  pub inside : Inside t i
  pub full : is_empty (bay_at t i) ≡ false

pub taken-passed : (t : List ℕ) (i : ℕ) → first (taken_tests t i) ≡ 0 → Taken t i
unfolding first
taken-passed t i e =
    let at = passed (taken_tests t i) tt e in
    let gate : first (gate_tests t i) ≡ 0 = rw (at 0, at 1) in
    record { gate = gate; inside = gate-passed t i gate; full = at 2 }

-- ---- tests behind the gate

module _ (t : List ℕ) (i : ℕ) (us : List Test) where
  pub gate-stops : {n : ℕ} → n ≡ first (gate_tests t i) → 0 < n → n ≡ first (gate_tests t i ++ us)
  gate-stops e p = e ∙ sym (first_off (gate_tests t i) us (omega arith))

  pub gate-opens : {n : ℕ} → first (gate_tests t i) ≡ 0 → n ≡ first us → n ≡ first (gate_tests t i ++ us)
  gate-opens g e = e ∙ sym (first_on (gate_tests t i) us (passed (gate_tests t i) tt g))

-- what is left of a table by a write that passes the gate itself
pub gate-writes : (t : List ℕ) (i : ℕ) {new : List ℕ} → first (gate_tests t i) ≡ 0 → after (first (gate_tests t i)) t new ≡ new
gate-writes t i g = rw g
