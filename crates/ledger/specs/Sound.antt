-- The ledger of a table that is already there: SPEC, "The plain ledger". `SoundTable` is one with a right header and sound bays, and
-- `ledger_of` has for each bay what it holds: nothing, or the entry loaded from its record.
use Rattle.std.specs.Prelude.{ℕ, zero, suc, ◌<◌, true, cond, List, [], ◌∷◌, ◌≡◌}
use Rattle.records.specs.Record.{record_of}
use Rattle.bays.specs.Table.{bays_of, headed, bay_at}
use Rattle.bays.specs.Bay.{half_of, is_empty, sound_bay}
use Rattle.ledger.specs.Ledger.{Slot, nothing, entry, loaded_entry}

pub record SoundTable (t : List ℕ) : Type 0 where
  pub header : headed t ≡ true
  pub bays : (i : ℕ) → i < bays_of t → sound_bay (bay_at t i) ≡ true

-- the words of a bay, as a slot
unfoldable pub slot_of : List ℕ → Slot
slot_of b = cond (is_empty b) nothing (entry (loaded_entry (record_of (half_of b))))

-- n bays from bay i on
unfoldable pub slots_of : List ℕ → ℕ → ℕ → List Slot
slots_of t i zero = []
slots_of t i (suc n) = slot_of (bay_at t i) ∷ slots_of t (suc i) n

unfoldable pub ledger_of : List ℕ → List Slot
ledger_of t = slots_of t 0 (bays_of t)
