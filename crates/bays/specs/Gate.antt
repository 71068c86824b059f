-- What the calls ask of a table and of a bay: SPEC, "Calls and their numbers". The numbers 1 and 2 come first wherever a bay is named.
use Rattle.std.specs.Prelude.{ℕ, not, List, [], ◌∷◌, ◌++◌, leb, length}
use Rattle.answers.specs.Judged.{Test, ◌when◌}
use Rattle.halfread.specs.declared.HalfRead.{HalfRead}
use Rattle.bays.specs.Table.{bays_of, room_for, headed, bay_at}
use Rattle.bays.specs.Bay.{half_of, is_empty, sound_bay}

module _ (t : List ℕ) where
  -- the half-read message in bay i
  abbrev pub half_at : ℕ → HalfRead
  half_at i = half_of (bay_at t i)

  -- 1 and 2: the header, the bay
  abbrev pub gate_tests : ℕ → List Test
  gate_tests i = 1 when not (headed t) ∷ 2 when leb (bays_of t) i ∷ []

  abbrev pub not_sound : ℕ → Test
  not_sound i = 6 when not (sound_bay (bay_at t i))

  abbrev pub occupied : ℕ → Test
  occupied i = 3 when not (is_empty (bay_at t i))

  abbrev pub vacant : ℕ → Test
  vacant i = 4 when is_empty (bay_at t i)

  -- the header, the bay and then 4: what is asked of a bay that must be taken
  abbrev pub taken_tests : ℕ → List Test
  taken_tests i = gate_tests i ++ (vacant i ∷ [])

  -- a bay that must be sound, and one that must be free
  abbrev pub sound_tests : ℕ → List Test
  sound_tests i = gate_tests i ++ (not_sound i ∷ [])

  abbrev pub free_tests : ℕ → List Test
  free_tests i = gate_tests i ++ (not_sound i ∷ occupied i ∷ [])

  -- 11: laying out
  abbrev pub layout_tests : ℕ → List Test
  layout_tests n = 11 when not (room_for n (length t)) ∷ []
