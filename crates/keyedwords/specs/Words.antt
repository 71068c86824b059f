-- The words of a keyed hash: SPEC, "Keyed digests". Those of a bay that holds the inner message, and then the outer ones.
use Rattle.std.specs.Prelude.{ℕ, ◌+◌, List, ◌++◌}
use Rattle.slices.specs.Parts.{part}
use Rattle.halfread.specs.State.{chain_room}
use Rattle.bays.specs.Places.{bay_words}
use Rattle.bays.specs.Bay.{half_of, bay_of}
use Rattle.keyed.specs.declared.Keyed.{Keyed}

abbrev pub outer_from : ℕ
outer_from = bay_words

abbrev pub keyed_words : ℕ
keyed_words = outer_from + chain_room

-- the keyed hash that words hold
unfoldable pub keyed_in : List ℕ → Keyed
keyed_in ws = record { inner = half_of (part ws 0 bay_words); outer = part ws outer_from chain_room }

-- the words that hold a keyed hash
unfoldable pub words_of : Keyed → List ℕ
words_of k = bay_of k.inner ++ k.outer
