-- The lent run of words: SPEC, "The table of bays". `headed` asks whether it is a table, `laid_out` makes it one.
use Rattle.std.specs.Prelude.{ℕ, ◌*◌, Bool, List, [], ◌∷◌, ◌++◌, leb, eqb, length, drop, get_or, replicate}
use Rattle.slices.specs.Parts.{part, put_part}
use Rattle.slices.specs.Tests.{holds}
use Rattle.bays.specs.Places.{bays_word, first_word, size_word, zero_word, first_bay, most_bays, bay_words, place_of}

-- how many bays the header says
abbrev pub bays_of : List ℕ → ℕ
bays_of t = get_or t bays_word 0

-- n bays, at least one and no more than the most, in a run of l words
unfoldable pub room_for : ℕ → ℕ → Bool
room_for n l = holds (leb 1 n ∷ leb n most_bays ∷ leb (place_of n) l ∷ [])

-- whether the run is a table
unfoldable pub headed : List ℕ → Bool
headed t =
    holds
    (room_for (bays_of t) (length t)
    ∷ eqb (get_or t first_word 0) first_bay
    ∷ eqb (get_or t size_word 0) bay_words
    ∷ eqb (get_or t zero_word 0) 0
    ∷ [])

-- bay i, and the run with other words in its place
unfoldable pub bay_at : List ℕ → ℕ → List ℕ
bay_at t i = part t (place_of i) bay_words

unfoldable pub put_bay : List ℕ → ℕ → List ℕ → List ℕ
put_bay t i b = put_part (place_of i) bay_words b t

-- a header, that many empty bays, and behind them what was there
unfoldable pub laid_out : ℕ → List ℕ → List ℕ
laid_out n t = (n ∷ first_bay ∷ bay_words ∷ 0 ∷ []) ++ (replicate (bay_words * n) 0 ++ drop (place_of n) t)
