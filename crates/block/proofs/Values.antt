-- A list of words as the numbers that they are. Assumes nothing.
use Rattle.std.proofs.Common.{◌≡◌, ℕ, ◌<◌, List, map, length, get_or, sym}
use Rattle.std.proofs.lemmas.List.{get_or-map}

-- the word at a place is the number there
pub value-at : {W : Type 0} (value : W → ℕ) (ws : List W) (i : ℕ) (w : W) → i < length ws
    → value (get_or ws i w) ≡ get_or (map value ws) i 0
value-at value ws i w h = sym (get_or-map value ws i w 0 h)
