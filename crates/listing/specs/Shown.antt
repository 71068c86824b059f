-- A name as text in which nothing can be taken for something else: `shown`. Each of its bytes is one that prints and no blank,
-- `shown-visible`, so a name cannot forge a line.
use Rattle.std.specs.Prelude.{ℕ, ◌+◌, ◌/◌, ◌%◌, Bool, not, cond, List, [], ◌∷◌, ◌++◌, eqb, leb, ltb}
use Rattle.slices.specs.Tests.{holds}

-- a byte that shows itself: one that a name of a list may have, and no backslash
unfoldable pub plain : ℕ → Bool
plain b = holds (leb 0x21 b ∷ leb b 0x7e ∷ not (eqb b 0x5c) ∷ [])

-- 0 to 9, then a to f
abbrev pub hex_digit : ℕ → ℕ
hex_digit n = cond (ltb n 10) (48 + n) (87 + n)

-- the byte itself, or a backslash, x, and two digits
unfoldable pub shown_byte : ℕ → List ℕ
shown_byte b = cond (plain b) (b ∷ []) (0x5c ∷ 0x78 ∷ hex_digit (b / 16) ∷ hex_digit (b % 16) ∷ [])

unfoldable pub shown : List ℕ → List ℕ
shown [] = []
shown (b ∷ bs) = shown_byte b ++ shown bs
