-- Words and bytes: SPEC, "Specification", under its table of signs. Words of n bytes each stand one after the other.
-- `from_words n ws` is the bytes of the words ws, `to_words k n bs` the k words at the front of the bytes bs, `with_words n ws bs` those
-- bytes
-- with the words ws written there.
use Rattle.std.specs.Prelude.{List, [], ◌∷◌, ◌++◌, ℕ, zero, suc, ◌*◌, ◌/◌, min, length, take, drop}
use Rattle.bigendian.specs.BigEndian.{be, number}

-- each word as n bytes
unfoldable pub from_words : ℕ → List ℕ → List ℕ
from_words n [] = []
from_words n (w ∷ ws) = be n w ++ from_words n ws

-- k words of n bytes each; where the bytes run out, of those that are left
unfoldable pub to_words : ℕ → ℕ → List ℕ → List ℕ
to_words zero n bs = []
to_words (suc k) n bs = number (take n bs) ∷ to_words k n (drop n bs)

-- how many of the words, as n bytes each, find room in the bytes; none where n is 0
abbrev pub fitting : ℕ → List ℕ → List ℕ → ℕ
fitting n ws bs = min (length ws) (length bs / n)

-- the bytes with the words at their front, as many as find room
unfoldable pub with_words : ℕ → List ℕ → List ℕ → List ℕ
with_words n ws bs = from_words n (take (fitting n ws bs) ws) ++ drop (fitting n ws bs * n) bs
