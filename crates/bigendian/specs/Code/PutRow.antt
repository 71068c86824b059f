-- What `rows::put_row` leaves of bytes, for any sizes and values: field by field from the front, until the sizes or the values are used up
-- or the next field finds no room as a whole. Where a row finds room, this is the row: `put-row` in proofs/RowLaws.antt.
use Rattle.std.specs.Prelude.{cond, List, [], ◌∷◌, ◌++◌, ℕ, ltb, length, drop}
use Rattle.bigendian.specs.BigEndian.{be}

unfoldable pub put_row : List ℕ → List ℕ → List ℕ → List ℕ
put_row [] xs bs = bs
put_row (n ∷ ns) [] bs = bs
put_row (n ∷ ns) (x ∷ xs) bs = cond (ltb (length bs) n) bs (be n x ++ put_row ns xs (drop n bs))
