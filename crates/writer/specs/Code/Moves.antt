-- What the moving pass of `put` does with bytes, step by step: bytes moved towards the end, `slid`, and the offsets of entries raised,
-- `raised`; an entry and a name put in their places in a list, `with_both`.
use Rattle.std.specs.Prelude.{cond, List, ◌++◌, ℕ, zero, suc, ◌+◌, ◌-◌, eqb, length, take, drop}
use Rattle.bigendian.specs.BigEndian.{be}
use Rattle.slices.specs.Parts.{part}
use Rattle.lists.specs.Layout.{offset_size, name_offset}

-- all but the last `by` bytes moved towards the end by so many; the first ones stay as they were
unfoldable pub slid : ℕ → List ℕ → List ℕ
slid by bytes = take by bytes ++ take (length bytes - by) bytes

-- n entries of that size, the name of each so much farther on
unfoldable pub raised : ℕ → ℕ → ℕ → List ℕ → List ℕ
raised zero size by entries = entries
raised (suc n) size by entries =
    be offset_size (name_offset entries + by) ++ (part entries offset_size (size - offset_size) ++ raised n size by (drop size entries))

-- a list of `whole` bytes at the front, with an entry put in at one place and a name at a later one; what lay behind them is moved, and
-- the bytes behind the new list stay
unfoldable pub with_both : ℕ → List ℕ → ℕ → List ℕ → ℕ → List ℕ → List ℕ
with_both entry_at entry name_at name whole bytes =
    take entry_at bytes
    ++ (entry
    ++ (part bytes entry_at (name_at - entry_at)
    ++ (name ++ (part bytes name_at (whole - name_at) ++ drop (whole + length entry + length name) bytes))))

-- where the name at the offset of an entry begins; behind the list where the place is that of the names
unfoldable pub name_spot : List ℕ → ℕ → ℕ → ℕ
name_spot bs entry_at names_at = cond (eqb entry_at names_at) (length bs) (name_offset (drop entry_at bs))
