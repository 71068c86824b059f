-- Rows of fields: a fixed layout as a list that says of each field where it stands, in how many bytes, and what number it holds, most
-- significant byte first. `row_bytes` lays a row out and `read_row` reads any bytes at its places; `InOrder`, `Fitting` and `Reads` are
-- what
-- a row is to be and to be read as. SPEC, "The saved record" and "Digest list", have such rows.
use Rattle.std.specs.Prelude.{◌≡◌, List, [], ◌∷◌, ◌++◌, ℕ, ◌+◌, ◌^◌, ◌<◌}
use Rattle.slices.specs.Parts.{part}
use Rattle.bigendian.specs.BigEndian.{be, number}

pub record Field : Type 0 where
  pub place : ℕ
  pub bytes : ℕ
  pub value : ℕ

infix 68 ◌for◌is◌
-- `8 for 2 is x`: from place 8 on, for 2 bytes, the number x
abbrev pub ◌for◌is◌ : ℕ → ℕ → ℕ → Field
at for n is x = record { place = at; bytes = n; value = x }

-- ---- the columns of a row

abbrev pub places : List Field → List ℕ
places [] = []
places (f ∷ fs) = f.place ∷ places fs

abbrev pub sizes : List Field → List ℕ
sizes [] = []
sizes (f ∷ fs) = f.bytes ∷ sizes fs

abbrev pub values : List Field → List ℕ
values [] = []
values (f ∷ fs) = f.value ∷ values fs

-- where parts of such sizes begin that stand one behind another, the first at the place given
abbrev pub starts : ℕ → List ℕ → List ℕ
starts at [] = []
starts at (n ∷ ns) = at ∷ starts (at + n) ns

-- each field stands where the one before ends, the first at the place given
abbrev pub InOrder : ℕ → List Field → Type 0
InOrder at row = places row ≡ starts at (sizes row)

-- each value finds room in its field
abbrev pub Fitting : List Field → Type 0
Fitting [] = Unit {0}
Fitting (f ∷ fs) = (f.value < 256 ^ f.bytes) × Fitting fs

-- ---- laid out, and read

-- the fields one behind another
unfoldable pub row_bytes : List Field → List ℕ
row_bytes [] = []
row_bytes (f ∷ fs) = be f.bytes f.value ++ row_bytes fs

abbrev pub row_length : List Field → ℕ
row_length [] = 0
row_length (f ∷ fs) = f.bytes + row_length fs

-- the number in n bytes from a place on, fewer where the bytes end before
abbrev pub field_in : List ℕ → ℕ → ℕ → ℕ
field_in bs at n = number (part bs at n)

-- the numbers at the places of a row
unfoldable pub read_row : List Field → List ℕ → List ℕ
read_row [] bs = []
read_row (f ∷ fs) bs = field_in bs f.place f.bytes ∷ read_row fs bs

-- the bytes hold the row's values at its places
abbrev pub Reads : List Field → List ℕ → Type 0
Reads row bs = read_row row bs ≡ values row
