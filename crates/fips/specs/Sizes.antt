-- What the edition lookup answers: SPEC, "Editions": the sizes of an edition, or 5 of SPEC, "Calls and their numbers", where there is none.
-- `Sized e n told` says that the lookup of e answers the number n and tells those sizes; `sizes_number` and `sizes_told` have the number
-- and the sizes of what it answers with.
use Rattle.std.specs.Prelude.{ℕ, Bool, true, false, not, [], ◌∷◌, eqb, Option, Some, None}
use Rattle.answers.specs.Judged.{◌when◌, Judged}
use Rattle.fips.specs.declared.lookup.EditionSizes.{EditionSizes}
use Rattle.fips.specs.Words.{Width, w32, w64, word, block_bytes}
use Rattle.fips.specs.Editions.{known, width, digest_bytes}

-- the bits of a word, the bytes of a block and of a digest
pub record Sizes : Type 0 where
  pub word : ℕ
  pub block : ℕ
  pub digest : ℕ

abbrev pub sizes : ℕ → ℕ → ℕ → Sizes
sizes w b d = record { word = w; block = b; digest = d }

abbrev pub no_sizes : Sizes
no_sizes = sizes 0 0 0

-- ---- the answer

abbrev pub sizes_number : Option EditionSizes → ℕ
sizes_number (Some s) = 0
sizes_number None = 5

abbrev pub sizes_told : Option EditionSizes → Sizes
sizes_told (Some s) = sizes s.word s.block s.digest
sizes_told None = no_sizes

-- ---- the lookup

abbrev pub Sized : ℕ → ℕ → Sizes → Type 0
Sized e n told = Judged (5 when not (known e) ∷ []) no_sizes (sizes (word (width e)) (block_bytes (width e)) (digest_bytes e)) n told

-- whether an edition's words have 32 bits, and the width that says
unfoldable pub is_narrow : ℕ → Bool
is_narrow e = eqb (width e).bytes 4

abbrev pub width_of : Bool → Width
width_of true = w32
width_of false = w64
