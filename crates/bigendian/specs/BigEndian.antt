-- Numbers and bytes, most significant first: SPEC, "Specification", under its table of signs.
-- `be n x` is the n bytes of x, `number bs` the number that bytes make.
use Rattle.std.specs.Prelude.{List, [], ◌∷◌, ℕ, zero, suc, ◌+◌, ◌*◌, ◌/◌, ◌%◌, ◌^◌, length}

-- the last n bytes of x, most significant first
unfoldable pub be : ℕ → ℕ → List ℕ
be zero x = []
be (suc n) x = x / 256 ^ n % 256 ∷ be n x

-- the number that bytes make, most significant first
unfoldable pub number : List ℕ → ℕ
number [] = 0
number (b ∷ bs) = b * 256 ^ length bs + number bs

-- what a word of 64 bits keeps of a number
abbrev pub word64 : ℕ → ℕ
word64 x = x % 2 ^ 64
