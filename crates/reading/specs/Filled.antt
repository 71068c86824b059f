-- What is said of a buffer that a file was read into: where bytes came, so many are at its front. They are a reader's next ones where its
-- bytes are known, and all of them where there was room for more; which ones a file has, no contract of the C library says.
use Rattle.std.specs.Prelude.{◌≡◌, ℕ, ◌≤◌, ◌<◌, List, length, take, Option, None, Some}
use Rattle.std.specs.Io.KnownBytes.{Consumes, IsAtEnd}

abbrev pub Fills : Option ℕ → List ℕ → Type 0
Fills (Some n) buffer = (n ≤ length buffer) × (n ≡ length (take n buffer))
Fills None buffer = Unit {0}

abbrev pub Takes : Option (List ℕ) → Option (List ℕ) → Option ℕ → List ℕ → Type 0
Takes old new (Some n) buffer = Consumes old new (take n buffer) × (n < length buffer → IsAtEnd new)
Takes old new None buffer = Unit {0}
