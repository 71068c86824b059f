-- Hash at once, its refusals in their order and what it leaves: SPEC, "Hash at once" and "Calls and their numbers".
use Rattle.std.specs.Prelude.{ℕ, not, List, [], ◌∷◌, ltb, length}
use Rattle.answers.specs.Judged.{Test, ◌when◌, Judged}
use Rattle.fips.specs.Editions.{known, digest_bytes, digest}
use Rattle.fips.specs.Message.{message}
use Rattle.slices.specs.AtFront.{at_front}
use Rattle.dwsha2.specs.Closing.{closing_fits}
use Rattle.dwsha2.specs.Limit.{too_long}

-- the refusals in order
unfoldable pub hash_tests : ℕ → List ℕ → ℕ → ℕ → List ℕ → List Test
hash_tests e bytes closing b out =
    5 when not (known e)
    ∷ 7 when too_long e 0 (length bytes)
    ∷ 8 when not (closing_fits closing b)
    ∷ 9 when ltb (length out) (digest_bytes e)
    ∷ []

-- the digest of the bytes and the closing bits, at the front of the output
unfoldable pub hashed : ℕ → List ℕ → ℕ → ℕ → List ℕ → List ℕ
hashed e bytes closing b out = at_front (digest e (message bytes closing b)) out

-- hash at once answered the number n, and left the output as it is then
abbrev pub Hashes : ℕ → List ℕ → ℕ → ℕ → List ℕ → ℕ → List ℕ → Type 0
Hashes e bytes closing b out n left = Judged (hash_tests e bytes closing b out) out (hashed e bytes closing b out) n left
