-- What the answer of a read says, and why a file is missing: SPEC, "The program".
-- A read answers how many bytes it put at the front of its buffer, and a number below 0 where it failed; the error has a number then.
use Rattle.std.specs.Prelude.{ℕ, zero, suc, Bool, false, cond, ◌||◌, List, [], ◌∷◌, eqb, ℤ, pos, negsuc, take}
use Rattle.lines.specs.declared.Why.{Why}
use Rattle.report.specs.declared.Brought.{Brought}

abbrev is_one_of : ℕ → List ℕ → Bool
is_one_of n [] = false
is_one_of n (m ∷ ms) = eqb n m || is_one_of n ms

-- by the error's number, as Linux has them: ENOENT, ENOTDIR and ELOOP; EPERM and EACCES; EISDIR; any other
unfoldable pub why_of : ℤ → Why
why_of (negsuc n) = Why.Failed
why_of (pos n) =
    cond (is_one_of n (2 ∷ 20 ∷ 40 ∷ [])) Why.NotThere
    (cond (is_one_of n (1 ∷ 13 ∷ [])) Why.NoPermission (cond (is_one_of n (21 ∷ [])) Why.Folder Why.Failed))

-- whether a signal came in between, EINTR
abbrev pub interrupted : ℤ → Bool
interrupted (negsuc n) = false
interrupted (pos n) = eqb n 4

-- what the read brought, by its answer and the number of its error
unfoldable pub brought : ℤ → ℤ → Brought
brought (pos zero) errno = Brought.End
brought (pos (suc n)) errno = Brought.Bytes
brought (negsuc n) errno = cond (interrupted errno) Brought.Again (Brought.Nothing (why_of errno))

-- the bytes of it
abbrev pub piece : ℤ → List ℕ → List ℕ
piece (pos n) buffer = take n buffer
piece (negsuc n) buffer = []
