-- What a read of a reader answered, in the two numbers that `report` reads: its number of bytes, or one below 0 and the number of the
-- error.
use Rattle.std.specs.Prelude.{ℕ, ℤ, pos, negsuc, Option, None, Some, Result, Ok, Err}
use Rattle.std.specs.IoError.{raw_os_error}
use Rattle.std.specs.declared.io.Error.{Error}

-- the system's number, 0 where the library made the error
abbrev pub number_or_none : Option ℤ → ℤ
number_or_none None = pos 0
number_or_none (Some n) = n

abbrev pub error_number : Error → ℤ
error_number e = number_or_none (raw_os_error e)

abbrev pub answered_as : Result ℕ Error → ℤ × ℤ
answered_as (Ok n) = (pos n, pos 0)
answered_as (Err e) = (negsuc 0, error_number e)
