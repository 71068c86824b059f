-- Digits, hexadecimal ones in lower case, and what they make: bytes of two digits each, and decimal numbers.
use Rattle.std.specs.Prelude.{Bool, true, ◌&&◌, cond, List, [], ◌∷◌, ◌++◌, ℕ, zero, suc, ◌+◌, ◌-◌, ◌*◌, ◌/◌, ◌%◌, ltb, leb, eqb}
use Rattle.std.specs.Prelude.{length, get_or, Option, None, Some, is_some, unwrap_or, option_and_then}

-- 0 to 9, a to f; what is no digit has no value
unfoldable pub digit_of : ℕ → Option ℕ
digit_of c =
    cond (leb 48 c && leb c 57) (Some (c - 48))
    (cond (leb 97 c && leb c 102) (Some (c - 97 + 10)) None)

-- what is no digit counts as 0
abbrev pub byte_of : ℕ → ℕ → ℕ
byte_of high low = unwrap_or (digit_of high) 0 * 16 + unwrap_or (digit_of low) 0

unfoldable pub all_digits : List ℕ → Bool
all_digits [] = true
all_digits (c ∷ s) = is_some (digit_of c) && all_digits s

unfoldable pub is_hex : List ℕ → Bool
is_hex s = all_digits s && eqb (length s % 2) 0

-- the first n bytes
unfoldable pub bytes_of : List ℕ → ℕ → List ℕ
bytes_of s zero = []
bytes_of s (suc n) = bytes_of s n ++ (byte_of (get_or s (2 * n) 0) (get_or s (2 * n + 1) 0) ∷ [])

-- how many bytes the text is, where it is hexadecimal and no more of them than there is room for
unfoldable pub size_within : ℕ → List ℕ → Option ℕ
size_within room s = cond (is_hex s && leb (length s / 2) room) (Some (length s / 2)) None

-- x and the digits after it
unfoldable pub number_from : ℕ → List ℕ → Option ℕ
number_from x [] = Some x
number_from x (c ∷ s) =
    option_and_then (λ d. cond (ltb 9 d) None (cond (ltb 1000000000000 x) None (number_from (x * 10 + d) s))) (digit_of c)

unfoldable pub decimal_of : List ℕ → Option ℕ
decimal_of [] = None
decimal_of (c ∷ s) = number_from 0 (c ∷ s)
