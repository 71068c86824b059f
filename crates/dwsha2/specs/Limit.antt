-- The length limit: SPEC, "Limits". It is asked as a test of an edition, the length so far and the bytes to come, and in no other way.
use Rattle.std.specs.Prelude.{ℕ, ◌+◌, ◌^◌, Bool, ltb}

-- house: a message has at most so many bytes before its closing bits
abbrev pub limit : ℕ
limit = 2 ^ 40

-- with n bytes more a message of an edition, of which c bytes came, would pass the limit
unfoldable pub too_long : ℕ → ℕ → ℕ → Bool
too_long e c n = ltb limit (c + n)
