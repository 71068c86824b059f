-- Counting verdict by verdict, in words of 64 bits: `counted` is the tally with one verdict more.
use Rattle.std.specs.Prelude.{ℕ, ◌+◌, ◌%◌, ◌^◌}
use Rattle.lines.specs.declared.Verdict.{Verdict}
use Rattle.lines.specs.declared.Tally.{Tally}

abbrev pub nothing_counted : Tally
nothing_counted = record { listed = 0; ok = 0; bad = 0; missing = 0 }

abbrev pub one_more : ℕ → ℕ
one_more n = (n + 1) % 2 ^ 64

unfoldable pub counted : Tally → Verdict → Tally
counted t Verdict.Ok = record { listed = one_more t.listed; ok = one_more t.ok; bad = t.bad; missing = t.missing }
counted t Verdict.Bad = record { listed = one_more t.listed; ok = t.ok; bad = one_more t.bad; missing = t.missing }
counted t (Verdict.Missing why) = record { listed = one_more t.listed; ok = t.ok; bad = t.bad; missing = one_more t.missing }
