-- The lines that the checker writes: SPEC, "The program".
-- `line_of` is the line of a file, `reason_line` says why it is missing, `count_line` is the last one, `not_a_list` the only one where
-- there is
-- no list; `tally_of` counts verdicts.
use Rattle.std.specs.Prelude.{ℕ, zero, suc, ◌+◌, ◌/◌, ◌%◌, cond, List, [], ◌∷◌, ◌++◌, length, nat_lt}
use Prim.Native.String.{String}
use Rattle.fips.specs.Constants.{ascii}
use Rattle.lines.specs.declared.Verdict.{Verdict}
use Rattle.lines.specs.declared.Why.{Why}
use Rattle.lines.specs.declared.Tally.{Tally}

-- the bytes in which every line is whole
abbrev pub line_room : ℕ
line_room = 128

abbrev pub verdict_word : Verdict → String
verdict_word Verdict.Ok = "OK "
verdict_word Verdict.Bad = "BAD "
verdict_word (Verdict.Missing why) = "MISSING "

unfoldable pub line_of : Verdict → List ℕ → List ℕ
line_of v name = ascii (verdict_word v) ++ name ++ ascii "\n"

abbrev pub why_words : Why → String
why_words Why.NotThere = ": not there\n"
why_words Why.NoPermission = ": no permission\n"
why_words Why.Folder = ": a folder\n"
why_words Why.Failed = ": reading failed\n"

-- on standard error
unfoldable pub reason_line : Why → List ℕ → List ℕ
reason_line why name = name ++ ascii (why_words why)

-- the decimal digits of a number, without zeros in front; its last ones where it has more than so many
unfoldable pub digits : ℕ → ℕ → List ℕ
digits zero n = []
digits (suc k) n = cond (nat_lt n 10) [] (digits k (n / 10)) ++ ((48 + n % 10) ∷ [])

-- n + 1 digits are enough for n
unfoldable pub decimal : ℕ → List ℕ
decimal n = digits (n + 1) n

unfoldable pub count_line : Tally → List ℕ
count_line t =
    (decimal t.listed ++ ascii " listed, ")
    ++ (decimal t.ok ++ ascii " ok, ")
    ++ (decimal t.bad ++ ascii " bad, ")
    ++ (decimal t.missing ++ ascii " missing\n")

abbrev pub not_a_list : List ℕ
not_a_list = ascii "NOT A LIST\n"

-- 1 for a verdict of that kind, 0 for another
abbrev pub is_ok : Verdict → ℕ
is_ok Verdict.Ok = 1
is_ok Verdict.Bad = 0
is_ok (Verdict.Missing why) = 0

abbrev pub is_bad : Verdict → ℕ
is_bad Verdict.Ok = 0
is_bad Verdict.Bad = 1
is_bad (Verdict.Missing why) = 0

abbrev pub is_missing : Verdict → ℕ
is_missing Verdict.Ok = 0
is_missing Verdict.Bad = 0
is_missing (Verdict.Missing why) = 1

unfoldable pub sum : (Verdict → ℕ) → List Verdict → ℕ
sum f [] = 0
sum f (v ∷ vs) = f v + sum f vs

abbrev pub tally_of : List Verdict → Tally
tally_of vs = record { listed = length vs; ok = sum is_ok vs; bad = sum is_bad vs; missing = sum is_missing vs }
