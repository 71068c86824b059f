-- What the checker says of a yard, whole: SPEC, "The program".
-- `verdict` is the one on a file, `report` the lines and the counts of a list, and `output` all that is written of a folder.
use Rattle.std.specs.Prelude.{ℕ, cond, not, ◌&&◌, List, [], ◌∷◌, ◌++◌, length}
use Rattle.fips.specs.Constants.{ascii}
use Rattle.fips.specs.Message.{message}
use Rattle.fips.specs.Editions.{digest}
use Rattle.dwsha2.specs.Limit.{too_long}
use Rattle.slices.specs.Tests.{same}
use Rattle.lists.specs.Layout.{read_list, accepted}
use Rattle.lists.specs.Lists.{Pair, DigestList}
use Rattle.lines.specs.declared.Verdict.{Verdict}
use Rattle.lines.specs.declared.Why.{Why}
use Rattle.lines.specs.Lines.{line_of, count_line, not_a_list, tally_of}

-- what comes of a name: the bytes of the file, where one of that name can be opened and read to its end, and else the reason
pub data Came : Type 0 where
  no_file : Why → Came
  bytes : List ℕ → Came

-- MISSING where no file came; BAD where it is too long, or its digest is not the one listed
unfoldable pub verdict : ℕ → List ℕ → Came → Verdict
verdict edition listed (no_file why) = Verdict.Missing why
verdict edition listed (bytes m) =
    cond (not (too_long edition 0 (length m)) && same (digest edition (message m 0 0)) listed) Verdict.Ok Verdict.Bad

-- the folder has what comes of each name
module _ (folder : List ℕ → Came) where
  unfoldable pub verdicts : ℕ → List Pair → List Verdict
  verdicts edition [] = []
  verdicts edition (p ∷ ps) = verdict edition p.digest (folder p.name) ∷ verdicts edition ps

  unfoldable pub file_lines : ℕ → List Pair → List ℕ
  file_lines edition [] = []
  file_lines edition (p ∷ ps) = line_of (verdict edition p.digest (folder p.name)) p.name ++ file_lines edition ps

-- the lines in the list's order, and the counts
unfoldable pub report : (List ℕ → Came) → DigestList → List ℕ
report folder l = file_lines folder l.edition l.pairs ++ count_line (tally_of (verdicts folder l.edition l.pairs))

-- where no list can be read there is one line; bytes that are more than the longest list has are none, `list-short`
unfoldable pub by_list : (List ℕ → Came) → Came → List ℕ
by_list folder (no_file why) = not_a_list
by_list folder (bytes bs) = cond (accepted bs) (report folder (read_list bs)) not_a_list

unfoldable pub output : (List ℕ → Came) → List ℕ
output folder = by_list folder (folder (ascii "yard.man"))
