-- The program step by step, over what it meets in a folder: SPEC, "The program". That this is `output` is the theorem `program-output`.
-- The verdict on a file is what the program's contract states, `Verdicted`; that it goes through the entries in order and writes these
-- lines is read, and so is which file it met, since no contract of the C library says which bytes are read or written.
use Rattle.std.specs.Prelude.{ℕ, zero, suc, ◌+◌, true, cond, List, [], ◌++◌, ◌≡◌, length, take}
use Rattle.fips.specs.Constants.{ascii}
use Rattle.lists.specs.Calls.{pair_in}
use Rattle.lists.specs.Layout.{longest_list, edition_in, count_in, accepted}
use Rattle.bays.specs.Table.{room_for}
use Rattle.lines.specs.declared.Tally.{Tally}
use Rattle.lines.specs.declared.Verdict.{Verdict}
use Rattle.lines.specs.declared.Why.{Why}
use Rattle.report.specs.declared.Ending.{Ending}
use Rattle.lines.specs.Lines.{line_of, count_line, not_a_list}
use Rattle.lines.specs.Code.Counting.{nothing_counted, counted}
use Rattle.report.specs.Report.{Came, no_file, bytes, verdict}
use Rattle.report.specs.Code.Files.{begun, ending, after_all, said, AllBytes, joined}

-- a file as it is met: not opened, or not read to its end, and why; or the pieces that reads bring, up to the first that is not taken, and
-- the words that lie where its table is laid out
pub data File : Type 0 where
  unread : Why → File
  pieces : (words : List ℕ) (ps : List (List ℕ)) → File

-- pieces are bytes, and the words have room for a bay
abbrev pub Met : File → Type 0
Met (unread why) = Unit {0}
Met (pieces words ps) = (room_for 1 (length words) ≡ true) × AllBytes ps

-- what comes of it
abbrev pub came : File → Came
came (unread why) = no_file why
came (pieces words ps) = bytes (joined ps)

-- up to n bytes of a file: none where it is not read
abbrev pub read_up_to : ℕ → File → List ℕ
read_up_to n (unread why) = []
read_up_to n (pieces words ps) = take n (joined ps)

-- the verdict on the file of entry i
unfoldable pub verdict_on : List ℕ → ℕ → File → Verdict
verdict_on bs i (unread why) = Verdict.Missing why
verdict_on bs i (pieces words ps) = said (begun words (edition_in bs)) (edition_in bs) (pair_in i bs).digest ps

-- a file led through a table over these words, in an edition, ended so and left that
abbrev pub Led : List ℕ → ℕ → File → Ending → List ℕ → Type 0
Led words edition (unread why) end left = end ≡ Ending.Unread why
Led words edition (pieces under ps) end left =
    (under ≡ words) × AllBytes ps × (end ≡ ending (begun words edition) ps) × (left ≡ after_all (begun words edition) ps)

-- the words are those, and the pieces are bytes
abbrev pub Over : List ℕ → File → Type 0
Over words (unread why) = Unit {0}
Over words (pieces under ps) = (under ≡ words) × AllBytes ps

-- the verdict on entry i, whose file is led through a table over these words: there is a file that was met, and it is the one on its bytes
pub record Verdicted (bs : List ℕ) (i : ℕ) (words : List ℕ) (v : Verdict) : Type 0 where
  pub file : File
  pub over : Over words file
  pub step : v ≡ verdict_on bs i file
  pub says : accepted bs ≡ true → room_for 1 (length words) ≡ true → v ≡ verdict (edition_in bs) (pair_in i bs).digest (came file)

module _ (files : List ℕ → File) where
  -- the lines of n entries from entry i on, and the counts, where so many are counted already
  unfoldable pub writes : List ℕ → ℕ → ℕ → Tally → List ℕ
  writes bs i zero tally = count_line tally
  writes bs i (suc n) tally =
      let v : Verdict = verdict_on bs i (files (pair_in i bs).name) in
      line_of v (pair_in i bs).name ++ writes bs (i + 1) n (counted tally v)

  unfoldable pub program : List ℕ
  program =
      let bs : List ℕ = read_up_to (suc longest_list) (files (ascii "yard.man")) in
      cond (accepted bs) (writes bs 0 (count_in bs) nothing_counted) not_a_list
