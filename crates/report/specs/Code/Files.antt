-- A file through a bay, call by call and piece by piece: SPEC, "The program". `begun`, `after_piece` and `left_by` are what is left of the
-- table, `fits` and `ends_as` what is answered. That the calls give the verdict of `Report` is the theorem `file-verdict`.
use Rattle.std.specs.Prelude.{ℕ, Bool, cond, ◌&&◌, List, [], ◌∷◌, ◌++◌, ◌≡◌, Option, None, Some, eqb, take, replicate}
use Rattle.slices.specs.Below.{Bytes}
use Rattle.fips.specs.Editions.{digest_bytes}
use Rattle.slices.specs.Tests.{same}
use Rattle.calls.specs.Calls.{lay_out, opening, adding, closing, Ran, run}
use Rattle.report.specs.declared.Brought.{Brought}
use Rattle.report.specs.declared.Ending.{Ending}
use Rattle.lines.specs.declared.Verdict.{Verdict}

-- one empty bay, and in it a message of the edition
unfoldable pub begun : List ℕ → ℕ → List ℕ
begun t edition = (run (run t (lay_out 1)).table (opening 0 edition)).table

unfoldable pub fits : List ℕ → List ℕ → Bool
fits t piece = eqb (run t (adding 0 piece)).seen.answer 0

unfoldable pub after_piece : List ℕ → List ℕ → List ℕ
after_piece t piece = (run t (adding 0 piece)).table

-- what is seen to after a read that brought this piece, or no bytes: how reading ends, where it ends; and what that leaves
unfoldable pub turn_of : List ℕ → List ℕ → Brought → Option Ending
turn_of t piece Brought.Bytes = cond (fits t piece) None (Some Ending.TooLong)
turn_of t piece Brought.End = Some Ending.Whole
turn_of t piece Brought.Again = None
turn_of t piece (Brought.Nothing why) = Some (Ending.Unread why)

unfoldable pub after_turn : List ℕ → List ℕ → Brought → List ℕ
after_turn t piece Brought.Bytes = after_piece t piece
after_turn t piece Brought.End = t
after_turn t piece Brought.Again = t
after_turn t piece (Brought.Nothing why) = t

-- the bay closed without closing bits, into 64 bytes
abbrev pub close : List ℕ → Ran
close t = run t (closing 0 0 0 (replicate 64 0))

unfoldable pub after_close : List ℕ → List ℕ
after_close t = (close t).table

unfoldable pub judged : List ℕ → ℕ → List ℕ → Verdict
judged t edition listed =
    cond (eqb (close t).seen.answer 0 && same (take (digest_bytes edition) (close t).seen.output) listed) Verdict.Ok Verdict.Bad

-- the verdict by how reading ended, and what it leaves of the table
unfoldable pub ends_as : Ending → List ℕ → ℕ → List ℕ → Verdict
ends_as Ending.Whole t edition listed = judged t edition listed
ends_as Ending.TooLong t edition listed = Verdict.Bad
ends_as (Ending.Unread why) t edition listed = Verdict.Missing why

unfoldable pub left_by : Ending → List ℕ → List ℕ
left_by Ending.Whole t = after_close t
left_by Ending.TooLong t = t
left_by (Ending.Unread why) t = t

-- a file that comes in pieces: how reading it ends, and the table then. A piece that is not taken ends it
unfoldable pub ending : List ℕ → List (List ℕ) → Ending
ending t [] = Ending.Whole
ending t (p ∷ ps) = cond (fits t p) (ending (after_piece t p) ps) Ending.TooLong

unfoldable pub after_all : List ℕ → List (List ℕ) → List ℕ
after_all t [] = t
after_all t (p ∷ ps) = cond (fits t p) (after_all (after_piece t p) ps) (after_piece t p)

-- what is said of it
unfoldable pub said : List ℕ → ℕ → List ℕ → List (List ℕ) → Verdict
said t edition listed ps = ends_as (ending t ps) (after_all t ps) edition listed

-- the pieces of a file, and its bytes
abbrev pub AllBytes : List (List ℕ) → Type 0
AllBytes [] = Unit {0}
AllBytes (p ∷ ps) = Bytes p × AllBytes ps

unfoldable pub joined : List (List ℕ) → List ℕ
joined [] = []
joined (p ∷ ps) = p ++ joined ps

-- where a read failed, every piece before it was taken
abbrev pub up_to_failure : Ending → Ending
up_to_failure Ending.Whole = Ending.Whole
up_to_failure Ending.TooLong = Ending.TooLong
up_to_failure (Ending.Unread why) = Ending.Whole

-- a reading that began with the table t ended so and left that: there are pieces that it met
pub record Reading (t : List ℕ) (end : Ending) (left : List ℕ) : Type 0 where
  pub met : List (List ℕ)
  pub bytes : AllBytes met
  pub ends : ending t met ≡ up_to_failure end
  pub leaves : left ≡ after_all t met
