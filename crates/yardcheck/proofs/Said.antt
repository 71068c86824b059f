-- What the checker says of a file, over the own contract of its `verdict`: SPEC, "The program". For a digest list and a table with room
-- for a bay, there is a file that was met, and OK, BAD or MISSING with its reason is the verdict on it, `said`. OK is said only of bytes
-- that have the listed digest, `ok-said`, and a reason only where no file came for that reason, `missing-said`.
use Prim.Native.Nat.{ℕ}
use mathlib.Core.Bool.{true, false}
use mathlib.Core.List.{List}
use mathlib.Core.Path.{◌≡◌, sym, ◌∙◌}
use lib.ListN.{length}
use Rattle.contracts.specs.Says.{Made}
use Rattle.fips.specs.Message.{message}
use Rattle.fips.specs.Editions.{digest}
use Rattle.dwsha2.specs.Limit.{too_long}
use Rattle.bays.specs.Table.{room_for}
use Rattle.lists.specs.Calls.{pair_in}
use Rattle.lists.specs.Layout.{edition_in, accepted}
use Rattle.lines.specs.declared.Verdict.{Verdict}
use Rattle.lines.specs.declared.Why.{Why}
use Rattle.report.specs.Report.{no_file, bytes, verdict}
use Rattle.report.specs.Code.Program.{File, came}
use Rattle.report.proofs.Means.{ok-means, missing-means}
use Rattle.yardcheck.specs.contracts.verdict as checks
use Rattle.yardcheck.proofs.verdict.Reads as checks-reads

module _ (call : Made checks.ended checks-reads.Learnt) where
  abbrev list : List ℕ
  list = call.args.0.now

  abbrev listed : List ℕ
  listed = (pair_in call.args.1.0 list).digest

  abbrev met : File
  met = call.learnt.file

  module _ (a : accepted list ≡ true) (room : room_for 1 (length call.args.1.1.0.now) ≡ true) where
    pub said : call.result ≡ verdict (edition_in list) listed (came met)
    said = call.learnt.says a room

    pub ok-said : call.result ≡ Verdict.Ok →
        (m : List ℕ)
        × ((came met ≡ bytes m) × (too_long (edition_in list) 0 (length m) ≡ false) × (digest (edition_in list) (message m 0 0) ≡ listed))
    ok-said h = ok-means (edition_in list) listed (came met) (sym said ∙ h)

    pub missing-said : (why : Why) → call.result ≡ Verdict.Missing why → came met ≡ no_file why
    missing-said why h = missing-means (edition_in list) listed (came met) why (sym said ∙ h)
