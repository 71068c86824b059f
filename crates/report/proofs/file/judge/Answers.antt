-- `report::file::judge` meets its contract.
use mathlib.Core.Bool.{Bool, true, false, not, cond}
use mathlib.Core.List.{List}
use mathlib.Core.Path.{◌≡◌, sym, ap, ◌∙◌}
use Prim.Native.Nat.{ℕ, ◌≤◌}
use native.Mathlib.Omega.{arith}
use lib.ListN.{length}
use lib.Seq.{length-take-le}
use Rattle.fips.specs.Editions.{digest_bytes}
use Rattle.lists.specs.Calls.{pair_in}
use Rattle.lists.specs.Layout.{edition_in}
use Rattle.fips.proofs.Editions.{digest-short}
use Rattle.lines.specs.declared.Verdict.{Verdict}
use Rattle.report.specs.Code.Files.{judged, after_close}
use Rattle.report.proofs.Through.{unclosed, compares}
use Rattle.report.proofs.file.judge.Goals as goal
use Rattle.report.proofs.file.judge.Goals.{After-digest_bytes-size, After-same}

pub returns-then-is_err : goal.returns-then-is_err
returns-then-is_err c =
    let is = unclosed _ _ _ c.close.ensures.outcome (c.is_err.ensures.negation ∙ ap not c.if-is_err.true) in
    record { value = is.0; table_after = is.1 }

short : (n e : ℕ) (to : List ℕ) → n ≡ digest_bytes e → length to ≡ 64 → n ≤ length to
short n e to p l = omega (arith, digest-short e)

within : (c : After-digest_bytes-size) →
    c.digest_bytes-size.result ≤ length c.close.new.out
within c =
    short _ _ c.close.new.out c.digest_bytes-size.ensures c.close.auto.out

-- what is left of a file whose bay is closed and compared, with that verdict

abbrev Ends : After-same → Verdict → Type 0
Ends c v =
    let a = c.args in
    (v ≡ judged a.table.now (edition_in a.list.now) (pair_in a.i a.list.now).digest)
    × (c.close.new.table ≡ after_close a.table.now)

decided : (c : After-same) (b : Bool) → c.same.result ≡ b → Ends c (cond b Verdict.Ok Verdict.Bad)
decided c b e =
    compares _ _ _ _ _ _ _ _ c.close.ensures.outcome (c.is_err.ensures.negation ∙ ap not c.if-is_err.false)
    c.digest_bytes-size.ensures c.edition.ensures c.digest.ensures.result_value c.same.ensures e

pub slice_bounds-out-end : goal.slice_bounds-out-end
slice_bounds-out-end c = within c

pub slice_bounds-same-end : goal.slice_bounds-same-end
slice_bounds-same-end c = sym (length-take-le _ _ (within (goal.at.slice_bounds-same-end c).After-digest_bytes-size))

pub returns-then-same : goal.returns-then-same
returns-then-same c =
    let is = decided (goal.at.returns-then-same c).After-same true c.if-same.true in
    record { value = is.0; table_after = is.1 }

pub returns : goal.returns
returns c =
    let is = decided (goal.at.returns c).After-same false c.if-same.false in
    record { value = is.0; table_after = is.1 }
