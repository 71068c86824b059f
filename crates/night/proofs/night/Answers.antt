-- `night::night` meets its contract: what does not fit is refused, and what fits goes through the evening and the morning. Assumes nothing.
use mathlib.Core.Path.{sym}
use Rattle.slices.specs.Below.{Bytes}
use Rattle.night.proofs.Refusals.{no-night, whole-night}
use Rattle.answers.proofs.Refusals.{passed-on}
use Rattle.night.proofs.night.Goals as goal

pub returns-in_err-refusal : goal.returns-in_err-refusal
returns-in_err-refusal c = let g = c.args in
    rw (passed-on c.from_residual.result _ c.from_residual.ensures.1)
    (no-night g.table.now g.anew.now _ g.a.now g.cut g.b.now g.c.now g.saved.now _ _ _
    c.least.ensures c.record_length-size.ensures _ c.in_err-refusal.ensures)

pub returns : goal.returns
returns c = let g = c.args in
    let all : Bytes g.a.now = λ i. (c.type_inv.a i).fits in
    whole-night g.table.now g.anew.now _ g.a.now g.cut g.b.now g.c.now g.saved.now _ _ _
    c.least.ensures c.record_length-size.ensures (sym c.in_ok-refusal.ensures) _ _ _ c.evening.ensures (c.morning.ensures all)
    (c.close_all.ensures _ _ _ _)
