-- `slices::zero::all_are` meets its contract: what was found so far and what is left of the items decide. Assumes nothing.
use mathlib.Core.Path.{refl, sym, ◌∙◌}
use native.Mathlib.Numerals.{add-one}
use Rattle.slices.proofs.Tests.{every-on, every-left}
use Rattle.slices.proofs.zero.all_are.Goals as goal

pub loop-y-init : goal.loop-y-init
loop-y-init g c = refl

pub loop-y-preserved : goal.loop-y-preserved
loop-y-preserved g c = let l = c.loop-y in
    rw (add-one, c.eq-all.ensures)
    (l.invariant ∙ every-on (λ y. g.T.PartialEq.eq y c.args.x) c.args.items.now l.y-index l.all _ c.loop-y-test.true c.y-item.is)

pub returns : goal.returns
returns g c = let l = c.loop-y in
    sym (l.invariant ∙ every-left (λ y. g.T.PartialEq.eq y c.args.x) c.args.items.now l.y-index l.all c.loop-y-test.false)
