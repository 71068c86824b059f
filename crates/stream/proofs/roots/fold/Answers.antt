-- `stream::roots::fold` meets its contract. The invariant: the roots that are left and the node behind them fold to the same. Assumes
-- nothing.
use Rattle.stream.proofs.Folding.{folded-more, folded-end}
use Rattle.stream.proofs.roots.fold.Goals as goal

pub loop-root-preserved : goal.loop-root-preserved
loop-root-preserved c = let l = c.loop-root in
    folded-more _ c.in-Some.root.now l.node c.in-Some.ensures.steps l.invariant c.parent-above.ensures

pub returns : goal.returns
returns c = folded-end _ c.loop-root.node c.in-None.ensures.steps.0 c.loop-root.invariant
