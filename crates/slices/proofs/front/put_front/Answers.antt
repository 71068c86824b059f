-- `slices::front::put_front` meets its contract: after i turns i items are copied over the front. Assumes nothing.
use mathlib.Core.Path.{refl, ap, ◌∙◌}
use native.Mathlib.Numerals.{add-one}
use native.Mathlib.Omega.{arith}
use lib.ListN.{set}
use Rattle.slices.proofs.AtFront.{one-copied, front-copied}
use Rattle.slices.proofs.front.put_front.Goals as goal

pub loop-i-init : goal.loop-i-init
loop-i-init g c = refl

pub loop-i-preserved : goal.loop-i-preserved
loop-i-preserved g c = let l = c.loop-i in
    rw add-one
    (ap (λ out. set out l.i c.index-items-i.result) l.invariant
    ∙ one-copied c.args.items.now c.args.out.now l.i _ (omega arith) (omega arith) c.index-items-i.is)

pub returns : goal.returns
returns g c = c.loop-i.invariant ∙ front-copied c.loop-i.i c.args.items.now c.args.out.now (omega arith)
