-- `slices::same::same` meets its contract: what was found so far and what is left of both decide. Assumes nothing.
use mathlib.Core.Path.{sym}
use Rattle.std.proofs.lemmas.Slice.Zip.{either_empty_from_Zip}
use Rattle.slices.proofs.Tests.{compared-none, compared-more, compared-all, same_by-lengths}
use Rattle.slices.proofs.same.same.Goals as goal

pub returns-then-a-b : goal.returns-then-a-b
returns-then-a-b g c = sym (same_by-lengths _ _ _ c.if-a-b.true)

pub loop-x-init : goal.loop-x-init
loop-x-init g c =
    rw (c.into_iter-x-iterator.ensures.into_iter_gives, c.zip-x-items.ensures.first, c.zip-x-items.ensures.second.0, c.iter.ensures.rest)
    (compared-none _ c.if-a-b.false)

pub loop-x-preserved : goal.loop-x-preserved
loop-x-preserved g c = let e = c.in-Some.ensures.steps in
    rw c.eq-same.ensures (compared-more _ (rw (e.0, e.1) at c.loop-x.invariant))

pub returns : goal.returns
returns g c =
    compared-all _ _ _ _ (either_empty_from_Zip c.loop-x.x-iterator c.next.new.self _ c.in-None.is c.next.ensures.steps) c.loop-x.invariant
