-- `listing::names::name` meets its contract: what begins at the place is what stands behind so many names.
use Rattle.std.proofs.Common.{◌≡◌, ℕ, refl, ap, ◌∙◌, sym, add-one, arith}
use Rattle.slices.proofs.LiesAt.{lies-also}
use Rattle.listing.specs.Names.{names_from}
use Rattle.listing.proofs.ByZeros.{from-next, name-here, place_here}
use Rattle.listing.proofs.names.name.Goals as goal

pub loop-init : goal.loop-init
unfolding names_from
loop-init c = (omega arith, refl)

pub loop-preserved : goal.loop-preserved
loop-preserved c =
    let l = c.loop in
    let next = c.behind_zero-at.ensures in
    (next.0, next.1 ∙ rw (l.invariant.1, add-one) (sym (from-next l.counter _)))

pub returns : goal.returns
returns c =
    let l = c.loop in
    let last : l.counter ≡ c.args.i = omega arith in
    let from = l.invariant.1 ∙ ap (λ (k : ℕ). names_from k c.args.input.now) last in
    record {
      result_value = c.part.ensures.result_value ∙ name-here _ _ l.at _ c.before_zero.ensures.0 from;
      lies_at = lies-also (place_here _ _ l.at l.invariant.0 from) c.part.ensures.lies_at;
    }
