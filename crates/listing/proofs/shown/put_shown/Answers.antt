-- `listing::shown::put_shown` meets its contract: after so many turns so many bytes are shown.
use Rattle.std.proofs.Common.{ap, add-one, arith, take_all, rules}
use Rattle.lines.proofs.Putting.{then, renamed}
use Rattle.listing.specs.Shown.{shown}
use Rattle.listing.proofs.Visible.{none-shown, shown-more}
use Rattle.listing.proofs.shown.put_shown.Goals as goal

pub loop-b-init : goal.loop-b-init
loop-b-init c = (search rules, none-shown _ _ _ c.min-end.ensures)

pub loop-b-preserved : goal.loop-b-preserved
loop-b-preserved c =
    let l = c.loop-b in
    let both = then _ _ _ _ l.invariant.1 c.put_byte-end.ensures in
    (search rules, rw add-one (renamed _ _ _ _ (shown-more _ l.b-index (omega arith)) both))

pub returns : goal.returns
returns c =
    let l = c.loop-b in
    renamed _ _ _ _ (ap shown (take_all l.b-index _ (omega arith))) l.invariant.1
