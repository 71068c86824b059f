-- `bays::in_place::put_at` meets its contract: past the gate the bay is packed where it lies. Assumes nothing.
use mathlib.Core.Path.{sym, ap, ◌∙◌}
use Rattle.bays.specs.Table.{put_bay}
use Rattle.bays.proofs.Frames.{bay-back}
use Rattle.bays.proofs.Header.{gate-writes}
use Rattle.bays.proofs.in_place.put_at.Goals as goal

pub returns : goal.returns
returns c = let t = c.args.table.now in
    bay-back t c.pack.new.bay c.args.bay _ c.in-Ok.ensures.value.0
    ∙ ap (put_bay t c.args.bay) c.pack.ensures
    ∙ sym (gate-writes t c.args.bay (sym c.in-Ok.ensures.answer))
