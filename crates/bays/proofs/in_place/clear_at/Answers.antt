-- `bays::in_place::clear_at` meets its contract: past the gate zeros are put where the bay lies. Assumes nothing.
use Prim.Native.Nat.{ℕ}
use mathlib.Core.Path.{sym, ap, ◌∙◌}
use lib.ListN.{replicate}
use Rattle.bays.specs.Table.{put_bay}
use Rattle.bays.proofs.Frames.{bay-back, length-bay}
use Rattle.bays.proofs.Header.{gate-writes}
use Rattle.bays.proofs.in_place.clear_at.Goals as goal

pub returns : goal.returns
returns c = let t = c.args.table.now in
    let place = c.in-Ok.ensures.value in
    bay-back t c.clear.new.words c.args.bay _ place.0
    ∙ ap (put_bay t c.args.bay)
    (c.clear.ensures ∙ ap (λ (n : ℕ). replicate {A = ℕ} n 0) (length-bay t c.args.bay _ place.0 place.1))
    ∙ sym (gate-writes t c.args.bay (sym c.in-Ok.ensures.answer))
