-- `night::morning::morning` meets its contract: laid out, taken up from the record and gone on with. Assumes nothing.
use mathlib.Core.Path.{◌∙◌}
use Rattle.night.proofs.Story.{taken-up}
use Rattle.night.proofs.morning.morning.Goals as goal

pub returns : goal.returns
returns c all room fit same = let x = c.args.files in
    c.go_on.ensures fit
    (taken-up _ x.cut x.a.now x.b.now x.c.now _ all fit (c.laid.ensures room fit.is_known)
    (c.part.ensures.result_value ∙ same) (c.take_up.ensures.outcome, c.take_up.ensures.lends))
