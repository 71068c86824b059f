-- `night::evening::evening` meets its contract: the bay of the first file holds what came of it, and that is saved. Assumes nothing.
use mathlib.Core.Path.{◌∙◌}
use Rattle.night.proofs.Story.{saved-half}
use Rattle.night.proofs.evening.evening.Goals as goal

-- the calls, from the last to the first

pub shape_of-table : goal.shape_of-table
shape_of-table c = c.add-3.auto.table ∙ c.add-2.auto.table ∙ c.add.auto.table ∙ c.«open».auto.table ∙ c.laid.auto.table

pub returns : goal.returns
returns c room fit = let g = c.args.files in
    saved-half _ g.cut g.a.now g.b.now g.c.now _ _ _ _ c.part-2.ensures.result_value c.part.ensures.result_value
    c.part-3.ensures.result_value fit (c.laid.ensures room fit.is_known) (c.«open».ensures.outcome, c.«open».ensures.lends)
    (c.add.ensures.outcome, c.add.ensures.lends) (c.add-2.ensures.outcome, c.add-2.ensures.lends)
    (c.add-3.ensures.outcome, c.add-3.ensures.lends) (c.save.ensures.outcome, c.save.ensures.lends)
