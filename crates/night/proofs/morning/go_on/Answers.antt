-- `night::morning::go_on` meets its contract: each bay gets what its file still lacks. Assumes nothing.
use mathlib.Core.Path.{◌∙◌}
use Rattle.night.proofs.Story.{gone-on}
use Rattle.night.proofs.morning.go_on.Goals as goal

-- the calls, from the last to the first

pub shape_of-table : goal.shape_of-table
shape_of-table c = c.add-5.auto.table ∙ c.add-4.auto.table ∙ c.add-3.auto.table ∙ c.add-2.auto.table ∙ c.add.auto.table

pub returns : goal.returns
returns c fit held = let g = c.args.files in
    gone-on _ g.cut g.a.now g.b.now g.c.now _ _ _ _ _ c.part-2.ensures.result_value c.part.ensures.result_value
    c.part-4.ensures.result_value c.part-3.ensures.result_value c.part-5.ensures.result_value fit held
    (c.add.ensures.outcome, c.add.ensures.lends) (c.add-2.ensures.outcome, c.add-2.ensures.lends)
    (c.add-3.ensures.outcome, c.add-3.ensures.lends) (c.add-4.ensures.outcome, c.add-4.ensures.lends)
    (c.add-5.ensures.outcome, c.add-5.ensures.lends)
