-- `night::morning::close_all` meets its contract: three bays closed, each into its output. Assumes nothing.
use Rattle.night.proofs.Story.{closed_all}
use Rattle.night.proofs.morning.close_all.Goals as goal

pub returns : goal.returns
returns c e x y z held room = closed_all e x y z _ _ _ held room (c.close.ensures.outcome, c.close.ensures.lends)
    (c.close-2.ensures.outcome, c.close-2.ensures.lends) (c.close-3.ensures.outcome, c.close-3.ensures.lends)
