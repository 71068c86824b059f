-- `night::evening::laid` meets its contract: a layout and two opened bays. Assumes nothing.
use Rattle.night.proofs.Story.{laid-held}
use Rattle.night.proofs.evening.laid.Goals as goal

pub returns : goal.returns
returns c = laid-held _ (c.lay_out.ensures.outcome, c.lay_out.ensures.lends) (c.«open».ensures.outcome, c.«open».ensures.lends)
    (c.open-2.ensures.outcome, c.open-2.ensures.lends)
