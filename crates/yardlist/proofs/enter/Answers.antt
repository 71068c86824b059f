-- `yardlist::enter` meets its contract.
use Rattle.yardlist.proofs.Entering.{entered, not_entered}
use Rattle.yardlist.proofs.enter.Goals as goal

pub returns-in-Whole : goal.returns-in-Whole
returns-in-Whole c =
    let met = c.through.ensures in
    entered _ _ _ _ _ _ met.0 (rw c.in-Whole.is at met.1) c.put.ensures

pub returns-in-TooLong : goal.returns-in-TooLong
returns-in-TooLong c = let met = c.through.ensures in not_entered _ _ _ _ _ _ met.0 met.1

pub returns-in-Unread : goal.returns-in-Unread
returns-in-Unread c = let met = c.through.ensures in not_entered _ _ _ _ _ _ met.0 met.1
