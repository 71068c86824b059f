-- `report::reads::reason` meets its contract.
use Rattle.report.proofs.Answered.{not_there, no-permission, folder, failed}
use Rattle.report.proofs.reads.reason.Goals as goal

pub returns-in-2 : goal.returns-in-2
returns-in-2 c = not_there _ c.ranges.errno c.in-2.in-2-own.keys1

pub returns-in-1 : goal.returns-in-1
returns-in-1 c = no-permission _ c.ranges.errno c.in-1.in-1-own.keys2

pub returns-in-21 : goal.returns-in-21
returns-in-21 c = folder _ c.ranges.errno c.in-21.in-21-own.keys3

pub returns-in_default : goal.returns-in_default
returns-in_default c =
    let r = c.in_default.in_default-own.rest in
    failed _ c.ranges.errno r.0.0.1 r.0.1 r.1
