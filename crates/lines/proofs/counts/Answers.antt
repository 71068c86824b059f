-- `lines::counts` meets its contract: four numbers, each with what it counts.
use Rattle.fips.specs.Constants.{ascii}
use Rattle.lines.specs.Lines.{count_line}
use Rattle.lines.proofs.Putting.{then}
use Rattle.lines.proofs.counts.Goals as goal

pub returns : goal.returns
unfolding count_line ascii
returns c = let two = then _ _ _ _ c.count-listed.ensures c.count-ok.ensures in
    then _ _ _ _ (then _ _ _ _ two c.count-bad.ensures) c.count.ensures
