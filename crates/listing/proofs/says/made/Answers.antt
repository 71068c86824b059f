-- `listing::says::made` meets its contract: four texts, one behind the other.
use Rattle.fips.specs.Constants.{ascii}
use Rattle.lines.proofs.Putting.{then, renamed}
use Rattle.listing.specs.Says.{made_line}
use Rattle.listing.proofs.says.made.Goals as goal

pub returns : goal.returns
unfolding made_line ascii
returns c = let two = then _ _ _ _ c.append-at.ensures c.count-size.ensures in
    then _ _ _ _ (then _ _ _ _ two c.count-names.ensures) (renamed _ _ _ _ c.title.ensures c.append.ensures)
