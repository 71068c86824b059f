-- The store is the word that `next` answers, whatever the block. Assumes nothing.
use Rattle.std.proofs.lemmas.List.{map-set}
use Rattle.block.proofs.extend.Goals as goal

pub returns : goal.returns
returns g c m = rw (map-set, c.next.ensures m)
