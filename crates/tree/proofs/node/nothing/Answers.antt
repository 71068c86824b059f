-- `tree::node::nothing` meets its contract: a message of no bytes is not too long. Assumes nothing.
use Rattle.dwsha2.proofs.Limits.{no_length}
use Rattle.treerule.specs.Root.{node_edition}
use Rattle.tree.proofs.node.nothing.Goals as goal

pub hash-requires : goal.hash-requires
hash-requires c = no_length node_edition

pub returns : goal.returns
returns c = c.hash.ensures
