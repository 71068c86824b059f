-- `tree::node::hash` meets its contract: hash at once refuses nothing here. Assumes nothing.
use mathlib.Core.Path.{refl}
use Rattle.tree.proofs.Hashes.{hash-done, hash-law}
use Rattle.tree.proofs.node.hash.Goals as goal

pub unwrap-requires : goal.unwrap-requires
unwrap-requires c = hash-done c.args.message.now _ c.hash.result c.requires refl c.hash.ensures

pub returns : goal.returns
returns c = hash-law c.args.message.now _ c.requires refl c.hash.ensures
