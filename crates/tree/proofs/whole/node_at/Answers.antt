-- `tree::whole::node_at` meets its contract: what the bytes from there on begin with. Assumes nothing.
use Prim.Native.Nat.{◌*◌}
use mathlib.Core.Path.{ap, ◌∙◌}
use lib.ListN.{take}
use Rattle.slices.proofs.Parts.{part-all}
use Rattle.treerule.specs.Root.{node_bytes}
use Rattle.tree.proofs.whole.node_at.Goals as goal

pub returns : goal.returns
returns c = let first = rw c.unwrap.ensures at c.first_chunk.ensures.cases in
    first.same ∙ ap (take node_bytes) (part-all (c.args.i * node_bytes) c.args.nodes.now)
