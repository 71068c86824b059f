-- `tree::whole::root` meets its contract: the leaves of all chunks, and the node above them. Assumes nothing.
use Prim.Native.Nat.{ℕ}
use mathlib.Core.Path.{◌≡◌, sym, ap, ◌∙◌}
use borrow.Author.Tests.{eqb-true}
use native.Mathlib.Omega.{arith}
use lib.ListN.{length}
use Rattle.treerule.specs.Root.{chunk_count, chunks, top}
use Rattle.treerule.proofs.Root.{root_none}
use Rattle.tree.specs.Code.Held.{held}
use Rattle.tree.proofs.InPlace.{root-steps}
use Rattle.tree.proofs.whole.root.Goals as goal

pub returns-then-is_empty : goal.returns-then-is_empty
returns-then-is_empty c = c.nothing.ensures ∙ sym (root_none c.args.map.now (eqb-true _ 0 (sym c.is_empty.ensures ∙ c.if-is_empty.true)))

pub returns : goal.returns
unfolding chunks
returns c = let map = c.args.map.now in
    let many : c.div_ceil.result ≡ chunk_count (length map) = omega arith in
    root-steps map _ c.leaves.ensures (c.node_at.ensures ∙ c.rise.ensures ∙ ap (λ (n : ℕ). top (held n c.leaves.new.nodes)) many)
