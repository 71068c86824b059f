-- `tree::node::leaf` meets its contract: its message is the byte and the first chunk. Assumes nothing.
use mathlib.Core.List.{[], ◌++◌, append-nil}
use mathlib.Core.Path.{◌≡◌, refl, sym, ap, ◌∙◌}
use native.Mathlib.Omega.{arith}
use lib.ListN.{length}
use lib.Seq.{length-take-le}
use Rattle.dwsha2.proofs.Limits.{within-limit}
use Rattle.treerule.specs.Root.{chunk_bytes, node_edition, sha256, leaf}
use Rattle.tree.proofs.Hashes.{leaf-message}
use Rattle.tree.proofs.node.leaf.Goals as goal
use Rattle.tree.proofs.node.leaf.Goals.{After-least-end}

pub slice_bounds-message-end-2 : goal.slice_bounds-message-end-2
slice_bounds-message-end-2 c = let y = c.put_front.new.out in
    let long : length (y ++ []) ≡ chunk_bytes = ap length (append-nil y) ∙ c.put_front.auto.out in
    omega (arith, c.least-end.ensures)

pub slice_bounds-hash-end : goal.slice_bounds-hash-end
slice_bounds-hash-end c = sym (length-take-le _ _ (slice_bounds-message-end-2 (goal.at.slice_bounds-hash-end c).After-least-end))

pub hash-requires : goal.hash-requires
hash-requires c = within-limit node_edition 0 _ (omega (arith, slice_bounds-hash-end c, c.least-end.ensures))

pub returns : goal.returns
unfolding leaf
returns c = let bytes = c.args.bytes.now in
    c.hash.ensures
    ∙ ap sha256
    (leaf-message 0 bytes _ chunk_bytes refl c.put_front.ensures c.least-end.ensures)
