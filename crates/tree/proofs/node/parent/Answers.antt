-- `tree::node::parent` meets its contract: its message is the byte and the two nodes. Assumes nothing.
use mathlib.Core.List.{[], ◌∷◌, ◌++◌, append-nil}
use mathlib.Core.Path.{◌≡◌, refl, sym, ap, ◌∙◌}
use native.Mathlib.Omega.{arith}
use lib.ListN.{length, length-append}
use borrow.Author.Rules.{rules}
use Rattle.dwsha2.proofs.Limits.{within-limit}
use Rattle.treerule.specs.Root.{node_bytes, node_edition, sha256, parent}
use Rattle.tree.specs.Code.Held.{pair_bytes}
use Rattle.tree.proofs.Hashes.{behind, parent-message}
use Rattle.tree.proofs.node.parent.Goals as goal
use Rattle.tree.proofs.node.parent.Goals.{After-message-5-1}

pub slice_bounds-message-end-2 : goal.slice_bounds-message-end-2
slice_bounds-message-end-2 c = let y = c.put_front.new.out in
    let long : length (y ++ []) ≡ pair_bytes = ap length (append-nil y) ∙ c.put_front.auto.out in
    omega arith

left-long : (c : After-message-5-1) → length c.args.left ≡ node_bytes
left-long c = search rules

right-long : (c : After-message-5-1) → length c.args.right ≡ node_bytes
right-long c = search rules

made : (c : After-message-5-1) →
    behind 1 c.put_front.new.out c.put_front-2.new.out
    ≡ 1 ∷ (c.args.left ++ c.args.right)
made c =
    parent-message 1 c.args.left c.args.right _ (left-long c) (right-long c) refl
    c.put_front.ensures c.put_front-2.ensures

pub slice_bounds-hash-end : goal.slice_bounds-hash-end
slice_bounds-hash-end c = let left = c.args.left in
    let right = c.args.right in
    sym (ap length (made c) ∙ omega (arith, length-append left right, left-long c, right-long c))

pub hash-requires : goal.hash-requires
hash-requires c = within-limit node_edition 0 _ (omega (arith, slice_bounds-hash-end c))

pub returns : goal.returns
unfolding parent
returns c = c.hash.ensures ∙ ap sha256 (made (goal.at.returns c).After-message-5-1)
