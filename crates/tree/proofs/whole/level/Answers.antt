-- `tree::whole::level` meets its contract. The invariant: j nodes of the level above are in place, and the level above the rest follows
-- them. Assumes nothing.
use Prim.Native.Nat.{ℕ, ◌+◌, ◌-◌, ◌*◌, ◌/◌}
use mathlib.Core.Path.{◌≡◌, ap, subst, ◌∙◌}
use native.Mathlib.Omega.{arith}
use lib.ListN.{length}
use borrow.Author.Rules.{rules}
use Rattle.treerule.specs.Root.{node_bytes}
use Rattle.tree.specs.Code.Held.{node_at}
use Rattle.tree.proofs.InPlace.{Raised, raised-none, raised-pair, raised-lone, raised_all}
use Rattle.tree.proofs.whole.level.Goals as goal

pub loop-j-init : goal.loop-j-init
loop-j-init c = raised-none _ _

pub loop-j-preserved : goal.loop-j-preserved
loop-j-preserved c = let l = c.loop-j in
    let whole : length c.parent.result ≡ node_bytes = search rules in
    raised-pair c.args.nodes.now (length c.args.nodes.now / node_bytes) l.nodes l.j (omega arith) (omega arith)
    l.invariant whole c.node_at-left.ensures c.node_at-right.ensures c.parent.ensures c.put_node.ensures

pub returns-else-count-eq1 : goal.returns-else-count-eq1
returns-else-count-eq1 c = raised_all c.args.nodes.now _ _ (omega arith) c.loop-j.invariant

-- half of an odd count is as many pairs as there are, and the last node is behind them
pub returns-then-count-eq1 : goal.returns-then-count-eq1
returns-then-count-eq1 c = let l = c.loop-j in
    let count = length c.args.nodes.now / node_bytes in
    let half = count / 2 in
    let pairs : l.j ≡ half = omega arith in
    let last : count - 1 ≡ 2 * half = omega arith in
    let whole : length c.node_at-lone.result ≡ node_bytes = search rules in
    raised_all c.args.nodes.now _ (half + 1) (omega arith)
    (raised-lone c.args.nodes.now count l.nodes half (omega arith) (omega arith) (omega arith)
    (subst (λ (n : ℕ). Raised c.args.nodes.now count l.nodes n) pairs l.invariant) whole
    (c.node_at-lone.ensures ∙ ap (λ (n : ℕ). node_at n l.nodes) last) c.put_node-then-count-eq1.ensures)
