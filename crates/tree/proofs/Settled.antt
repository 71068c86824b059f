-- Settled: two outcomes that a public function's own contract allows coincide: what is answered, and all that was lent to be written.
-- `Learnt` is that contract, made from src. SPEC, "How much each call says".
use Prim.Native.Nat.{ℕ}
use mathlib.Core.List.{List}
use Rattle.contracts.specs.Says.{Settles}
use Rattle.contracts.proofs.Values.{value-settled}
use Rattle.answers.specs.Numbers.{Answer}
use Rattle.answers.proofs.Outcome.{answer-both}
use Rattle.tree.specs.contracts.whole.tree as tree
use Rattle.tree.proofs.whole.tree.Reads as tree-reads
use Rattle.tree.specs.contracts.whole.level as level
use Rattle.tree.proofs.whole.level.Reads as level-reads
use Rattle.tree.specs.contracts.node.nothing as nothing
use Rattle.tree.proofs.node.nothing.Reads as nothing-reads
use Rattle.tree.specs.contracts.node.leaf as leaf
use Rattle.tree.proofs.node.leaf.Reads as leaf-reads
use Rattle.tree.specs.contracts.node.parent as parent
use Rattle.tree.proofs.node.parent.Reads as parent-reads

pub tree-settled : Settles {A = Answer × List ℕ} tree.ended tree-reads.Learnt (λ κs r x. (r, x.1.0.now))
tree-settled κs a r s x y = answer-both

pub level-settled : Settles {A = List ℕ} level.ended level-reads.Learnt (λ κs r x. x.0.now)
level-settled κs a r s x y = value-settled

pub nothing-settled : Settles nothing.ended nothing-reads.Learnt (λ κs r x. r)
nothing-settled κs a r s x y = value-settled

pub leaf-settled : Settles leaf.ended leaf-reads.Learnt (λ κs r x. r)
leaf-settled κs a r s x y = value-settled

pub parent_settled : Settles parent.ended parent-reads.Learnt (λ κs r x. r)
parent_settled κs a r s x y = value-settled
