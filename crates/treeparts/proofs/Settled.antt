-- Settled: two outcomes that a part's own contract allows coincide: all that was lent to be written. `Learnt` is that contract, made from
-- src. SPEC, "How much each call says".
use Prim.Native.Nat.{ℕ}
use mathlib.Core.List.{List}
use Rattle.contracts.specs.Says.{Settles}
use Rattle.contracts.proofs.Values.{value-settled}
use Rattle.treeparts.specs.contracts.part_leaf as part-leaf
use Rattle.treeparts.proofs.part_leaf.Reads as part-leaf-reads
use Rattle.treeparts.specs.contracts.part_parent as part-parent
use Rattle.treeparts.proofs.part_parent.Reads as part-parent-reads
use Rattle.treeparts.specs.contracts.part_level as part-level
use Rattle.treeparts.proofs.part_level.Reads as part-level-reads

pub part-leaf-settled : Settles {A = List ℕ} part-leaf.ended part-leaf-reads.Learnt (λ κs r x. x.1.0.now)
part-leaf-settled κs a r s x y = value-settled

pub part-parent-settled : Settles {A = List ℕ} part-parent.ended part-parent-reads.Learnt (λ κs r x. x.1.1.0.now)
part-parent-settled κs a r s x y = value-settled

pub part-level-settled : Settles {A = List ℕ} part-level.ended part-level-reads.Learnt (λ κs r x. x.0.now)
part-level-settled κs a r s x y = value-settled
