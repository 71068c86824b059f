-- `tree-refused`: a tree that is refused leaves the output as it was. It is said of calls of the function, by its own contract.
use Prim.Native.Nat.{◌<◌}
use mathlib.Core.Path.{◌≡◌}
use Rattle.contracts.specs.Says.{Made, exit}
use Rattle.answers.specs.Numbers.{number_of}
use Rattle.answers.proofs.Refusals.{refused-leaves}
use Rattle.tree.specs.contracts.whole.tree as tree
use Rattle.tree.proofs.whole.tree.Reads as tree-reads

pub tree-refused : (m : Made tree.ended tree-reads.Learnt) → 0 < number_of m.result → (exit m).1.0.now ≡ m.args.1.0.now
tree-refused m p = refused-leaves m.learnt p
