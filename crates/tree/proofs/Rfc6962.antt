-- `tree-rfc6962`: a tree that is answered Done leaves the tree hash of the map's chunks at the front of the output, and what was there
-- behind it. It is said of calls of the function, by its own contract, and for every function that keeps RFC 6962's rules.
use Prim.Native.Nat.{ℕ}
use mathlib.Core.List.{List}
use mathlib.Core.Path.{◌≡◌, ap, ◌∙◌}
use Rattle.contracts.specs.Says.{Made, exit}
use Rattle.std.specs.Prelude.{Ok}
use Rattle.answers.proofs.Refusals.{done-leaves}
use Rattle.slices.specs.AtFront.{at_front}
use Rattle.treerule.specs.Root.{Node, chunks, leaf}
use Rattle.treerule.specs.Split.{Rfc6962}
use Rattle.treerule.proofs.Root.{root-rfc6962}
use Rattle.tree.specs.Tree.{rooted}
use Rattle.tree.specs.contracts.whole.tree as tree
use Rattle.tree.proofs.whole.tree.Reads as tree-reads

pub tree-rfc6962 : {hash : List (List ℕ) → Node} → Rfc6962 leaf hash → (m : Made tree.ended tree-reads.Learnt) → m.result ≡ Ok tt →
    (exit m).1.0.now ≡ at_front (hash (chunks m.args.0.now)) m.args.1.0.now
unfolding rooted
tree-rfc6962 rule m e =
    done-leaves m.learnt e ∙ ap (λ (node : Node). at_front node m.args.1.0.now) (root-rfc6962 rule m.args.0.now)
