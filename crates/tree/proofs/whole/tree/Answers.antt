-- `tree::whole::tree` meets its contract: each refusal by its test, and the root at the front of the output. Assumes nothing.
use mathlib.Core.List.{List}
use mathlib.Core.Path.{refl, ap, ◌∙◌}
use Prim.Native.Nat.{ℕ}
use borrow.Author.Tests.{lt-ltb, le-ltb}
use Rattle.answers.specs.Judged.{first}
use Rattle.answers.proofs.Outcome.{refused, done}
use Rattle.slices.specs.AtFront.{at_front}
use Rattle.treerule.specs.Root.{node_bytes}
use Rattle.tree.specs.Tree.{tree_limit, tree_tests, rooted}
use Rattle.tree.proofs.whole.tree.Goals as goal

pub returns-then-map-gt-LIMIT : goal.returns-then-map-gt-LIMIT
unfolding tree_tests first
returns-then-map-gt-LIMIT c = refused (rw (lt-ltb tree_limit _ c.if-map-gt-LIMIT.true)) tt refl

pub returns-then-out-lt-NODE : goal.returns-then-out-lt-NODE
unfolding tree_tests first
returns-then-out-lt-NODE c = refused (rw (le-ltb tree_limit _ c.if-map-gt-LIMIT.false, lt-ltb _ node_bytes c.if-out-lt-NODE.true)) tt refl

pub returns : goal.returns
unfolding tree_tests first rooted
returns c = done
    (rw (le-ltb tree_limit _ c.if-map-gt-LIMIT.false, le-ltb _ node_bytes c.if-out-lt-NODE.false))
    (c.put_front.ensures
    ∙ ap (λ (l : List ℕ). at_front l c.args.out.now) c.root-node.ensures)
