-- `stream::root::root` meets its contract: each refusal by its test, and the root at the front of the output. Assumes nothing.
use Prim.Native.Nat.{ℕ}
use mathlib.Core.Bool.{true}
use mathlib.Core.List.{List}
use mathlib.Core.Path.{◌≡◌, refl, sym, ap, ◌∙◌}
use borrow.Author.Rules.{rules}
use borrow.Author.Tests.{lt-ltb, le-ltb}
use Rattle.answers.specs.Judged.{first}
use Rattle.answers.proofs.Outcome.{refused, done}
use Rattle.slices.specs.AtFront.{at_front}
use Rattle.treerule.specs.Root.{node_bytes}
use Rattle.stream.specs.State.{sound, Shaped}
use Rattle.stream.specs.Steps.{root_tests}
use Rattle.stream.proofs.root.root.Goals as goal
use Rattle.stream.proofs.root.root.Goals.{After-is_sound, Else-not-is_sound}

-- what ownership knows: the arrays are as long as they are

shape : (c : After-is_sound) → Shaped c.args.stream
shape c = record { roots = search rules; bytes = search rules }

pub returns-then-not-is_sound : goal.returns-then-not-is_sound
unfolding root_tests first
returns-then-not-is_sound c = record {
  judged = refused (rw (sym c.is_sound.ensures ∙ c.if-not-is_sound.true)) tt refl;
  shaped =
      shape (goal.at.returns-then-not-is_sound c).After-is_sound;
}

is-sound : (c : Else-not-is_sound) → sound c.args.stream ≡ true
is-sound c = sym c.is_sound.ensures ∙ c.if-not-is_sound.false

pub returns-then-out-lt-NODE : goal.returns-then-out-lt-NODE
unfolding root_tests first
returns-then-out-lt-NODE c =
    record {
      judged =
          refused (rw (is-sound (goal.at.returns-then-out-lt-NODE c).Else-not-is_sound, lt-ltb _ node_bytes c.if-out-lt-NODE.true)) tt refl;
      shaped = shape (goal.at.returns-then-out-lt-NODE c).After-is_sound;
    }

pub returns : goal.returns
unfolding root_tests first
returns c = record {
  judged = done (rw (is-sound (goal.at.returns c).Else-not-is_sound, le-ltb _ node_bytes c.if-out-lt-NODE.false))
      (c.put_front.ensures
      ∙ ap (λ (l : List ℕ). at_front l c.args.out.now) c.root_of-node.ensures);
  shaped = shape (goal.at.returns c).After-is_sound;
}

pub root_of-node-requires : goal.root_of-node-requires
root_of-node-requires c = is-sound (goal.at.root_of-node-requires c).Else-not-is_sound
