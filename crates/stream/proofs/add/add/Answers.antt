-- `stream::add::add` meets its contract: each refusal by its test, and the piece taken. Assumes nothing.
use Prim.Native.Nat.{◌+◌, ◌≤◌}
use mathlib.Core.Bool.{true}
use mathlib.Core.Path.{◌≡◌, refl, sym, ◌∙◌}
use lib.ListN.{length}
use borrow.Author.Rules.{rules}
use borrow.Author.Tests.{ltb-false}
use Rattle.answers.specs.Judged.{first}
use Rattle.answers.proofs.Outcome.{refused, done}
use Rattle.stream.specs.State.{sound, Shaped}
use Rattle.stream.specs.Steps.{stream_limit, taken, add_tests}
use Rattle.stream.proofs.Soundness.{sound-has}
use Rattle.stream.proofs.add.add.Goals as goal
use Rattle.stream.proofs.add.add.Goals.{After-is_sound, Else-not-is_sound, Else-too_long}

-- what ownership knows: the arrays are as long as they are

shape : (c : After-is_sound) → Shaped c.args.stream
shape c = record { roots = search rules; bytes = search rules }

pub returns-then-not-is_sound : goal.returns-then-not-is_sound
unfolding add_tests first
returns-then-not-is_sound c = record {
  judged = refused (rw (sym c.is_sound.ensures ∙ c.if-not-is_sound.true)) tt refl;
  shaped =
      shape (goal.at.returns-then-not-is_sound c).After-is_sound;
}

is-sound : (c : Else-not-is_sound) → sound c.args.stream ≡ true
is-sound c = sym c.is_sound.ensures ∙ c.if-not-is_sound.false

pub returns-then-too_long : goal.returns-then-too_long
unfolding add_tests first
returns-then-too_long c = record {
  judged = refused (rw (is-sound (goal.at.returns-then-too_long c).Else-not-is_sound, sym c.too_long.ensures ∙ c.if-too_long.true)) tt refl;
  shaped = shape
      (goal.at.returns-then-too_long c).After-is_sound;
}

-- the piece keeps the limit

room : (c : Else-too_long) →
    taken c.args.stream + length c.args.piece.now
    ≤ stream_limit
room c = ltb-false _ _ (sym c.too_long.ensures ∙ c.if-too_long.false)

pub returns : goal.returns
unfolding add_tests first
returns c = record {
  judged = done (rw (is-sound (goal.at.returns c).Else-not-is_sound, sym c.too_long.ensures ∙ c.if-too_long.false))
      c.with_piece.ensures;
  shaped = shape (goal.at.returns c).After-is_sound;
}

pub too_long-requires : goal.too_long-requires
too_long-requires c = (sound-has _ (is-sound c)).counts.limit

pub with_piece-requires : goal.with_piece-requires
with_piece-requires c = (is-sound (goal.at.with_piece-requires c).Else-not-is_sound, room c)
