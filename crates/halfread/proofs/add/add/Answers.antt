-- `halfread::add::add` meets its contract: each refusal by its test, and the piece taken. Assumes nothing.
use mathlib.Core.Bool.{true, false}
use mathlib.Core.Path.{◌≡◌, refl, sym, ◌∙◌}
use lib.ListN.{length}
use Rattle.answers.specs.Judged.{first}
use Rattle.answers.proofs.Outcome.{refused, done}
use Rattle.dwsha2.specs.Limit.{too_long}
use Rattle.halfread.specs.State.{sound}
use Rattle.halfread.specs.Steps.{add_tests}
use Rattle.halfread.proofs.add.add.Goals as goal
use Rattle.halfread.proofs.add.add.Goals.{Else-not-is_sound, Else-too_long}

pub returns-then-not-is_sound : goal.returns-then-not-is_sound
unfolding add_tests first
returns-then-not-is_sound c = refused (rw (sym c.is_sound.ensures ∙ c.if-not-is_sound.true)) tt refl

is-sound : (c : Else-not-is_sound) → sound c.args.half ≡ true
is-sound c = sym c.is_sound.ensures ∙ c.if-not-is_sound.false

pub returns-then-too_long : goal.returns-then-too_long
unfolding add_tests first
returns-then-too_long c =
    refused (rw (is-sound (goal.at.returns-then-too_long c).Else-not-is_sound, sym c.too_long.ensures ∙ c.if-too_long.true)) tt refl

-- the piece keeps the limit

room : (c : Else-too_long) →
    too_long c.args.half.edition
    c.args.half.count
    (length c.args.piece.now) ≡ false
room c = sym c.too_long.ensures ∙ c.if-too_long.false

pub returns : goal.returns
unfolding add_tests first
returns c = done (rw (is-sound (goal.at.returns c).Else-not-is_sound, room (goal.at.returns c).Else-too_long)) c.with_piece.ensures

pub with_piece-requires : goal.with_piece-requires
with_piece-requires c = (is-sound (goal.at.with_piece-requires c).Else-not-is_sound, room c)
