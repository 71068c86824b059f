-- `records::save` meets its contract: each refusal by its test, and the record at the front. Assumes nothing.
use Prim.Native.Nat.{ℕ}
use mathlib.Core.Bool.{true}
use mathlib.Core.List.{List}
use mathlib.Core.Path.{◌≡◌, refl, sym, ap, ◌∙◌}
use borrow.Author.Tests.{lt-ltb, le-ltb}
use Rattle.answers.specs.Judged.{first}
use Rattle.answers.proofs.Outcome.{refused, done}
use Rattle.slices.specs.AtFront.{at_front}
use Rattle.halfread.specs.State.{sound}
use Rattle.records.specs.Record.{save_tests}
use Rattle.records.proofs.save.Goals as goal
use Rattle.records.proofs.save.Goals.{Else-not-is_sound}

pub returns-then-not-is_sound : goal.returns-then-not-is_sound
unfolding save_tests first
returns-then-not-is_sound c = refused (rw (sym c.is_sound.ensures ∙ c.if-not-is_sound.true)) tt refl

is-sound : (c : Else-not-is_sound) → sound c.args.half ≡ true
is-sound c = sym c.is_sound.ensures ∙ c.if-not-is_sound.false

pub returns-then-out-record_length : goal.returns-then-out-record_length
unfolding save_tests first
returns-then-out-record_length c =
    refused (rw (
      is-sound (goal.at.returns-then-out-record_length c).Else-not-is_sound,
      ← c.record_length.ensures,
      lt-ltb _ _ c.if-out-record_length.true,
    )) tt refl

pub returns : goal.returns
unfolding save_tests first
returns c =
    done (rw (is-sound (goal.at.returns c).Else-not-is_sound, ← c.record_length.ensures, le-ltb _ _ c.if-out-record_length.false))
    (c.put_front.ensures ∙ ap (λ (l : List ℕ). at_front l c.args.out.now) (c.bytes.ensures ∙ c.record_of.ensures))
