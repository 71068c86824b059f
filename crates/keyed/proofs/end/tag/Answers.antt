-- `keyed::end::tag` meets its contract: each refusal by its test, and the tag at the front. Assumes nothing.
use Prim.Native.Nat.{ℕ}
use mathlib.Core.Bool.{true}
use mathlib.Core.List.{List}
use mathlib.Core.Path.{◌≡◌, refl, sym, ap, ◌∙◌}
use borrow.Author.Tests.{lt-ltb, le-ltb}
use Rattle.answers.specs.Judged.{first}
use Rattle.answers.proofs.Outcome.{refused, done}
use Rattle.slices.specs.AtFront.{at_front}
use Rattle.keyed.specs.State.{sound}
use Rattle.keyed.specs.Steps.{tag_tests}
use Rattle.keyed.proofs.end.tag.Goals as goal
use Rattle.keyed.proofs.end.tag.Goals.{Else-not-is_sound}

pub returns-then-not-is_sound-clause-judged : goal.returns-then-not-is_sound-clause-judged
unfolding tag_tests first
returns-then-not-is_sound-clause-judged c = refused (rw (sym c.is_sound.ensures ∙ c.if-not-is_sound.true)) tt refl

is-sound : (c : Else-not-is_sound) → sound c.args.keyed ≡ true
is-sound c = sym c.is_sound.ensures ∙ c.if-not-is_sound.false

pub returns-then-out-digest_bytes-clause-judged : goal.returns-then-out-digest_bytes-clause-judged
unfolding tag_tests first
returns-then-out-digest_bytes-clause-judged c =
    refused
    (rw (
      is-sound (goal.at.returns-then-out-digest_bytes-clause-judged c).Else-not-is_sound,
      ← c.digest_bytes.ensures,
      lt-ltb _ _ c.if-out-digest_bytes.true,
    )) tt refl

pub returns-clause-judged : goal.returns-clause-judged
unfolding tag_tests first
returns-clause-judged c =
    done
    (rw (is-sound (goal.at.returns-clause-judged c).Else-not-is_sound, ← c.digest_bytes.ensures, le-ltb _ _ c.if-out-digest_bytes.false))
    (c.put_front.ensures ∙ ap (λ (l : List ℕ). at_front l c.args.out.now) (c.bytes.ensures ∙ c.ended.ensures))
