-- `keyed::end::check` meets its contract: a tag is the same as the one that is made, or it differs. Assumes nothing.
use mathlib.Core.Bool.{true}
use mathlib.Core.Path.{◌≡◌, sym, ap, ◌∙◌}
use Rattle.answers.specs.Judged.{first}
use Rattle.slices.specs.Tests.{same}
use Rattle.keyed.specs.State.{sound}
use Rattle.keyed.specs.Steps.{tag_of, check_tests}
use Rattle.keyed.proofs.end.check.Goals as goal
use Rattle.keyed.proofs.end.check.Goals.{After-same, Else-not-is_sound}

pub returns-then-not-is_sound : goal.returns-then-not-is_sound
unfolding check_tests first
returns-then-not-is_sound c = rw (sym c.is_sound.ensures ∙ c.if-not-is_sound.true)

is-sound : (c : Else-not-is_sound) → sound c.args.keyed ≡ true
is-sound c = sym c.is_sound.ensures ∙ c.if-not-is_sound.false

-- what is compared with

compared : (c : After-same) → c.same.result ≡ same c.args.tag.now (tag_of c.args.keyed)
compared c = c.same.ensures ∙ ap (same c.args.tag.now) (c.bytes.ensures ∙ c.ended.ensures)

pub returns-then-not-same : goal.returns-then-not-same
unfolding check_tests first
returns-then-not-same c =
    rw (
      is-sound (goal.at.returns-then-not-same c).Else-not-is_sound,
      sym (compared (goal.at.returns-then-not-same c).After-same) ∙ c.if-not-same.true,
    )

pub returns : goal.returns
unfolding check_tests first
returns c = rw (
  is-sound (goal.at.returns c).Else-not-is_sound,
  sym (compared (goal.at.returns c).After-same)
      ∙ c.if-not-same.false,
)
