-- `keyed::state::is_sound` meets its contract: the inner message, and then the other rules decide. Assumes nothing.
use mathlib.Core.Path.{sym, ◌∙◌}
use Rattle.keyed.proofs.Soundness.{inner-unsound, more-decides}
use Rattle.keyed.proofs.state.is_sound.Goals as goal

pub returns-then-not-is_sound : goal.returns-then-not-is_sound
returns-then-not-is_sound c = sym (inner-unsound _ (sym c.is_sound.ensures ∙ c.if-not-is_sound.true))

pub returns : goal.returns
returns c = c.keeps_more.ensures ∙ sym (more-decides _ (sym c.is_sound.ensures ∙ c.if-not-is_sound.false))
