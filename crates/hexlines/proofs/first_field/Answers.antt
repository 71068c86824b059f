-- The field ends where `find` found the space. Assumes nothing.
use mathlib.Core.Path.{◌∙◌}
use Rattle.hexlines.proofs.Fields.{before-space}
use Rattle.hexlines.proofs.first_field.Goals as goal

pub returns : goal.returns
returns c = record { result_value = c.part.ensures.result_value ∙ before-space _ _ c.find.ensures.0; lies_at = c.part.ensures.lies_at }
