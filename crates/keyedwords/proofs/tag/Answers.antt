-- `keyedwords::tag` meets its contract: too few words are refused, and then the keyed hash decides. Assumes nothing.
use mathlib.Core.Path.{◌∙◌}
use Rattle.keyedwords.specs.Calls.{tag_tests}
use Rattle.keyedwords.proofs.Judging.{too_few, tag-judged}
use Rattle.answers.proofs.Refusals.{passed-keeps}
use Rattle.keyedwords.proofs.tag.Goals as goal

pub returns-in_err-held : goal.returns-in_err-held
unfolding tag_tests
returns-in_err-held c = passed-keeps c.from_residual.result _ c.from_residual.ensures.1 (too_few _ _ c.in_err-held.ensures)

pub returns : goal.returns
returns c = tag-judged _ c.in_ok-held.ensures.0 _ (c.unpack.ensures ∙ c.in_ok-held.ensures.1) c.tag.ensures.judged
