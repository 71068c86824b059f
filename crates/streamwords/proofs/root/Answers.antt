-- `streamwords::root` meets its contract: too few words are refused, and then the stream decides. Assumes nothing.
use mathlib.Core.Path.{◌∙◌}
use Rattle.streamwords.specs.Calls.{root_tests}
use Rattle.streamwords.proofs.Judging.{too_few, root-judged}
use Rattle.answers.proofs.Refusals.{passed-keeps}
use Rattle.streamwords.proofs.root.Goals as goal

pub returns-in_err-held : goal.returns-in_err-held
unfolding root_tests
returns-in_err-held c = passed-keeps c.from_residual.result _ c.from_residual.ensures.1 (too_few _ _ c.in_err-held.ensures)

pub returns : goal.returns
returns c = root-judged _ c.in_ok-held.ensures.0 _ (c.unpack.ensures ∙ c.in_ok-held.ensures.1) c.root.ensures.judged
