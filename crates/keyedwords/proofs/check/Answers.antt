-- `keyedwords::check` meets its contract: too few words are refused, and then the keyed hash decides. Assumes nothing.
use mathlib.Core.Path.{ap, ◌∙◌}
use Rattle.answers.specs.Numbers.{number_of}
use Rattle.keyedwords.specs.Calls.{check_tests}
use Rattle.keyedwords.proofs.Judging.{too_few, check-judged}
use Rattle.answers.proofs.Refusals.{passed-on}
use Rattle.keyedwords.proofs.check.Goals as goal

pub returns-in_err-held : goal.returns-in_err-held
unfolding check_tests
returns-in_err-held c =
    ap number_of (passed-on c.from_residual.result _ c.from_residual.ensures.1) ∙ too_few _ _ c.in_err-held.ensures

pub returns : goal.returns
returns c = check-judged _ c.in_ok-held.ensures.0 _ (c.unpack.ensures ∙ c.in_ok-held.ensures.1) c.check.ensures
