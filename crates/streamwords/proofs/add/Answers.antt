-- `streamwords::add` meets its contract: too few words are refused, then the stream decides, and what it is then is packed. Assumes
-- nothing.
use mathlib.Core.Path.{◌∙◌}
use Rattle.streamwords.specs.Calls.{add_tests}
use Rattle.streamwords.proofs.Judging.{too_few, add-refused, add_done}
use Rattle.answers.proofs.Refusals.{passed-keeps}
use Rattle.streamwords.proofs.add.Goals as goal

pub returns-in_err-held-clause-adds : goal.returns-in_err-held-clause-adds
unfolding add_tests
returns-in_err-held-clause-adds c =
    passed-keeps c.from_residual.result _ c.from_residual.ensures.1 (too_few _ _ c.in_err-held.ensures)

pub returns-in_err-stream-clause-adds : goal.returns-in_err-stream-clause-adds
returns-in_err-stream-clause-adds c =
    let held = c.in_ok-held.ensures in
    let r = c.from_residual-in_err-stream in
    add-refused _ held.0 _ (c.unpack.ensures ∙ held.1) r.result _ r.ensures.1 c.in_err-stream.ensures.judged

pub returns-clause-adds : goal.returns-clause-adds
returns-clause-adds c =
    let held = c.in_ok-held.ensures in
    add_done _ held.0 _ (c.unpack.ensures ∙ held.1) c.in_ok-stream.ensures.judged c.pack.ensures
