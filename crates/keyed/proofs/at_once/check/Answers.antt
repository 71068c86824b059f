-- `keyed::at_once::check` meets its contract: a tag is the same as the one that is made, or it differs. Assumes nothing.
use mathlib.Core.Bool.{true, false}
use mathlib.Core.Path.{◌≡◌, sym, ap, ◌∙◌}
use lib.ListN.{length}
use Rattle.answers.specs.Judged.{first}
use Rattle.slices.specs.Tests.{same}
use Rattle.hmac.specs.Hmac.{hmac}
use Rattle.keyed.specs.AtOnce.{length_tests, check_at_once_tests}
use Rattle.keyed.proofs.Judging.{lengths-passed, check-first, message-short}
use Rattle.keyed.proofs.at_once.check.Goals as goal
use Rattle.answers.proofs.Refusals.{passed-first}
use Rattle.keyed.proofs.at_once.check.Goals.{After-same, In_ok-gate}

pub returns-in_err-gate : goal.returns-in_err-gate
unfolding check_at_once_tests
returns-in_err-gate c = passed-first c.from_residual.result _ c.from_residual.ensures.1 (length_tests _ _ _) _ c.in_err-gate.ensures

gated : (c : In_ok-gate) → first (length_tests c.args.edition (length c.args.key.now) (length c.args.message.now)) ≡ 0
gated c = sym c.in_ok-gate.ensures

pub made-requires : goal.made-requires
made-requires c = message-short _ _ _ (gated (goal.at.made-requires c).In_ok-gate)

-- what is compared with

compared : (c : After-same) → c.same.result ≡ same c.args.tag.now (hmac c.args.edition c.args.key.now c.args.message.now)
compared c = c.same.ensures ∙ ap (same c.args.tag.now) (c.bytes.ensures ∙ c.made.ensures)

pub returns-then-not-same : goal.returns-then-not-same
returns-then-not-same c = let pass = lengths-passed _ _ _ (gated (goal.at.returns-then-not-same c).In_ok-gate) in
    sym (check-first _ _ _ _ pass false (sym (compared (goal.at.returns-then-not-same c).After-same)
    ∙ c.if-not-same.true))

pub returns : goal.returns
returns c = let pass = lengths-passed _ _ _ (gated (goal.at.returns c).In_ok-gate) in
    sym (check-first _ _ _ _ pass true (sym (compared (goal.at.returns c).After-same) ∙ c.if-not-same.false))
