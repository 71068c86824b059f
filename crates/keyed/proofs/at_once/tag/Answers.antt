-- `keyed::at_once::tag` meets its contract: each refusal by its test, and the tag at the front. Assumes nothing.
use Prim.Native.Nat.{ℕ}
use mathlib.Core.List.{List}
use mathlib.Core.Path.{◌≡◌, refl, sym, ap, ◌∙◌}
use borrow.Author.Tests.{lt-ltb, le-ltb}
use lib.ListN.{length}
use Rattle.answers.specs.Judged.{first}
use Rattle.answers.proofs.Outcome.{refused, done}
use Rattle.answers.proofs.Refusals.{went_on, passed-stops}
use Rattle.slices.specs.AtFront.{at_front}
use Rattle.keyed.specs.AtOnce.{length_tests, tag_at_once_tests}
use Rattle.keyed.proofs.Judging.{message-short}
use Rattle.keyed.proofs.at_once.tag.Goals as goal
use Rattle.keyed.proofs.at_once.tag.Goals.{In_ok-gate}

pub returns-in_err-gate : goal.returns-in_err-gate
unfolding tag_at_once_tests
returns-in_err-gate c = passed-stops c.from_residual.result _ c.from_residual.ensures.1 (length_tests _ _ _) _ c.in_err-gate.ensures

gated : (c : In_ok-gate) → first (length_tests c.args.edition (length c.args.key.now) (length c.args.message.now)) ≡ 0
gated c = sym c.in_ok-gate.ensures

pub returns-then-out-digest_bytes : goal.returns-then-out-digest_bytes
unfolding tag_at_once_tests first
returns-then-out-digest_bytes c = went_on (length_tests _ _ _) _ tt (gated (goal.at.returns-then-out-digest_bytes c).In_ok-gate)
    (refused (rw (← c.digest_bytes.ensures, lt-ltb _ _ c.if-out-digest_bytes.true)) tt refl)

pub made-requires : goal.made-requires
made-requires c = message-short _ _ _ (gated (goal.at.made-requires c).In_ok-gate)

pub returns : goal.returns
unfolding tag_at_once_tests first
returns c =
    went_on (length_tests _ _ _) _ tt (gated (goal.at.returns c).In_ok-gate)
    (done (rw (← c.digest_bytes.ensures, le-ltb _ _ c.if-out-digest_bytes.false))
    (c.put_front.ensures ∙ ap (λ (l : List ℕ). at_front l c.args.out.now) (c.bytes.ensures ∙ c.made.ensures)))
