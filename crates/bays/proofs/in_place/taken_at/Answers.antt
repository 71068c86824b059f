-- `bays::in_place::taken_at` meets its contract: what a taken bay holds, or nothing. Assumes nothing.
use mathlib.Core.Path.{refl, sym, ap, ◌∙◌}
use Rattle.answers.proofs.Outcome.{refused, done}
use Rattle.bays.specs.Bay.{half_of}
use Rattle.bays.proofs.Refusals.{gate-refuses, zero-empty, taken-empty, taken-full}
use Rattle.answers.proofs.Refusals.{passed-judged}
use Rattle.bays.proofs.in_place.taken_at.Goals as goal

pub returns-in_err-words : goal.returns-in_err-words
returns-in_err-words c =
    passed-judged c.from_residual.result _ c.from_residual.ensures.1 (gate-refuses _ _ _ _ c.in_err-words.ensures.answer)

pub returns-then-words_zero : goal.returns-then-words_zero
returns-then-words_zero c = let w = c.in_ok-words.ensures in
    refused (sym (taken-empty _ _ w.answer (zero-empty _ _ w.value c.if-words_zero.ensures))) tt refl

pub returns : goal.returns
returns c = let w = c.in_ok-words.ensures in
    done (sym (taken-full _ _ w.answer (zero-empty _ _ w.value c.if-words_zero.ensures))) (c.unpack.ensures ∙ ap half_of w.value)
