-- `bays::in_place::gate_taken` meets its contract: the gate's answer, or 4 of an empty bay. Assumes nothing.
use Rattle.bays.proofs.Refusals.{gate-refused, zero-empty, taken-empty, taken-full}
use Rattle.bays.proofs.in_place.gate_taken.Goals as goal

pub returns-in_err-words_at : goal.returns-in_err-words_at
returns-in_err-words_at c = gate-refused _ _ _ c.from_residual.result _ c.from_residual.ensures.1 c.in_err-words_at.ensures.answer

pub returns-then-words_zero : goal.returns-then-words_zero
returns-then-words_zero c = let w = c.in_ok-words_at.ensures in
    taken-empty _ _ w.answer (zero-empty _ _ w.value c.if-words_zero.ensures)

pub returns : goal.returns
returns c = let w = c.in_ok-words_at.ensures in
    taken-full _ _ w.answer (zero-empty _ _ w.value c.if-words_zero.ensures)
