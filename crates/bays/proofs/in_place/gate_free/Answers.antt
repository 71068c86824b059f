-- `bays::in_place::gate_free` meets its contract: past the gate an empty bay is free, a sound one taken. Assumes nothing.
use mathlib.Core.Path.{sym, ap, ◌∙◌}
use Rattle.halfread.specs.State.{sound}
use Rattle.bays.specs.Bay.{half_of}
use Rattle.bays.proofs.Refusals.{gate-refused, zero-empty, free-empty, free_taken, free-unsound}
use Rattle.bays.proofs.in_place.gate_free.Goals as goal

pub returns-in_err-words : goal.returns-in_err-words
returns-in_err-words c = gate-refused _ _ _ c.from_residual.result _ c.from_residual.ensures.1 c.in_err-words.ensures.answer

pub returns-then-words_zero : goal.returns-then-words_zero
returns-then-words_zero c = let w = c.in_ok-words.ensures in
    free-empty _ _ w.answer (zero-empty _ _ w.value c.if-words_zero.ensures)

pub returns-then-is_sound : goal.returns-then-is_sound
returns-then-is_sound c = let w = c.in_ok-words.ensures in
    free_taken _ _ w.answer (zero-empty _ _ w.value c.if-words_zero.ensures)
    (sym (c.if-is_sound.ensures ∙ ap sound (c.unpack.ensures ∙ ap half_of w.value)))

pub returns : goal.returns
returns c = let w = c.in_ok-words.ensures in
    free-unsound _ _ w.answer (zero-empty _ _ w.value c.if-words_zero.ensures)
    (sym (c.if-is_sound.ensures ∙ ap sound (c.unpack.ensures ∙ ap half_of w.value)))
