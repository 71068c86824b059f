-- `bays::in_place::sound_at` meets its contract: what a sound bay holds, or nothing. Assumes nothing.
use mathlib.Core.Path.{refl, sym, ap, ◌∙◌}
use Rattle.answers.proofs.Outcome.{refused, done}
use Rattle.halfread.specs.State.{sound}
use Rattle.bays.specs.Bay.{half_of}
use Rattle.bays.proofs.Packing.{sound_bay-empty, sound_bay-taken}
use Rattle.bays.proofs.Refusals.{gate-refuses, zero-empty, sound-first, unsound-first}
use Rattle.answers.proofs.Refusals.{passed-judged}
use Rattle.bays.proofs.in_place.sound_at.Goals as goal

pub returns-in_err-words : goal.returns-in_err-words
returns-in_err-words c =
    passed-judged c.from_residual.result _ c.from_residual.ensures.1 (gate-refuses _ _ _ _ c.in_err-words.ensures.answer)

pub returns-then-words_zero : goal.returns-then-words_zero
returns-then-words_zero c = let w = c.in_ok-words.ensures in
    done (sym (sound-first _ _ w.answer (sound_bay-empty _ (zero-empty _ _ w.value c.if-words_zero.ensures))))
    (c.unpack-half.ensures ∙ ap half_of w.value)

pub returns-then-not-is_sound : goal.returns-then-not-is_sound
returns-then-not-is_sound c = let w = c.in_ok-words.ensures in
    refused (sym (unsound-first _ _ w.answer
    (sound_bay-taken _ (zero-empty _ _ w.value c.if-words_zero.ensures)
    ∙ sym (c.if-not-is_sound.ensures ∙ ap sound (c.unpack-half.ensures ∙ ap half_of w.value))))) tt refl

pub returns : goal.returns
returns c = let w = c.in_ok-words.ensures in
    done (sym (sound-first _ _ w.answer
    (sound_bay-taken _ (zero-empty _ _ w.value c.if-words_zero.ensures)
    ∙ sym (c.if-not-is_sound.ensures ∙ ap sound (c.unpack-half.ensures ∙ ap half_of w.value)))))
    (c.unpack-half.ensures ∙ ap half_of w.value)
