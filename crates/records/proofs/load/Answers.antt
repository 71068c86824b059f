-- `records::load` meets its contract: bytes are a record where their state is sound and its record is those bytes.
-- Assumes nothing.
use mathlib.Core.Path.{◌≡◌, sym, ap, ◌∙◌}
use Rattle.answers.specs.Judged.{first}
use Rattle.answers.proofs.Outcome.{done}
use Rattle.slices.specs.Tests.{same}
use Rattle.halfread.specs.declared.HalfRead.{HalfRead}
use Rattle.halfread.specs.State.{sound}
use Rattle.records.specs.Record.{record_of, loaded, load_tests}
use Rattle.records.proofs.Loading.{not_sound, not_same, both-pass, no_record}
use Rattle.records.proofs.load.Goals as goal
use Rattle.records.proofs.load.Goals.{After-is_sound, After-is_record_of}

-- what was asked of the fields is asked of the state that they give

soundness : (c : After-is_sound) → c.is_sound.result ≡ sound (loaded c.args.lent.now)
soundness c = c.is_sound.ensures ∙ ap sound c.fields-half.ensures

pub returns-then-not-is_sound : goal.returns-then-not-is_sound
returns-then-not-is_sound c = no_record c.args.lent.now
    (not_sound _ (sym (soundness (goal.at.returns-then-not-is_sound c).After-is_sound) ∙ c.if-not-is_sound.true))

compared : (c : After-is_record_of) → c.is_record_of.result ≡ same (record_of (loaded c.args.lent.now)) c.args.lent.now
compared c = c.is_record_of.ensures ∙ ap (λ (h : HalfRead). same (record_of h) c.args.lent.now) c.fields-half.ensures

pub returns-then-not-is_record_of : goal.returns-then-not-is_record_of
returns-then-not-is_record_of c = no_record c.args.lent.now
    (not_same _ (sym (compared (goal.at.returns-then-not-is_record_of c).After-is_record_of) ∙ c.if-not-is_record_of.true))

pub returns : goal.returns
unfolding load_tests first
returns c = let whole =
    both-pass _ (sym (soundness (goal.at.returns c).After-is_sound) ∙ c.if-not-is_sound.false)
    (sym (compared (goal.at.returns c).After-is_record_of) ∙ c.if-not-is_record_of.false)
    in
    done (rw whole) c.fields-half.ensures
