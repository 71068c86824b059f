-- `streamwords::begin` meets its contract: too few words are refused, and nothing is taken. Assumes nothing.
use mathlib.Core.Path.{refl, ap, ◌∙◌}
use borrow.Author.Tests.{lt-ltb, le-ltb}
use Rattle.answers.specs.Judged.{first}
use Rattle.answers.proofs.Outcome.{refused, done}
use Rattle.slices.specs.AtFront.{at_front}
use Rattle.stream.specs.declared.Stream.{Stream}
use Rattle.streamwords.specs.Words.{stream_words, words_of}
use Rattle.streamwords.specs.Calls.{begin_tests}
use Rattle.streamwords.proofs.begin.Goals as goal

pub returns-then-words-lt-WORDS : goal.returns-then-words-lt-WORDS
unfolding begin_tests first
returns-then-words-lt-WORDS c = refused (rw (lt-ltb _ stream_words c.if-words-lt-WORDS.true)) tt refl

pub returns : goal.returns
unfolding begin_tests first
returns c = done (rw (le-ltb _ stream_words c.if-words-lt-WORDS.false))
    (c.pack.ensures
    ∙ ap (λ (s : Stream). at_front (words_of s) c.args.words.now) c.begin.ensures)
