-- `keyedwords::start` meets its contract: the keyed hash decides, then too few words are refused, and what it is then is packed. Assumes
-- nothing.
use Rattle.keyedwords.proofs.Judging.{start-refused, start-short, start-done}
use Rattle.keyedwords.proofs.start.Goals as goal

pub returns-in_err-keyed-clause-starts : goal.returns-in_err-keyed-clause-starts
returns-in_err-keyed-clause-starts c =
    start-refused _ _ _ c.from_residual.result _ c.from_residual.ensures.1 c.in_err-keyed.ensures.judged

pub returns-then-words-lt-WORDS-clause-starts : goal.returns-then-words-lt-WORDS-clause-starts
returns-then-words-lt-WORDS-clause-starts c = start-short _ _ _ c.in_ok-keyed.ensures.judged c.if-words-lt-WORDS.true

pub returns-clause-starts : goal.returns-clause-starts
returns-clause-starts c = start-done _ _ _ c.in_ok-keyed.ensures.judged c.if-words-lt-WORDS.false c.pack.ensures
