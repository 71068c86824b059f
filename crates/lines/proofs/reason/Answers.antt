-- `lines::reason` meets its contract: the name, and the words behind it.
use Rattle.lines.specs.Lines.{reason_line}
use Rattle.lines.proofs.Putting.{then, renamed}
use Rattle.lines.proofs.reason.Goals as goal

pub returns : goal.returns
unfolding reason_line
returns c = then _ _ _ _ (renamed _ _ _ _ c.name.ensures.result_value c.append-at.ensures) c.why_words.ensures
