-- `lines::line` meets its contract: three texts, one behind the other.
use Rattle.fips.specs.Constants.{ascii}
use Rattle.lines.specs.Lines.{line_of}
use Rattle.lines.proofs.Putting.{then, renamed}
use Rattle.lines.proofs.line.Goals as goal

pub returns : goal.returns
unfolding line_of ascii
returns c =
    let word = renamed _ _ _ _ c.word.ensures c.append-at.ensures in
    let name = renamed _ _ _ _ c.name.ensures.result_value c.append-end.ensures in
    then _ _ _ _ (then _ _ _ _ word name) c.append.ensures
