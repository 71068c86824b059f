-- `lines::count` meets its contract: the digits, and then what they count.
use Rattle.std.proofs.Common.{◌∙◌}
use Rattle.lines.proofs.Decimals.{decimal-digits}
use Rattle.lines.proofs.Putting.{then, renamed}
use Rattle.lines.proofs.count.Goals as goal

pub returns : goal.returns
returns c = then _ _ _ _ (renamed _ _ _ _ (c.decimal-k.ensures.digits ∙ decimal-digits _ _ c.decimal-k.ensures.len) c.append-end.ensures)
    c.append.ensures
