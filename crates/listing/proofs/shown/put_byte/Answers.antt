-- `listing::shown::put_byte` meets its contract: the byte itself, or its digits.
use mathlib.Core.Path.{sym, ◌∙◌}
use Rattle.lines.proofs.Putting.{renamed}
use Rattle.listing.proofs.Visible.{itself, by_digits}
use Rattle.listing.proofs.shown.put_byte.Goals as goal

pub returns-then-is_plain : goal.returns-then-is_plain
returns-then-is_plain c = renamed _ _ _ _ (itself _ (sym c.is_plain.ensures ∙ c.if-is_plain.true)) c.append.ensures

pub returns : goal.returns
returns c = renamed _ _ _ _
    (by_digits _ _ _ (sym c.is_plain.ensures ∙ c.if-is_plain.false) c.hex_digit.ensures c.hex_digit-2.ensures)
    c.append-2.ensures
