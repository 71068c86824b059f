-- `listing::shown::is_plain` meets its contract: each test is a condition of `plain`.
use Rattle.listing.proofs.Visible.{plain-graphic}
use Rattle.listing.proofs.shown.is_plain.Goals as goal

pub returns-then-is_ascii_graphic : goal.returns-then-is_ascii_graphic
returns-then-is_ascii_graphic c = rw (plain-graphic, ← c.if-is_ascii_graphic.ensures.value)

pub returns-else-is_ascii_graphic : goal.returns-else-is_ascii_graphic
returns-else-is_ascii_graphic c = rw (plain-graphic, ← c.if-is_ascii_graphic.ensures.value) c.if-is_ascii_graphic.false
