-- A half-read message and its fields. Two with the same fields are the same: `same-state`.
use mathlib.Core.Path.{◌≡◌}
use Rattle.halfread.specs.declared.HalfRead.{HalfRead}

pub same-state : (a b : HalfRead) → a.edition ≡ b.edition → a.count ≡ b.count → a.words ≡ b.words → a.tail ≡ b.tail → a ≡ b
same-state a b e c w t = λ i. record { edition = e i; count = c i; words = w i; tail = t i }
