-- `bigendian::rows::field` meets its contract: it is the number of a part.
use mathlib.Core.List.{List}
use mathlib.Core.Path.{ap, ◌∙◌}
use Prim.Native.Nat.{ℕ}
use Rattle.bigendian.specs.BigEndian.{number, word64}
use Rattle.bigendian.proofs.rows.field.Goals as goal

pub returns : goal.returns
returns c = c.get.ensures ∙ ap (λ (bs : List ℕ). word64 (number bs)) c.part.ensures.result_value
