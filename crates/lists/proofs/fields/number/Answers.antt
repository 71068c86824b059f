-- `lists::fields::number` meets its contract: up to eight bytes make a number that a word keeps whole. Assumes nothing.
use mathlib.Core.Path.{◌∙◌}
use Rattle.bigendian.proofs.RowLaws.{field-word64}
use Rattle.lists.proofs.fields.number.Goals as goal

pub returns : goal.returns
returns c = let a = c.args in
    c.field.ensures
    ∙ field-word64 a.list.now a.at a.n (λ i. (c.type_inv.list i).fits) c.requires
