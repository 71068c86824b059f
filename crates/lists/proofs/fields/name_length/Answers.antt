-- `lists::fields::name_length` meets its contract: a place in the entry is one in the list. Assumes nothing.
use mathlib.Core.Path.{◌∙◌}
use native.Mathlib.Omega.{arith}
use Rattle.lists.specs.Layout.{offset_size, name_length_at}
use Rattle.lists.proofs.Walk.{entry-field}
use Rattle.lists.proofs.fields.name_length.Goals as goal

pub returns : goal.returns
returns c = let a = c.args in
    c.number.ensures ∙ entry-field a.list.now a.at name_length_at offset_size

pub overflow_add-at : goal.overflow_add-at
overflow_add-at c = omega (arith, c.requires)
