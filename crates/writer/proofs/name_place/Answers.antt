-- `writer::name_place` meets its contract: of no entry the end is told, and of another what stands in its field. Assumes nothing.
use mathlib.Core.Path.{◌∙◌}
use native.Mathlib.Omega.{arith}
use borrow.Author.Tests.{eq-eqb, ne_eqb}
use Rattle.bigendian.proofs.RowLaws.{field-word64}
use Rattle.lists.specs.Layout.{offset_size}
use Rattle.writer.specs.Code.Moves.{name_spot}
use Rattle.writer.proofs.name_place.Goals as goal

pub returns-then-entry_at-names_at : goal.returns-then-entry_at-names_at
unfolding name_spot
returns-then-entry_at-names_at c = let a = c.args in
    rw (eq-eqb a.entry_at a.names_at c.if-entry_at-names_at.true)

pub returns : goal.returns
unfolding name_spot
returns c = let a = c.args in
    c.field.ensures
    ∙ field-word64 a.list.now a.entry_at offset_size (λ i. (c.shared_slice_known-1.given i).fits) (omega arith)
    ∙ rw (ne_eqb a.entry_at a.names_at c.if-entry_at-names_at.false)
