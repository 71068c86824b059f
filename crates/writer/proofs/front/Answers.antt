-- `writer::front` meets its contract: the field says how many bytes are handed out. Assumes nothing.
use mathlib.Core.Path.{ap, ◌∙◌}
use Prim.Native.Nat.{ℕ}
use native.Mathlib.Omega.{arith}
use lib.ListN.{take}
use Rattle.bigendian.proofs.RowLaws.{field-word64}
use Rattle.lists.specs.Layout.{offset_size, whole_field_at}
use Rattle.writer.proofs.front.Goals as goal

pub returns : goal.returns
returns c = let b = c.args.buffer.now in
    c.part.ensures.result_value
    ∙ ap (λ (k : ℕ). take k b)
    (c.field.ensures ∙ field-word64 b whole_field_at offset_size (λ i. (c.shared_slice_known-1.given i).fits) (omega arith))
