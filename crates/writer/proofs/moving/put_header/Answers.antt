-- `writer::moving::put_header` meets its contract: the row finds room. Assumes nothing.
use mathlib.Core.Path.{◌∙◌}
use Rattle.bigendian.proofs.RowLaws.{put-row}
use Rattle.lists.specs.Layout.{list_row}
use Rattle.writer.proofs.moving.put_header.Goals as goal

pub returns : goal.returns
returns c = let a = c.args in
    c.put_row.ensures ∙ put-row (list_row a.edition a.n a.names a.whole) a.buffer.now c.requires
