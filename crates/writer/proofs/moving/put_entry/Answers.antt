-- `writer::moving::put_entry` meets its contract: the row finds room, and the digest fills what is left. Assumes nothing.
use mathlib.Core.List.{List, ◌++◌, append-nil}
use mathlib.Core.Path.{◌≡◌, ◌∙◌}
use Prim.Native.Nat.{ℕ, ◌+◌, ◌-◌}
use native.Mathlib.Omega.{arith}
use lib.ListN.{length, drop, length-append, length-drop, drop_of_length-le}
use lib.Seq.{take_at, drop_at}
use Rattle.bigendian.specs.Rows.{Field, sizes, values, row_bytes, row_length}
use Rattle.bigendian.specs.Code.PutRow.{put_row}
use Rattle.bigendian.proofs.RowLaws.{length-row, put-row}
use Rattle.lists.specs.Layout.{entry_row}
use Rattle.slices.specs.AtFront.{at_front}
use Rattle.slices.specs.Parts.{put_part}
use Rattle.slices.proofs.AtFront.{at_front-all}
use Rattle.slices.proofs.Parts.{part_to, part-all}
use Rattle.writer.proofs.moving.put_entry.Goals as goal

-- a row at the front, and bytes in all that is left

row-and-rest : (row : List Field) (room rest mid new : List ℕ) → length room ≡ row_length row + length rest →
    mid ≡ put_row (sizes row) (values row) room → new ≡ at_front rest (part_to (row_length row) mid) →
    put_part (row_length row) (length mid - row_length row) new mid ≡ row_bytes row ++ rest
row-and-rest row room rest mid new e q p =
    let n = row_length row in
    let is : mid ≡ row_bytes row ++ drop n room = q ∙ put-row row room (omega arith) in
    let long : length (drop n room) ≡ length rest = length-drop n room ∙ omega arith in
    let behind : drop n mid ≡ drop n room = rw is (drop_at (row_bytes row) (drop n room) n (length-row row)) in
    let size : length mid - n ≡ length rest = rw is (simp (length-append, length-row, long) (omega arith)) in
    let fills : new ≡ rest = p ∙ rw (part-all n mid, behind) (at_front-all rest (drop n room) long) in
    rw (fills, behind, size, drop_of_length-le (drop n room) {i = length rest} (omega arith), append-nil, is)
    (rw (take_at (row_bytes row) (drop n room) n (length-row row)))

pub returns : goal.returns
returns c = let a = c.args in
    row-and-rest (entry_row a.at a.len) a.room.now a.digest.now _ _ c.requires c.put_row.ensures c.put_front.ensures
