-- `writer::moving::insert_both` meets its contract: the four steps are those of `both-put`. Assumes nothing.
use mathlib.Core.List.{List, ◌++◌}
use mathlib.Core.Path.{◌≡◌}
use Prim.Native.Nat.{ℕ, ◌+◌}
use lib.ListN.{length, length-append}
use Rattle.bigendian.specs.Rows.{row_bytes}
use Rattle.bigendian.proofs.RowLaws.{length-row}
use Rattle.lists.specs.Layout.{entry_size, entry_row}
use Rattle.writer.proofs.MoveLaws.{both-put}
use Rattle.writer.proofs.moving.insert_both.Goals as goal

length-new : (at len : ℕ) (digest : List ℕ) → length (row_bytes (entry_row at len) ++ digest) ≡ entry_size (length digest)
length-new at len digest = simp (length-append, length-row)

pub returns : goal.returns
returns c = let a = c.args in
    both-put a.entry_at a.name_at a.whole (entry_size (length a.digest.now)) a.name.now
    (row_bytes (entry_row (a.name_at + entry_size (length a.digest.now)) (length a.name.now)) ++ a.digest.now)
    a.buffer.now _ _ _ _ c.requires.0 c.requires.1 c.requires.2
    (length-new (a.name_at + entry_size (length a.digest.now)) (length a.name.now) a.digest.now)
    c.slide.ensures c.put_front.ensures c.slide-2.ensures c.put_entry.ensures
