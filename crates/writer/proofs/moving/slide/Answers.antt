-- `writer::moving::slide` meets its contract: where bytes find room they are copied, and nothing stands behind them. Assumes nothing.
use mathlib.Core.List.{List, append-nil}
use mathlib.Core.Path.{◌≡◌, sym, ◌∙◌}
use Prim.Native.Nat.{ℕ, ◌+◌, ◌-◌, ◌<◌, ◌≤◌}
use native.Mathlib.Omega.{arith}
use lib.ListN.{length}
use lib.Seq.{drop-length, take_all}
use Rattle.std.specs.List.{copy_within}
use Rattle.writer.specs.Code.Moves.{slid}
use Rattle.writer.proofs.moving.slide.Goals as goal

moved : (xs : List ℕ) (by : ℕ) → by < length xs → copy_within xs 0 (length xs - by) by ≡ slid by xs
unfolding slid
moved xs by h =
    let moves : length xs - by - 0 ≡ length xs - by = omega arith in
    let whole : by + (length xs - by) ≡ length xs = omega arith in
    rw (moves, whole, drop-length, append-nil)

stays : (xs : List ℕ) (by : ℕ) → length xs ≤ by → xs ≡ slid by xs
unfolding slid
stays xs by h =
    let none : length xs - by ≡ 0 = omega arith in
    sym (rw (take_all by xs h, none, append-nil))

pub returns-then-by-bytes : goal.returns-then-by-bytes
returns-then-by-bytes c = c.copy_within.ensures.after ∙ moved _ _ c.if-by-bytes.true

pub returns-else-by-bytes : goal.returns-else-by-bytes
returns-else-by-bytes c = stays _ _ c.if-by-bytes.false
