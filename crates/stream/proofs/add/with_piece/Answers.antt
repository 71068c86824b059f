-- `stream::add::with_piece` meets its contract: the begun chunk is filled or not, and the two laws of Filling say what comes out.
-- Assumes nothing.
use Prim.Native.Nat.{◌-◌, ◌<◌}
use mathlib.Core.List.{◌++◌}
use mathlib.Core.Path.{◌≡◌, sym}
use native.Mathlib.Omega.{arith}
use lib.ListN.{take, drop}
use lib.Seq.{length-take-le}
use borrow.Author.Rules.{rules}
use Rattle.slices.specs.Padded.{padded}
use Rattle.treerule.specs.Root.{chunk_bytes}
use Rattle.stream.specs.State.{Shaped}
use Rattle.stream.specs.Steps.{waiting}
use Rattle.stream.proofs.Soundness.{sound-has}
use Rattle.stream.proofs.Filling.{filled, fills-short, begun-within, begun-chunked, runs-within, fills-long}
use Rattle.stream.proofs.add.with_piece.Goals as goal
use Rattle.stream.proofs.add.with_piece.Goals.{After-bytes-1, After-put_front, Else-piece-lead}

shape : (c : After-bytes-1) → Shaped c.args.stream
shape c = record { roots = search rules; bytes = search rules }

short : (c : After-bytes-1) → c.args.stream.further < chunk_bytes
short c = (sound-has c.args.stream c.requires.0).counts.short

-- the bytes with the piece behind them

is-filled : (c : After-put_front) →
    take c.args.stream.further c.args.stream.bytes
    ++ (c.put_front.new.out
    ++ drop (chunk_bytes - c.args.stream.further) (drop c.args.stream.further c.args.stream.bytes))
    ≡ padded chunk_bytes (waiting c.args.stream c.args.piece.now)
is-filled c =
    let shape' : Shaped c.args.stream = record { roots = search rules; bytes = search rules } in
    filled c.args.stream (shape') c.requires.0 c.args.piece.now c.put_front.new.out c.put_front.ensures

pub returns-then-piece-lead : goal.returns-then-piece-lead
returns-then-piece-lead c = fills-short c.args.stream (shape (goal.at.returns-then-piece-lead c).After-bytes-1) c.requires.0
    c.args.piece.now (is-filled (goal.at.returns-then-piece-lead c).After-put_front) c.if-piece-lead.true

pub slice_bounds-bytes-end-2 : goal.slice_bounds-bytes-end-2
slice_bounds-bytes-end-2 c = begun-within c.args.stream (shape (goal.at.slice_bounds-bytes-end-2 c).After-bytes-1) c.requires.0
    c.args.piece.now (is-filled (goal.at.slice_bounds-bytes-end-2 c).After-put_front) c.if-piece-lead.false

pub taken_up-requires : goal.taken_up-requires
taken_up-requires c = (
  begun-chunked c.args.stream (shape (goal.at.taken_up-requires c).After-bytes-1) c.requires.0 c.args.piece.now
      (is-filled (goal.at.taken_up-requires c).After-put_front) c.if-piece-lead.false,
  runs-within c.args.stream (shape (goal.at.taken_up-requires c).After-bytes-1) c.requires.0 c.args.piece.now
      (is-filled (goal.at.taken_up-requires c).After-put_front) c.if-piece-lead.false c.requires.1,
)

pub returns : goal.returns
returns c = fills-long c.args.stream (shape (goal.at.returns c).After-bytes-1) c.requires.0 c.args.piece.now
    (is-filled (goal.at.returns c).After-put_front) c.if-piece-lead.false c.taken_up.ensures

pub overflow_sub-lead : goal.overflow_sub-lead
overflow_sub-lead c = omega (arith, short c)

pub slice_bounds-put_front-count : goal.slice_bounds-put_front-count
slice_bounds-put_front-count c = omega (arith, short c)

pub slice_bounds-bytes-start : goal.slice_bounds-bytes-start
slice_bounds-bytes-start c = omega (arith, short c)

pub slice_bounds-bytes-end : goal.slice_bounds-bytes-end
slice_bounds-bytes-end c = omega (arith, (shape c).bytes)

pub slice_bounds-taken_up-end : goal.slice_bounds-taken_up-end
slice_bounds-taken_up-end c = sym (length-take-le _ _ (slice_bounds-bytes-end-2 (goal.at.slice_bounds-taken_up-end c).Else-piece-lead))
