-- `halfread::add::with_piece` meets its contract: the begun block is filled or not, and the two laws of Filling say what comes out.
-- Assumes nothing.
use Prim.Native.Nat.{ℕ, ◌+◌, ◌-◌, ◌*◌, ◌/◌, ◌≤◌, ◌<◌}
use mathlib.Core.Bool.{true}
use mathlib.Core.List.{List, ◌++◌}
use mathlib.Core.Path.{◌≡◌, sym, ap}
use native.Mathlib.Nat.{div-mul-le_self}
use native.Mathlib.Omega.{arith}
use lib.ListN.{length, take, drop}
use lib.Seq.{length-take-le}
use borrow.Author.Rules.{rules}
use Rattle.halfread.specs.State.{padded, sound, tail_room}
use Rattle.halfread.specs.Steps.{waiting}
use Rattle.dwsha2.proofs.Limits.{length-fits}
use Rattle.slices.proofs.Blocks.{lack, lack-whole}
use Rattle.halfread.proofs.Filling.{filled, fills-short, fills-long}
use Rattle.halfread.proofs.Rules.{tail-lt, tail_within}
use Rattle.fips.proofs.Sizes.{block-some, block_within}
use Rattle.halfread.proofs.Tails.{length-padded}
use Rattle.halfread.proofs.add.with_piece.Goals as goal
use Rattle.halfread.proofs.add.with_piece.Goals.{After-put_front, After-tail_length-from}

is-sound : (c : After-tail_length-from) → sound c.args.half ≡ true
is-sound c = c.requires.0

wide : (c : After-tail_length-from) → length c.args.half.tail ≡ tail_room
wide c = search rules

size-some : (c : After-tail_length-from) → 0 < c.block_bytes-size.result
size-some c = omega (arith, c.block_bytes-size.ensures, block-some c.args.half.edition)

from-lt : (c : After-tail_length-from) → c.tail_length-from.result < c.block_bytes-size.result
from-lt c = omega (arith, c.block_bytes-size.ensures, c.tail_length-from.ensures, tail-lt c.args.half)

from-within : (c : After-tail_length-from) → c.tail_length-from.result ≤ tail_room
from-within c = omega (arith, c.tail_length-from.ensures, tail_within c.args.half)

pub slice_bounds-tail-end : goal.slice_bounds-tail-end
slice_bounds-tail-end c = omega (arith, wide (goal.at.slice_bounds-tail-end c).After-tail_length-from)

-- the tail with the piece behind its bytes

joined : (c : After-put_front) → List ℕ
joined c =
    let t = c.args.half.tail in
    let n = c.tail_length-from.result in
    take n t ++ (c.put_front.new.out ++ drop (tail_room - n) (drop n t))

is-joined : (c : After-put_front) → joined c ≡ padded (waiting c.args.half c.args.piece.now)
unfolding joined
is-joined c =
    let wide' : length c.args.half.tail ≡ tail_room = search rules in
    let is-sound' : sound c.args.half ≡ true = c.requires.0 in
    let p = c.put_front in
    filled c.args.half (wide') (is-sound') c.args.piece.now p.new.out c.tail_length-from.ensures p.ensures

pub returns-then-piece-lead : goal.returns-then-piece-lead
unfolding joined
returns-then-piece-lead c = fills-short c.args.half (wide (goal.at.returns-then-piece-lead c).After-tail_length-from)
    (is-sound (goal.at.returns-then-piece-lead c).After-tail_length-from) c.args.piece.now c.block_bytes-size.ensures
    c.tail_length-from.ensures (is-joined (goal.at.returns-then-piece-lead c).After-put_front)
    c.if-piece-lead.true

end-within : (c : After-tail_length-from) → c.tail_length-from.result
    + lack c.block_bytes-size.result
    c.tail_length-from.result ≤ tail_room
end-within c =
    let b = c.block_bytes-size in
    omega (arith, (lack-whole b.result c.tail_length-from.result (from-lt c)).2, b.ensures, block_within c.args.half.edition)

-- the begun block ends within the tail
ends : (c : After-put_front) → c.tail_length-from.result + lack c.block_bytes-size.result c.tail_length-from.result ≤ length (joined c)
ends c = omega (
  arith,
  end-within (goal.at.After-put_front c).After-tail_length-from,
  ap length (is-joined c),
  length-padded (waiting c.args.half c.args.piece.now),
)

pub slice_bounds-tail-end-2 : goal.slice_bounds-tail-end-2
unfolding joined
slice_bounds-tail-end-2 c = ends (goal.at.slice_bounds-tail-end-2 c).After-put_front

pub slice_bounds-absorb-end : goal.slice_bounds-absorb-end
unfolding joined
slice_bounds-absorb-end c = sym (length-take-le _ _ (ends (goal.at.slice_bounds-absorb-end c).After-put_front))

pub returns : goal.returns
unfolding joined
returns c = fills-long c.args.half (wide (goal.at.returns c).After-tail_length-from) (is-sound (goal.at.returns c).After-tail_length-from)
    c.args.piece.now c.block_bytes-size.ensures c.tail_length-from.ensures (is-joined (goal.at.returns c).After-put_front)
    c.if-piece-lead.false
    c.absorb-filled.ensures
    c.absorb.ensures
    c.rest_at-whole.ensures
    c.padded.ensures

-- the sum keeps the limit, and so it does not wrap

pub overflow_add-count : goal.overflow_add-count
overflow_add-count c = omega (arith, length-fits _ _ _ c.requires.1)

-- the rest begins within the piece

whole-within : {at : ℕ} (len n : ℕ) → at ≡ len / n * n → at ≤ len
whole-within len n e = omega (arith, div-mul-le_self len n)

pub overflow_sub-lead : goal.overflow_sub-lead
overflow_sub-lead c = omega (arith, from-lt c)

pub nonzero_rem-lead : goal.nonzero_rem-lead
nonzero_rem-lead c = size-some c

pub slice_bounds-put_front-count : goal.slice_bounds-put_front-count
slice_bounds-put_front-count c = from-within (goal.at.slice_bounds-put_front-count c).After-tail_length-from

pub slice_bounds-tail-start : goal.slice_bounds-tail-start
slice_bounds-tail-start c = from-within (goal.at.slice_bounds-tail-start c).After-tail_length-from

pub overflow_add-end : goal.overflow_add-end
overflow_add-end c = omega (arith, end-within (goal.at.overflow_add-end c).After-tail_length-from)

pub slice_bounds-padded-count : goal.slice_bounds-padded-count
slice_bounds-padded-count c = whole-within _ _ c.rest_at-whole.ensures

pub slice_bounds-padded-start : goal.slice_bounds-padded-start
slice_bounds-padded-start c = whole-within _ _ c.rest_at-whole.ensures
