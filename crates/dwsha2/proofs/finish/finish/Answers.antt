-- `dwsha2::finish::finish` meets its contract: the tail's whole blocks are absorbed, then the last bytes of its rest. Assumes nothing.
use Prim.Native.Nat.{◌%◌, ◌<◌}
use mathlib.Core.Path.{◌≡◌, refl, sym}
use native.Mathlib.Nat.{mod-lt, mod-le}
use native.Mathlib.Omega.{arith}
use lib.ListN.{length, length-take, length-drop}
use lib.Seq.{length-take-le}
use borrow.Author.Rules.{rules}
use Rattle.fips.proofs.Sizes.{thin-bytes}
use Rattle.dwsha2.proofs.Last.{last-room}
use Rattle.dwsha2.proofs.Finished.{finish-law}
use Rattle.dwsha2.proofs.finish.finish.Goals as goal
use Rattle.dwsha2.proofs.finish.finish.Goals.{After-last_end-end}

pub nonzero_rem-rest : goal.nonzero_rem-rest
nonzero_rem-rest c = omega (arith, thin-bytes c.narrow-thin.result, c.block_size.ensures)

pub overflow_sub-whole : goal.overflow_sub-whole
overflow_sub-whole c = mod-le (length c.args.tail.now) c.block_size.result

-- the rest is less than a block

pub last_bytes-last-requires : goal.last_bytes-last-requires
last_bytes-last-requires c = let n = c.block_size.result in
    let tail = c.args.tail.now in
    let some : 0 < n = omega (arith, thin-bytes c.narrow-thin.result, c.block_size.ensures) in
    simp (length-take, length-drop)
    (omega (arith, mod-lt (length tail) some, mod-le (length tail) n, c.block_size.ensures))

pub last_end-end-requires : goal.last_end-end-requires
last_end-end-requires c = let n = c.block_size.result in
    let tail = c.args.tail.now in
    let some : 0 < n =
    omega (arith, thin-bytes c.narrow-thin.result, c.block_size.ensures) in
    omega (arith, mod-lt (length tail) some, c.block_size.ensures)

pub slice_bounds-last-end : goal.slice_bounds-last-end
slice_bounds-last-end c = let n = c.block_size.result in
    let tail = c.args.tail.now in
    let some : 0 < n = omega (arith, thin-bytes c.narrow-thin.result, c.block_size.ensures) in
    let long : length c.last_bytes-last.result ≡ 256 = search rules in
    let small : length tail % n < n = mod-lt (length tail) some in
    omega (arith, last-room c.narrow-thin.result (length tail % n) (omega (arith, c.block_size.ensures)), c.last_end-end.ensures)

pub slice_bounds-absorb-end : goal.slice_bounds-absorb-end
slice_bounds-absorb-end c = sym (length-take-le _ _ (slice_bounds-last-end (goal.at.slice_bounds-absorb-end c).After-last_end-end))

pub returns : goal.returns
returns c = finish-law c.args.edition c.args.words c.args.tail.now c.args.count c.args.closing c.args.bits
    c.last_bytes-last.result
    c.narrow-thin.ensures
    c.block_size.ensures
    refl
    c.last_bytes-last.ensures
    c.absorb-h.ensures
    c.last_end-end.ensures
    c.absorb.ensures
