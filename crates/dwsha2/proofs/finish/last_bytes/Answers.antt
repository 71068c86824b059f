-- `dwsha2::finish::last_bytes` meets its contract: the length goes to its place behind the zero bytes. Assumes nothing.
use Prim.Native.Nat.{◌+◌, ◌-◌, ◌*◌, ◌/◌, ◌%◌}
use mathlib.Core.Path.{◌≡◌, refl, ◌∙◌}
use native.Mathlib.Omega.{arith}
use lib.ListN.{length, take, drop, length-take, length-drop}
use borrow.Author.Rules.{rules}
use Rattle.fips.specs.Sizes.{width_of}
use Rattle.fips.proofs.Sizes.{thin-bytes}
use Rattle.dwsha2.proofs.Last.{last-room, last-law, field-law}
use Rattle.dwsha2.proofs.finish.last_bytes.Goals as goal

pub overflow_sub-skip : goal.overflow_sub-skip
overflow_sub-skip c = omega (arith, thin-bytes c.args.thin, c.block_size-size.ensures)

pub with_closing-buffer-requires : goal.with_closing-buffer-requires
with_closing-buffer-requires c = omega (arith, thin-bytes c.args.thin, c.requires)

pub slice_bounds-buffer-end : goal.slice_bounds-buffer-end
slice_bounds-buffer-end c = let long : length c.with_closing-buffer.result ≡ 256 = search rules in
    omega (arith, last-room c.args.thin (length c.args.tail.now) c.requires, c.last_end-end.ensures)

pub returns : goal.returns
returns c = let p = width_of c.args.thin in
    let tail = c.args.tail.now in
    let l = 8 * c.args.count + c.args.bits % 8 in
    let buffer = c.with_closing-buffer in
    let size = c.block_size-size in
    let end = c.last_end-end in
    let long : length buffer.result ≡ 256 = search rules in
    let room = last-room c.args.thin (length tail) c.requires in
    let thin = thin-bytes c.args.thin in
    let eighth : size.result / 8 ≡ 2 * p.bytes = omega (arith, size.ensures) in
    let start : end.result - size.result / 8 + 2 * p.bytes ≡ end.result = omega (arith, end.ensures) in
    let part : length (take (end.result - (end.result - size.result / 8)) (drop (end.result - size.result / 8) buffer.result))
    ≡ 2 * p.bytes =
    simp (length-take, length-drop) (omega (arith, end.ensures)) in
    last-law p c.args.count tail c.args.closing (c.args.bits % 8) buffer.result c.put_front.new.out _
    (end.result - size.result / 8) buffer.ensures
    (field-law p l _ (16 - size.result / 8) (16 - (16 - size.result / 8)) c.put_front.ensures
    c.length_field-field.ensures
    (omega arith) refl part)
    (start ∙ end.ensures) room
