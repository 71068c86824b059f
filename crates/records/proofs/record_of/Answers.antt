-- `records::record_of` meets its contract: header, words and tail, one behind another. Assumes nothing.
use Prim.Native.Nat.{ℕ, ◌-◌, ◌<◌, ◌≤◌}
use mathlib.Core.List.{List}
use mathlib.Core.Path.{◌≡◌, ap, ◌∙◌}
use native.Mathlib.Omega.{arith}
use lib.ListN.{length, replicate}
use borrow.Author.Rules.{rules}
use Rattle.slices.specs.Parts.{put_part}
use Rattle.slices.proofs.Parts.{length-put}
use Rattle.bigendian.specs.Rows.{sizes}
use Rattle.bigendian.specs.Code.PutRow.{put_row}
use Rattle.halfread.proofs.Sizes.{rest-within}
use Rattle.records.specs.Record.{newest, words_at, header}
use Rattle.records.proofs.Written.{longest, length_in-within, tail_at-within, record-law, header_row}
use Rattle.halfread.specs.State.{tail_room}
use Rattle.records.proofs.record_of.Goals as goal
use Rattle.records.proofs.record_of.Goals.{After-tail_at-at, After-tail_length-end}

eight : (c : After-tail_length-end) → length c.args.half.now.words ≡ 8
eight c = search rules

wide : (c : After-tail_length-end) → length c.args.half.now.tail ≡ tail_room
wide c = search rules

at-within : (c : After-tail_at-at) → c.tail_at-at.result ≤ longest newest
at-within c = omega (arith, c.tail_at-at.ensures, tail_at-within newest c.args.half.now.edition)

pub returns : goal.returns
unfolding header
returns c = let h = c.args.half.now in
    rw c.record_length-len.ensures (record-law newest h (eight (goal.at.returns c).After-tail_length-end)
    (wide (goal.at.returns c).After-tail_length-end)
    (c.put_row.ensures
    ∙ ap (λ (xs : List ℕ). put_row (sizes (header newest h)) xs (replicate (longest newest) 0))
    (header_row newest h c.tail_at-at.ensures c.tail_length-end.ensures c.record_length-len.ensures))
    c.block_bytes.ensures c.put_words.ensures
    c.tail_at-at.ensures c.tail_length-end.ensures c.put_front.ensures)

pub slice_bounds-put_front-start : goal.slice_bounds-put_front-start
slice_bounds-put_front-start c = at-within (goal.at.slice_bounds-put_front-start c).After-tail_at-at

pub slice_bounds-put_front-count : goal.slice_bounds-put_front-count
slice_bounds-put_front-count c = at-within (goal.at.slice_bounds-put_front-count c).After-tail_at-at

pub shared_ref_as_front-put_front : goal.shared_ref_as_front-put_front
shared_ref_as_front-put_front c = let small : c.tail_length-end.result < tail_room = rest-within _ _ c.tail_length-end.ensures in
    omega (arith, wide (goal.at.shared_ref_as_front-put_front c).After-tail_length-end)

pub invariant_of-whole : goal.invariant_of-whole
invariant_of-whole c = let r = c.put_row in
    let w = c.put_words in
    let p = c.put_front in
    let at = c.tail_at-at.result in
    let a = words_at newest in
    let long = longest newest in
    let b = put_part a (long - a) w.new.d r.new.d in
    omega (
      arith,
      length-put at (long - at) b p.new.out p.auto.out,
      length-put a (long - a) r.new.d w.new.d w.auto.d,
      r.auto.d,
      c.record_length-len.ensures,
      length_in-within newest c.args.half.now,
    )
