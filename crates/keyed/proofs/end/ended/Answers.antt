-- `keyed::end::ended` meets its contract: the last words of the inner message, and the outer hash over them. Assumes nothing.
use Prim.Native.Nat.{ℕ, ◌<◌}
use mathlib.Core.List.{List}
use mathlib.Core.Path.{◌≡◌, sym, ap, ◌∙◌}
use native.Mathlib.Omega.{arith}
use lib.ListN.{length, take}
use lib.Seq.{length-take-le}
use borrow.Author.Rules.{rules}
use Rattle.halfread.specs.State.{tail_room}
use Rattle.halfread.specs.Steps.{closed_digest}
use Rattle.halfread.proofs.Sizes.{rest-within}
use Rattle.dwsha2.specs.Code.Hashing.{finished, digest_from}
use Rattle.keyed.specs.Steps.{outer_digest, tag_of}
use Rattle.keyed.proofs.end.ended.Goals as goal
use Rattle.keyed.proofs.end.ended.Goals.{After-tail_length-end}

pub slice_bounds-tail-end : goal.slice_bounds-tail-end
slice_bounds-tail-end c = let k = c.args.keyed in
    let long : length k.inner.tail ≡ tail_room = search rules in
    let small : c.tail_length-end.result < tail_room = rest-within _ _ c.tail_length-end.ensures in
    omega arith

pub slice_bounds-finish-end : goal.slice_bounds-finish-end
slice_bounds-finish-end c = sym (length-take-le _ _ (slice_bounds-tail-end (goal.at.slice_bounds-finish-end c).After-tail_length-end))

pub returns : goal.returns
unfolding tag_of closed_digest
returns c = let k = c.args.keyed in
    let h = k.inner in
    c.tag_of.ensures
    ∙ ap (λ (w : List ℕ). outer_digest h.edition k.outer (digest_from h.edition w))
    (c.finish-last.ensures
    ∙ ap (λ (n : ℕ). finished h.edition h.words h.count (take n h.tail) 0 0) c.tail_length-end.ensures)
