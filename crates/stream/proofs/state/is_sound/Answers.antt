-- `stream::state::is_sound` meets its contract: rule by rule. Assumes nothing.
use Prim.Native.Nat.{◌*◌, ◌≤◌}
use mathlib.Core.Bool.{true}
use mathlib.Core.Path.{◌≡◌, refl, sym, ap, ◌∙◌}
use native.Mathlib.Omega.{arith}
use lib.Count.{ones}
use lib.ListN.{length, drop}
use borrow.Author.Rules.{rules}
use Rattle.slices.specs.Tests.{holds, all_zero}
use Rattle.treerule.specs.Root.{chunk_bytes, node_bytes}
use Rattle.stream.specs.State.{root_room, count_rules}
use Rattle.stream.proofs.Limits.{few-roots}
use Rattle.stream.proofs.Soundness.{Counts, counts-hold, bad-counts, bad-roots, by_bytes, zeros-asked}
use Rattle.stream.proofs.state.is_sound.Goals as goal
use Rattle.stream.proofs.state.is_sound.Goals.{After-all_are, After-held-end, Else-not-counts}

pub returns-then-not-counts : goal.returns-then-not-counts
returns-then-not-counts c = sym (bad-counts _ (sym c.counts.ensures ∙ c.if-not-counts.true))

counted : (c : Else-not-counts) → holds (count_rules c.args.stream.chunks c.args.stream.further) ≡ true
counted c = sym c.counts.ensures ∙ c.if-not-counts.false

bounds : (c : Else-not-counts) → Counts c.args.stream.chunks c.args.stream.further
bounds c = counts-hold _ _ (counted c)

few : (c : After-held-end) → c.held-end.result ≤ 32
few c =
    let counted' : holds (count_rules c.args.stream.chunks c.args.stream.further) ≡ true = sym c.counts.ensures ∙ c.if-not-counts.false in
    let bounds' : Counts c.args.stream.chunks c.args.stream.further = counts-hold _ _ (counted') in
    omega (arith, c.held-end.ensures, few-roots _ (bounds').most)

roots-long : (c : After-held-end) → length c.args.stream.roots ≡ root_room
roots-long c = search rules

bytes-long : (c : After-held-end) → length c.args.stream.bytes ≡ chunk_bytes
bytes-long c = search rules

roots-asked : (c : After-all_are) →
    c.all_are.result
    ≡ all_zero
    (drop (ones c.args.stream.chunks * node_bytes)
    c.args.stream.roots)
roots-asked c =
    let roots-long' : length c.args.stream.roots ≡ root_room = search rules in
    zeros-asked root_room (c.held-end.result * node_bytes) _ (roots-long') (ap (λ n. n * node_bytes) c.held-end.ensures)
    c.all_are.ensures

pub returns-then-not-all_are : goal.returns-then-not-all_are
returns-then-not-all_are c =
    sym (bad-roots _ (counted (goal.at.returns-then-not-all_are c).Else-not-counts)
    (sym (roots-asked (goal.at.returns-then-not-all_are c).After-all_are) ∙ c.if-not-all_are.true))

pub returns : goal.returns
returns c = let s = c.args.stream in
    zeros-asked chunk_bytes s.further s.bytes (bytes-long (goal.at.returns c).After-held-end) refl c.all_are-2.ensures
    ∙ sym (by_bytes _ (counted (goal.at.returns c).Else-not-counts)
    (sym (roots-asked (goal.at.returns c).After-all_are) ∙ c.if-not-all_are.false))

pub overflow_mul-end : goal.overflow_mul-end
overflow_mul-end c = record { fits = omega (arith, few c) }

pub slice_bounds-all_are-count : goal.slice_bounds-all_are-count
slice_bounds-all_are-count c = omega (arith, few c)

pub slice_bounds-all_are-start : goal.slice_bounds-all_are-start
slice_bounds-all_are-start c = omega (arith, few c)

pub slice_bounds-all_are-end : goal.slice_bounds-all_are-end
slice_bounds-all_are-end c = omega (arith, few c, roots-long c)

pub slice_bounds-all_are-count-2 : goal.slice_bounds-all_are-count-2
slice_bounds-all_are-count-2 c = omega (arith, (bounds (goal.at.slice_bounds-all_are-count-2 c).Else-not-counts).short)

pub slice_bounds-all_are-start-2 : goal.slice_bounds-all_are-start-2
slice_bounds-all_are-start-2 c = omega (arith, (bounds (goal.at.slice_bounds-all_are-start-2 c).Else-not-counts).short)

pub slice_bounds-all_are-end-2 : goal.slice_bounds-all_are-end-2
slice_bounds-all_are-end-2 c = omega (arith, bytes-long (goal.at.slice_bounds-all_are-end-2 c).After-held-end)
