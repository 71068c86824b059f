-- `stream::root::root_of` meets its contract: the roots folded, behind them the leaf of the bytes that follow the chunks. Assumes nothing.
use Prim.Native.Nat.{ℕ, ◌≤◌}
use mathlib.Core.Path.{◌≡◌, sym, ap, ◌∙◌}
use native.Mathlib.Omega.{arith}
use lib.ListN.{length, take}
use lib.Seq.{length-take-le}
use borrow.Author.Rules.{rules}
use Rattle.treerule.specs.Root.{chunk_bytes}
use Rattle.tree.specs.Code.Held.{held as nodes}
use Rattle.stream.specs.State.{held, root_room}
use Rattle.stream.proofs.Folding.{nodes-front}
use Rattle.stream.proofs.Soundness.{Sound, sound-has}
use Rattle.stream.proofs.Rooting.{root-further, root-nothing, root-last}
use Rattle.stream.proofs.root.root_of.Goals as goal
use Rattle.stream.proofs.root.root_of.Goals.{After-held}

-- a stream that is sound has no more roots than there is room for

few : (c : After-held) → c.held.result ≤ length c.as_chunks.result.0.now
few c =
    let long : length c.args.stream.roots ≡ root_room = search rules in
    let has : Sound c.args.stream = sound-has _ c.requires in
    omega (arith, has.few, long, c.held.ensures, c.as_chunks.ensures.front_len)

is-held : (c : After-held) → take c.held.result c.as_chunks.result.0.now ≡ held c.args.stream
is-held c =
    let long : length c.args.stream.roots ≡ root_room = search rules in
    let has : Sound c.args.stream = sound-has _ c.requires in
    nodes-front c.args.stream.roots c.as_chunks.ensures.front c.held.result (omega (arith, has.few, long, c.held.ensures))
    ∙ ap (λ (n : ℕ). nodes n c.args.stream.roots) c.held.ensures

pub slice_bounds-roots-end : goal.slice_bounds-roots-end
slice_bounds-roots-end c = sym (length-take-le _ _ (few c))

pub returns-then-end-gt0 : goal.returns-then-end-gt0
returns-then-end-gt0 c =
    let long : length c.args.stream.bytes ≡ chunk_bytes = search rules in
    root-further c.args.stream (is-held (goal.at.returns-then-end-gt0 c).After-held) long (sound-has _ c.requires).counts.short
    c.if-end-gt0.true c.leaf.ensures c.fold.ensures

pub returns-in-Some : goal.returns-in-Some
returns-in-Some c = root-last c.args.stream (is-held (goal.at.returns-in-Some c).After-held) c.in-Some.before.now c.in-Some.last.now
    (omega (arith, c.if-end-gt0.false)) c.in-Some.ensures.cases.0 c.fold-in-Some.ensures

pub returns-in-None : goal.returns-in-None
returns-in-None c = root-nothing c.args.stream (is-held (goal.at.returns-in-None c).After-held) (omega (arith, c.if-end-gt0.false))
    c.in-None.ensures.cases c.nothing.ensures
