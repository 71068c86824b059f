-- `halfread::sound::is_sound` meets its contract: rule by rule. Assumes nothing.
use Prim.Native.Nat.{◌<◌, ◌≤◌}
use mathlib.Core.Path.{◌≡◌, sym, ◌∙◌}
use native.Mathlib.Omega.{arith}
use lib.ListN.{length}
use borrow.Author.Rules.{rules}
use Rattle.halfread.proofs.Rules.{unsound, Kept, past-rule, begun-rule, zero-rule, below-rule}
use Rattle.halfread.proofs.Sizes.{rest-within}
use Rattle.halfread.specs.State.{tail_room}
use Rattle.halfread.proofs.sound.is_sound.Goals as goal
use Rattle.halfread.proofs.sound.is_sound.Goals.{After-tail_length-from, Else-not-all_are}

pub returns-then-not-known : goal.returns-then-not-known
returns-then-not-known c = unsound _ 0 (sym c.known.ensures ∙ c.if-not-known.true)

pub returns-then-too_long : goal.returns-then-too_long
returns-then-too_long c = unsound _ 1 (rw (sym c.too_long.ensures ∙ c.if-too_long.true))

pub returns-then-not-below_width : goal.returns-then-not-below_width
returns-then-not-below_width c = let h = c.args.half in
    unsound h 2
    (sym (below-rule h.edition h.words c.narrow.ensures c.below_width.ensures)
    ∙ c.if-not-below_width.true)

held_fits : (c : After-tail_length-from) → c.tail_length-from.result ≤ tail_room
held_fits c =
    let small : c.tail_length-from.result < tail_room = rest-within _ _ c.tail_length-from.ensures in
    omega arith

pub returns-then-not-all_are : goal.returns-then-not-all_are
returns-then-not-all_are c = let h = c.args.half in
    let long : length h.tail ≡ tail_room = search rules in
    unsound h 3 (sym (zero-rule h long c.tail_length-from.ensures c.all_are.ensures) ∙ c.if-not-all_are.true)

kept : (c : Else-not-all_are) →
    Kept c.args.half
kept c =
    let h = c.args.half in
    let long : length h.tail ≡ tail_room = search rules in
    record {
      known = sym c.known.ensures ∙ c.if-not-known.false;
      short = rw (sym c.too_long.ensures ∙ c.if-too_long.false);
      below =
          sym (below-rule h.edition h.words c.narrow.ensures c.below_width.ensures)
          ∙ c.if-not-below_width.false;
      zero = sym (zero-rule h long c.tail_length-from.ensures c.all_are.ensures) ∙ c.if-not-all_are.false;
    }

pub returns-then-size-count : goal.returns-then-size-count
returns-then-size-count c = past-rule _ (kept (goal.at.returns-then-size-count c).Else-not-all_are)
    (omega (arith, c.block_bytes-size.ensures))

pub returns : goal.returns
returns c = begun-rule _ (kept (goal.at.returns c).Else-not-all_are) (omega (arith, c.block_bytes-size.ensures))
    c.starting_words-start.ensures c.same.ensures

pub slice_bounds-all_are-count : goal.slice_bounds-all_are-count
slice_bounds-all_are-count c = held_fits c

pub slice_bounds-all_are-start : goal.slice_bounds-all_are-start
slice_bounds-all_are-start c = held_fits c
