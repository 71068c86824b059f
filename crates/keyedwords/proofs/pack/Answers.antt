-- `keyedwords::pack` meets its contract: the words of a bay at the front, and the outer ones behind them. Assumes nothing.
use mathlib.Core.Path.{◌≡◌, ap, ◌∙◌}
use lib.ListN.{length}
use borrow.Author.Rules.{rules}
use native.Mathlib.Omega.{arith}
use Rattle.slices.proofs.AtFront.{length-at_front}
use Rattle.halfread.specs.State.{chain_room}
use Rattle.bays.specs.Places.{chain_words}
use Rattle.keyedwords.specs.Words.{words_of}
use Rattle.keyedwords.proofs.Packing.{packed}
use Rattle.keyedwords.proofs.pack.Goals as goal
use Rattle.keyedwords.proofs.pack.Goals.{After-slice_known-1}

-- as long as their types say

inner-long : (c : After-slice_known-1) → length c.args.keyed.inner.words ≡ chain_words
inner-long c = search rules

outer-long : (c : After-slice_known-1) → length c.args.keyed.outer ≡ chain_room
outer-long c = search rules

-- the words of the bay put, the words are as many as before

pub slice_bounds-put_front-start : goal.slice_bounds-put_front-start
slice_bounds-put_front-start c = omega (arith, ap length c.put_front.ensures ∙ length-at_front _ _)

pub returns : goal.returns
returns c = packed c.args.words.now c.args.keyed c.requires (inner-long (goal.at.returns c).After-slice_known-1)
    (outer-long (goal.at.returns c).After-slice_known-1) c.words_of-inner.ensures
    c.put_front.ensures c.put_front-2.ensures

pub shape_of-words : goal.shape_of-words
shape_of-words c = ap length (returns c) ∙ length-at_front (words_of _) _
