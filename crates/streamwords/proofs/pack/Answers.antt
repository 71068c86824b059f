-- `streamwords::pack` meets its contract: two words, the roots' words and the bytes' words, one behind another. Assumes nothing.
use Prim.Native.Nat.{ℕ}
use mathlib.Core.Path.{ap, ◌∙◌}
use native.Mathlib.Omega.{arith}
use mir.Syntax.{w8 as u8}
use mir.Val.{Fits}
use lib.ListN.{length, get_or, length-set}
use borrow.Author.Rules.{rules}
use Rattle.slices.proofs.AtFront.{length-at_front}
use Rattle.streamwords.specs.Words.{words_of}
use Rattle.streamwords.proofs.Packing.{with-long, packed}
use Rattle.streamwords.proofs.pack.Goals as goal
use Rattle.streamwords.proofs.pack.Goals.{After-bytes-1}

roots-bytes : (c : After-bytes-1) (i : ℕ) → Fits u8 (get_or c.args.stream.roots i 0)
roots-bytes c i = search rules

bytes-bytes : (c : After-bytes-1) (i : ℕ) → Fits u8 (get_or c.args.stream.bytes i 0)
bytes-bytes c i = search rules

-- the roots put, the words are as many as before

pub slice_bounds-get_words-end-3 : goal.slice_bounds-get_words-end-3
slice_bounds-get_words-end-3 c = omega (
  arith,
  c.requires,
  with-long c.args.words.now c.args.stream c.requires
      (λ i. (roots-bytes (goal.at.slice_bounds-get_words-end-3 c).After-bytes-1 i).fits) c.get_words.ensures,
)

pub returns : goal.returns
returns c = packed c.args.words.now c.args.stream c.requires (λ i. (roots-bytes (goal.at.returns c).After-bytes-1 i).fits)
    c.get_words.ensures
    (λ i. (bytes-bytes (goal.at.returns c).After-bytes-1 i).fits) c.get_words-2.ensures

pub bounds-words-1 : goal.bounds-words-1
bounds-words-1 c = simp length-set (omega arith)

pub slice_bounds-get_words-end : goal.slice_bounds-get_words-end
slice_bounds-get_words-end c = simp length-set (omega arith)

pub shape_of-words : goal.shape_of-words
shape_of-words c = ap length (returns c) ∙ length-at_front (words_of _) _
