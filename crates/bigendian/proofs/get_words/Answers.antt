-- `bigendian::get_words` meets its contract. The invariant: the first words, and the words of what is left of s, are those of s, and s has
-- those whole that are still to be read.
use mathlib.Core.Path.{◌≡◌, ◌∙◌, ap₂}
use mathlib.Core.List.{List, map}
use Prim.Native.Nat.{ℕ, ◌-◌}
use native.Mathlib.Omega.{arith}
use lib.ListN.{length}
use Rattle.slices.proofs.Parts.{part-all}
use Rattle.bigendian.specs.BigEndian.{word64}
use Rattle.bigendian.specs.Words.{to_words}
use Rattle.bigendian.proofs.Reading.{read_none, read_more, read_all, ahead-all, ahead-next, ahead-end}
use Rattle.bigendian.proofs.get_words.Goals as goal

pub loop-word-init : goal.loop-word-init
loop-word-init c = let cut = c.split_at_mut-whole.ensures in
    (read_none _ _ _ _ (omega arith), ahead-all _ _ _ _ (cut.front_len ∙ c.room.ensures))

pub loop-word-preserved : goal.loop-word-preserved
loop-word-preserved c = let l = c.loop-word in
    let end = ahead-end _ _ _ _ _ c.loop-word-test.true l.invariant.1 in (
      read_more _ _ _ l.whole l.at l.word-index _ _ (omega arith) (omega arith) c.get.ensures l.invariant.0,
      ahead-next _ _ _ _ _ c.loop-word-test.true l.invariant.1,
    )

pub returns : goal.returns
returns c = let l = c.loop-word in
    let cut = c.split_at_mut-whole in
    let left : length cut.result.1.now ≡ length c.args.d.now - l.word-index = omega (arith, cut.ensures) in
    read_all _ _ _ l.whole l.at l.word-index _ (omega arith)
    (c.cut_words.ensures ∙ ap₂ (λ (k : ℕ) (bs : List ℕ). map word64 (to_words k c.args.n bs)) left (part-all l.at c.args.s.now))
    l.invariant.0
