-- `bigendian::cut_words` meets its contract. The invariant: the first words of d, and the words of what is left of s, are those of s.
use mathlib.Core.Path.{◌≡◌, sym, ◌∙◌}
use Prim.Native.Nat.{◌-◌}
use mathlib.Core.List.{[], append-nil}
use native.Mathlib.Omega.{arith}
use lib.ListN.{length}
use Rattle.bigendian.specs.Words.{to_words}
use Rattle.bigendian.proofs.Reading.{read_none, read_more, read_all}
use Rattle.bigendian.proofs.cut_words.Goals as goal

pub loop-word-init : goal.loop-word-init
loop-word-init c = read_none _ _ _ _ (omega arith)

pub loop-word-preserved : goal.loop-word-preserved
loop-word-preserved c = let l = c.loop-word in
    read_more _ _ _ l.d l.at l.word-index _ _ (omega arith) c.end_of-end.ensures c.get.ensures l.invariant

pub returns : goal.returns
unfolding to_words
returns c = let l = c.loop-word in
    let z : length c.args.d.now - l.word-index ≡ 0 = omega arith in
    sym (append-nil l.d) ∙ read_all _ _ _ l.d l.at l.word-index [] (omega arith) (rw z) l.invariant
