-- The first i letters have their chaining words added. Assumes nothing.
use Rattle.std.proofs.Common.{map}
use Rattle.fips.specs.Words.{add}
use Rattle.blockrule.proofs.Rounds.{Joined}
use Rattle.block.proofs.added.Given as goal

abbrev pub invariant-loop-i : goal.invariant-loop-i
invariant-loop-i g l =
    let v = g.W.Word.value in
    Joined (add g.W.Word.width) 8 (map v l.initial.r) (map v l.h) (map v l.r) l.i
