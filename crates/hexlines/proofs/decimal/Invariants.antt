-- The invariant: x is the number of the first digits. Assumes nothing.
use Rattle.hexlines.proofs.Numbers.{Numbered}
use Rattle.hexlines.proofs.decimal.Given as goal

abbrev pub invariant-loop-c : goal.invariant-loop-c
invariant-loop-c l = Numbered l.s l.x l.c-index
