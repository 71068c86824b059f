-- The invariant: the first i bytes of d are those of the text, and the rest is as it was. Assumes nothing.
use Rattle.std.proofs.Common.{◌≡◌, ◌++◌, length, drop}
use Rattle.hexlines.specs.Digits.{bytes_of}
use Rattle.hexlines.proofs.unhex.Given as goal

abbrev pub invariant-loop-i : goal.invariant-loop-i
invariant-loop-i l = (length l.d ≡ length l.initial.d) × (l.d ≡ bytes_of l.s l.i ++ drop l.i l.initial.d)
