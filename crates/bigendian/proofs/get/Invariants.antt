-- `bigendian::get` meets its contract. The invariant: x is the number that the bytes read so far make, kept as a word.
use mathlib.Core.Path.{◌≡◌}
use lib.ListN.{take}
use Rattle.bigendian.specs.BigEndian.{number, word64}
use Rattle.bigendian.proofs.get.Given as goal

abbrev pub invariant-loop-b : goal.invariant-loop-b
invariant-loop-b l = l.x ≡ word64 (number (take l.b-index l.s))
