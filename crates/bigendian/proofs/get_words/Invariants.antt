-- `bigendian::get_words` meets its contract. The invariant: the first words, and the words of what is left of s, are those of s, and s has
-- those whole that are still to be read.
use lib.ListN.{length}
use Rattle.bigendian.proofs.Reading.{Read, Ahead}
use Rattle.bigendian.proofs.get_words.Given as goal

abbrev pub invariant-loop-word : goal.invariant-loop-word
invariant-loop-word l = Read (length l.fn.d) l.s l.n l.whole l.at l.word-index × Ahead l.s l.n (length l.initial.whole) l.at l.word-index
