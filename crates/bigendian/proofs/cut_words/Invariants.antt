-- `bigendian::cut_words` meets its contract. The invariant: the first words of d, and the words of what is left of s, are those of s.
use lib.ListN.{length}
use Rattle.bigendian.proofs.Reading.{Read}
use Rattle.bigendian.proofs.cut_words.Given as goal

abbrev pub invariant-loop-word : goal.invariant-loop-word
invariant-loop-word l = Read (length l.initial.d) l.s l.n l.d l.at l.word-index
