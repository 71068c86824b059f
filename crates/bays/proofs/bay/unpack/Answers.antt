-- `bays::bay::unpack` meets its contract: the chaining words copied, the tail as bytes. Assumes nothing.
use mathlib.Core.Path.{sym}
use borrow.Author.Rules.{rules}
use Rattle.bays.proofs.Packing.{unpacked}
use Rattle.bays.proofs.bay.unpack.Goals as goal

pub returns : goal.returns
returns c = sym
    (unpacked c.args.bay.now _ _ _ _ c.told-bay (search rules) (search rules) c.put_front.ensures
    c.put_words.ensures)
