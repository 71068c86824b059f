-- `keyedwords::unpack` meets its contract: what the front holds as a bay, and the outer words copied. Assumes nothing.
use Prim.Native.Nat.{◌≤◌}
use lib.ListN.{length}
use borrow.Author.Rules.{rules}
use Rattle.keyedwords.specs.Words.{keyed_words}
use Rattle.keyedwords.proofs.Packing.{unpacked}
use Rattle.keyedwords.proofs.unpack.Goals as goal

pub returns : goal.returns
returns c = let enough : keyed_words ≤ length c.args.words.now = search rules in
    unpacked c.args.words.now _ enough (search rules) c.half_in.ensures c.put_front.ensures
