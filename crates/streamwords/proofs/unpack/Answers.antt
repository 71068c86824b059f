-- `streamwords::unpack` meets its contract: the words of the roots and of the bytes, as bytes. Assumes nothing.
use Prim.Native.Nat.{◌≤◌}
use lib.ListN.{length}
use borrow.Author.Rules.{rules}
use Rattle.streamwords.specs.Words.{stream_words}
use Rattle.streamwords.proofs.Packing.{unpacked}
use Rattle.streamwords.proofs.unpack.Goals as goal

pub returns : goal.returns
returns c = let enough : stream_words ≤ length c.args.words.now = search rules in
    unpacked c.args.words.now _ _ enough (search rules) (search rules) c.put_words.ensures c.put_words-2.ensures
