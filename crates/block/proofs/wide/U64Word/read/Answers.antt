-- The library's number of eight bytes is theirs. Assumes nothing.
use Rattle.blockrule.proofs.Load.{eight-bytes}
use Rattle.block.proofs.wide.U64Word.read.Goals as goal

pub returns : goal.returns
returns c =
    let array = rw c.unwrap.ensures at c.as_array.ensures.cases in
    rw (c.from_be_bytes.ensures, array.same) (eight-bytes c.args.bytes.now c.requires)
