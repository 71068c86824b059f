-- The library's number of four bytes is theirs. Assumes nothing.
use Rattle.blockrule.proofs.Load.{four-bytes}
use Rattle.block.proofs.narrow.U32Word.read.Goals as goal

pub returns : goal.returns
returns c =
    let array = rw c.unwrap.ensures at c.as_array.ensures.cases in
    rw (c.from_be_bytes.ensures, array.same) (four-bytes c.args.bytes.now c.requires)
