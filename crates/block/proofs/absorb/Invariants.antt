-- What is left decides, and less than a block decides nothing more. Assumes nothing.
use Rattle.std.proofs.Common.{◌≡◌, map}
use Rattle.std.specs.Slice.Iter.{chunks_exact_rest, chunks_exact_size}
use Rattle.fips.specs.Words.{block_bytes}
use Rattle.fips.specs.Constants.{chain}
use Rattle.fips.specs.Code.ByteForm.{parse_bytes}
use Rattle.block.proofs.absorb.Given as goal

abbrev pub invariant-loop-bytes : goal.invariant-loop-bytes
invariant-loop-bytes g l =
    let p = g.W.Word in
    let left = l.bytes-iterator in
    (chunks_exact_size left ≡ block_bytes p.width)
    × (chain p.width (map p.value l.v) (parse_bytes p.width (chunks_exact_rest left))
    ≡ chain p.width (map p.value l.initial.v) (parse_bytes p.width l.s))
