-- `keyed::pads::block_key` meets its contract: a key longer than a block is hashed, and zeros stand behind. Assumes nothing.
use native.Mathlib.Omega.{arith}
use Rattle.keyed.proofs.Keys.{long-padded, short-padded}
use Rattle.keyed.proofs.pads.block_key.Goals as goal

pub returns-then-block_bytes-key : goal.returns-then-block_bytes-key
returns-then-block_bytes-key c = long-padded _ _ (λ i. (c.shared_slice_known-1.given i).fits) (omega (arith, c.block_bytes.ensures))
    c.starting_words-start.ensures
    c.finish-words.ensures c.write_digest.ensures

pub returns : goal.returns
returns c = short-padded _ _ (omega (arith, c.block_bytes.ensures)) c.put_front.ensures
