-- `keyed::pads::xor` meets its contract: i bytes are xored, and those behind them are as they were. Assumes nothing.
use mathlib.Core.Path.{◌≡◌}
use lib.ListN.{take, drop}
use Rattle.slices.proofs.Fill.{Filled}
use Rattle.halfread.specs.State.{tail_room}
use Rattle.hmac.specs.Hmac.{xored}
use Rattle.keyed.proofs.pads.xor.Given as goal

abbrev pub invariant-loop-byte : goal.invariant-loop-byte
invariant-loop-byte l = record {
  done : Filled tail_room tail_room (λ t. xored l.pad (take t l.fn.block)) l.byte-items l.byte-index;
  left : drop l.byte-index l.byte-items ≡ drop l.byte-index l.fn.block;
}
