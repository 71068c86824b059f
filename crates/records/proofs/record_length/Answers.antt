-- `records::record_length` meets its contract: a record has at most so many bytes as the longest. Assumes nothing.
use native.Mathlib.Omega.{arith}
use Rattle.records.proofs.Written.{length_in-within}
use Rattle.records.specs.Record.{newest}
use Rattle.records.proofs.record_length.Goals as goal

pub overflow_add-result : goal.overflow_add-result
overflow_add-result c = omega (arith, c.tail_at.ensures, c.tail_length.ensures, length_in-within newest c.args.half.now)
