-- A read that brought bytes put them behind the others; one that failed changed neither those nor what the reader has left.
use Rattle.std.proofs.Common.{rules, arith}
use Rattle.std.proofs.KnownBytes.{Consumes-trans, Consumes-kept}
use Rattle.std.proofs.lemmas.Slice.{take-put_mid_below}
use Rattle.reading.proofs.Joined.{joined}
use Rattle.reading.proofs.rest.Goals as goal
use Rattle.reading.proofs.rest.Goals.{in-Ok, in-Err}

pub loop-preserved : goal.loop-preserved
loop-preserved g c =
    elim c.match-read.branch [
      | in-Ok w ↦ (
        search rules,
        search rules,
        rw (w.n-is, joined c.loop.n _ w.in-Ok.more c.loop.buffer c.read.new.buf (omega arith) w.in-Ok.ensures.bound.0)
            (Consumes-trans _ _ _ _ _ c.loop.invariant.2 w.in-Ok.ensures.bytes.0),
      )
      | in-Err w ↦ (
        search rules,
        search rules,
        rw (w.n-is, take-put_mid_below c.loop.n _ c.loop.buffer c.read.new.buf c.loop.n (omega arith) (omega arith))
            (Consumes-kept _ _ _ _ c.loop.invariant.2 w.in-Err.ensures.bytes),
      )
    ]
