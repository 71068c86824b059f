-- `stream::roots::joins` meets its contract: the zeros at the end of the next number are the ones at the end of this. Assumes nothing.
use native.Mathlib.Numerals.{add-one}
use native.Mathlib.Omega.{arith}
use mathlib.Core.Path.{ap, ◌∙◌}
use lib.Count.{count_trailing_zeros, trailing_le}
use Rattle.streamrule.proofs.Ones.{ones-zeros}
use Rattle.stream.proofs.Limits.{count_fits}
use Rattle.stream.proofs.roots.joins.Goals as goal

pub overflow_cast-result : goal.overflow_cast-result
overflow_cast-result c = count_fits _ (trailing_le 64 _)

pub returns : goal.returns
returns c = let n = c.args.chunks in
    ap (count_trailing_zeros 64) (add-one n) ∙ ones-zeros 64 n (omega (arith, c.requires))
