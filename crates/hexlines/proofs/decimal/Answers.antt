-- Each return is a case of `number_from`. Assumes nothing.
use Rattle.std.proofs.Common.{arith, rules, ◌∙◌}
use Rattle.hexlines.proofs.Numbers.{empty_number, one_more, no_digit, no_decimal, too_large, whole_number}
use Rattle.hexlines.proofs.decimal.Goals as goal
use Rattle.hexlines.proofs.decimal.Goals.{then-d-gt9-via-then-d-gt9, then-d-gt9-via-else-d-gt9+then-x-gt1000000000000}

pub returns-then-is_empty : goal.returns-then-is_empty
returns-then-is_empty c = empty_number _ (search rules)

pub returns-in_err-d : goal.returns-in_err-d
returns-in_err-d c = c.from_residual.ensures ∙ no_digit _ _ _ (omega arith) c.loop-c.invariant c.in_err-d.ensures

pub returns-then-d-gt9 : goal.returns-then-d-gt9
returns-then-d-gt9 c = elim c.then-d-gt9.branch [
  | then-d-gt9-via-then-d-gt9 w ↦ no_decimal _ _ _ (omega arith) c.loop-c.invariant _ c.in_ok-d.ensures w.if-d-gt9.true
  | then-d-gt9-via-else-d-gt9+then-x-gt1000000000000 w ↦
      too_large _ _ _ (omega arith) c.loop-c.invariant _ c.in_ok-d.ensures w.if-d-gt9.false w.if-x-gt1000000000000.true
]

pub loop-c-preserved : goal.loop-c-preserved
loop-c-preserved c = rw c.from.ensures (one_more _ _ _ _ (omega arith) c.in_ok-d.ensures (omega arith) (omega arith) c.loop-c.invariant)

pub returns : goal.returns
returns c = whole_number _ _ _ (search rules) (omega arith) c.loop-c.invariant
