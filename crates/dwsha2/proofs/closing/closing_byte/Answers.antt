-- `dwsha2::closing::closing_byte` meets its contract: the sum is the definition's, which is below 256. Assumes nothing.
use Prim.Native.Nat.{ℕ, ◌+◌, ◌-◌, ◌*◌, ◌/◌, ◌%◌, ◌^◌, ◌<◌}
use mathlib.Core.Path.{◌≡◌, sym, subst}
use native.Mathlib.Nat.{div-mul-le_self}
use native.Mathlib.Omega.{arith}
use lib.Pow.{pow_pos}
use Rattle.fips.specs.Code.ByteForm.{closing_byte}
use Rattle.fips.proofs.ByteForm.{closing-lt}
use Rattle.dwsha2.proofs.closing.closing_byte.Goals as goal

is-closed : (x b u o : ℕ) → u ≡ 2 ^ (8 - b) → o ≡ 2 ^ (7 - b) → x / u * u + o ≡ closing_byte x b
is-closed x b u o p q = rw (p, q)

small : (x b u o : ℕ) → u ≡ 2 ^ (8 - b) → o ≡ 2 ^ (7 - b) → x < 256 → b < 8 → x / u * u + o < 256
small x b u o p q h k = subst (λ (n : ℕ). n < 256) (sym (is-closed x b u o p q)) (closing-lt b k x h)

pub nonzero_div-result : goal.nonzero_div-result
nonzero_div-result c = rw c.power-unit.ensures (pow_pos _)

pub overflow_mul-result : goal.overflow_mul-result
overflow_mul-result c = omega (arith, div-mul-le_self c.args.closing c.power-unit.result)

pub overflow_add-result : goal.overflow_add-result
overflow_add-result c = let x = c.args.closing in
    let b = c.args.bits % 8 in
    let h : x < 256 = omega arith in
    let k : b < 8 = omega arith in
    omega (arith, small x b _ _ c.power-unit.ensures c.power-one.ensures h k)

pub overflow_cast-result-2 : goal.overflow_cast-result-2
overflow_cast-result-2 c = let x = c.args.closing in
    let b = c.args.bits % 8 in
    let h : x < 256 = omega arith in
    let k : b < 8 = omega arith in
    omega (arith, small x b _ _ c.power-unit.ensures c.power-one.ensures h k)

pub returns : goal.returns
returns c = is-closed _ _ _ _ c.power-unit.ensures c.power-one.ensures
