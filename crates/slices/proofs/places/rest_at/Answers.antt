-- `slices::places::rest_at` meets its contract: a count is its whole blocks and what is left. Assumes nothing.
use Prim.Native.Nat.{ℕ, ◌*◌, ◌/◌}
use mathlib.Core.Path.{◌≡◌, sym, ap, ◌∙◌}
use native.Mathlib.Nat.{div-add-mod', mod-le, mul-zero}
use native.Mathlib.Omega.{arith}
use Rattle.slices.proofs.places.rest_at.Goals as goal

none : (len n : ℕ) → n ≡ 0 → 0 ≡ len / n * n
none len n e = sym (ap (λ (k : ℕ). len / n * k) e ∙ mul-zero (len / n))

pub returns-then-n-eq0 : goal.returns-then-n-eq0
returns-then-n-eq0 c = none c.args.len c.args.n c.if-n-eq0.true

pub returns : goal.returns
returns c = omega (arith, div-add-mod' c.args.len c.args.n)

pub overflow_sub-result : goal.overflow_sub-result
overflow_sub-result c = mod-le _ _
