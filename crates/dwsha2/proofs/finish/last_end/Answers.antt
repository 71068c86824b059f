-- `dwsha2::finish::last_end` meets its contract: one block or two. Assumes nothing.
use Prim.Native.Nat.{ℕ, ◌*◌}
use mathlib.Core.Path.{sym, ap, ◌∙◌}
use native.Mathlib.Omega.{arith}
use Rattle.fips.specs.Sizes.{width_of}
use Rattle.fips.proofs.Sizes.{thin-bytes}
use Rattle.dwsha2.proofs.Last.{last_one, last-two}
use Rattle.dwsha2.proofs.finish.last_end.Goals as goal

pub overflow_add-n-2 : goal.overflow_add-n-2
overflow_add-n-2 c = omega (arith, thin-bytes c.args.thin, c.block_size-size.ensures)

pub returns-then-n-size : goal.returns-then-n-size
returns-then-n-size c = let a = c.args in
    let size = c.block_size-size.ensures in
    size ∙ sym (last_one (width_of a.thin) a.n (omega (arith, size)))

pub overflow_mul-result : goal.overflow_mul-result
overflow_mul-result c = omega (arith, thin-bytes c.args.thin, c.block_size-size.ensures)

pub returns : goal.returns
returns c = let a = c.args in
    let size = c.block_size-size.ensures in
    ap (λ (n : ℕ). 2 * n) size ∙ sym (last-two (width_of a.thin) a.n c.requires (omega (arith, size)))
