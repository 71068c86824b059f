-- `lists::entries::entry_at` meets its contract: the entries before it are few and small. Assumes nothing.
use Prim.Native.Nat.{ℕ, ◌+◌, ◌*◌, ◌^◌, ◌≤◌}
use mathlib.Core.Path.{ap}
use native.Mathlib.Omega.{arith}
use Rattle.fips.proofs.Editions.{digest-short}
use Rattle.lists.specs.Layout.{number_size, entries_at, entry_size}
use Rattle.lists.proofs.ByNumber.{entry-far}
use Rattle.lists.proofs.entries.entry_at.Goals as goal
use Rattle.lists.proofs.entries.entry_at.Goals.{After-digest_size}

far : (c : After-digest_size) →
    (c.digest_size.result ≤ 64) × (c.args.i * entry_size c.digest_size.result ≤ 256 ^ number_size * entry_size 64)
far c =
    let few = entry-far c.args.list.now c.args.i c.requires (λ i. (c.type_inv.list i).fits) in
    (rw c.digest_size.ensures (digest-short _), rw c.digest_size.ensures few)

pub returns : goal.returns
returns c = (ap (λ (d : ℕ). entries_at + c.args.i * entry_size d) c.digest_size.ensures, omega (arith, far c))

pub overflow_add-result : goal.overflow_add-result
overflow_add-result c = omega (arith, far c)

pub overflow_mul-result : goal.overflow_mul-result
overflow_mul-result c = omega (arith, far c)

pub overflow_add-result-2 : goal.overflow_add-result-2
overflow_add-result-2 c = omega (arith, far c)
