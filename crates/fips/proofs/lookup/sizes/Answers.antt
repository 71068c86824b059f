-- `fips::lookup::sizes` meets its contract: at each number of the table of editions, and at the others. Assumes nothing.
use mathlib.Core.Path.{◌≡◌, sym, ap}
use Prim.Native.Nat.{ℕ}
use mathlib.Core.Bool.{false}
use native.Mathlib.Omega.{arith}
use Rattle.std.specs.Prelude.{None}
use Rattle.fips.specs.Editions.{editions, edition, known}
use Rattle.fips.specs.Sizes.{sizes_number, sizes_told, Sized}
use Rattle.fips.proofs.Editions.{unknown}
use Rattle.fips.proofs.Sizes.{sizes_of, is-sized}
use Rattle.fips.proofs.lookup.sizes.Goals as goal

row : (e k : ℕ) → e ≡ k → Sized e (sizes_number (sizes_of k)) (sizes_told (sizes_of k))
row e k p = is-sized e (sizes_of k) (sym (ap sizes_of p))

pub returns-in-1 : goal.returns-in-1
unfolding sizes_of known edition editions
returns-in-1 c = row _ _ c.in-1.is

pub returns-in-2 : goal.returns-in-2
unfolding sizes_of known edition editions
returns-in-2 c = row _ _ c.in-2.is

pub returns-in-3 : goal.returns-in-3
unfolding sizes_of known edition editions
returns-in-3 c = row _ _ c.in-3.is

pub returns-in-4 : goal.returns-in-4
unfolding sizes_of known edition editions
returns-in-4 c = row _ _ c.in-4.is

pub returns-in-5 : goal.returns-in-5
unfolding sizes_of known edition editions
returns-in-5 c = row _ _ c.in-5.is

pub returns-in-6 : goal.returns-in-6
unfolding sizes_of known edition editions
returns-in-6 c = row _ _ c.in-6.is

pub returns-in_default : goal.returns-in_default
unfolding sizes_of
returns-in_default c =
    let e = c.args.edition in
    let none : known e ≡ false =
    unknown e (omega arith) (omega arith) (omega arith) (omega arith) (omega arith) (omega arith) in
    is-sized e None (rw none)
