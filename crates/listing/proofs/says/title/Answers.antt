-- `listing::says::title` meets its contract: at each number of an edition, and at the others.
use Prim.Native.Nat.{ℕ}
use mathlib.Core.Path.{◌≡◌}
use native.Mathlib.Omega.{arith}
use borrow.Author.Tests.{ne_eqb}
use Rattle.fips.specs.Constants.{ascii}
use Rattle.listing.specs.Says.{title}
use Rattle.listing.proofs.says.title.Goals as goal

none : (e : ℕ) → (e ≡ 1 → ⊥) → (e ≡ 2 → ⊥) → (e ≡ 3 → ⊥) → (e ≡ 4 → ⊥) → (e ≡ 5 → ⊥) → (e ≡ 6 → ⊥) → title e ≡ "no edition\n"
unfolding title
none e a b c d f g = rw (ne_eqb e 1 a, ne_eqb e 2 b, ne_eqb e 3 c, ne_eqb e 4 d, ne_eqb e 5 f, ne_eqb e 6 g)

pub returns-in-1 : goal.returns-in-1
unfolding title ascii
returns-in-1 c = rw c.in-1.is

pub returns-in-2 : goal.returns-in-2
unfolding title ascii
returns-in-2 c = rw c.in-2.is

pub returns-in-3 : goal.returns-in-3
unfolding title ascii
returns-in-3 c = rw c.in-3.is

pub returns-in-4 : goal.returns-in-4
unfolding title ascii
returns-in-4 c = rw c.in-4.is

pub returns-in-5 : goal.returns-in-5
unfolding title ascii
returns-in-5 c = rw c.in-5.is

pub returns-in-6 : goal.returns-in-6
unfolding title ascii
returns-in-6 c = rw c.in-6.is

pub returns-in_default : goal.returns-in_default
unfolding ascii
returns-in_default c =
    rw (none c.args.edition (omega arith) (omega arith) (omega arith) (omega arith) (omega arith) (omega arith))
