-- What `name_allowed` gives of a name: some bytes, not too many, each below 256. The other proofs use nothing else of it.
-- `all-every`: the library's test of every element is `every`.
use mathlib.Core.Bool.{Bool, true, false, cond, ◌&&◌}
use mathlib.Core.List.{List, [], ◌∷◌}
use mathlib.Core.Path.{◌≡◌, refl}
use Prim.Native.Nat.{ℕ, ◌≤◌}
use native.Mathlib.Omega.{arith}
use lib.ListN.{length}
use borrow.Author.Tests.{leb-true}
use Rattle.std.specs.List.{list_all}
use Rattle.slices.specs.Below.{Bytes}
use Rattle.slices.specs.Tests.{every}
use Rattle.lists.specs.Lists.{longest_name, in_name, name_allowed}
use Rattle.slices.proofs.Tests.{holds_at, every-below}

pub all-every : (p : ℕ → Bool) (xs : List ℕ) → list_all p xs ≡ every p xs
unfolding every
all-every p [] = refl
all-every p (x ∷ xs) = go (p x) (all-every p xs)
  where
    go : (b : Bool) → list_all p xs ≡ every p xs → (b && list_all p xs) ≡ cond b (every p xs) false
    go true e = e
    go false e = refl

module _ (name : List ℕ) (e : name_allowed name ≡ true) where
  pub name-some : 1 ≤ length name
  unfolding name_allowed
  name-some = leb-true 1 (length name) (holds_at _ e 0)

  pub name-short : length name ≤ longest_name
  unfolding name_allowed
  name-short = leb-true (length name) longest_name (holds_at _ e 1)

  pub name-bytes : Bytes name
  unfolding name_allowed
  name-bytes =
      every-below in_name 256 (omega arith)
      (λ b h. omega (arith, leb-true b 0x7e (holds_at _ h 1)))
      name
      (holds_at _ e 2)
