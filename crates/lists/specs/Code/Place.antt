-- Where a name belongs in the order of a list, for one who writes a list: `earlier`, and `Placed`, what one reading tells; `place_tests` is
-- its refusal. A list with a pair in its place is `inserted` in crate writer, which stands behind so many: `inserted-at` there.
use Rattle.std.specs.Prelude.{Bool, false, cond, not, List, [], ◌∷◌, ◌≡◌, ℕ, suc, Result, Ok, Err}
use Rattle.answers.specs.declared.Refusal.{Refusal}
use Rattle.answers.specs.Judged.{Test, ◌when◌}
use Rattle.lists.specs.declared.Placing.{Placing}
use Rattle.lists.specs.Calls.{listed}
use Rattle.lists.specs.Layout.{read_list, accepted}
use Rattle.lists.specs.Lists.{Pair}
use Rattle.lists.specs.Order.{before}

-- how many pairs come before the first whose name does not come before that name
unfoldable pub earlier : List ℕ → List Pair → ℕ
earlier name [] = 0
earlier name (p ∷ ps) = cond (before p.name name) (suc (earlier name ps)) 0

-- the bytes are no list
unfoldable pub place_tests : List ℕ → List Test
place_tests bs = 12 when not (accepted bs) ∷ []

-- what one reading answers: how many names it counts, and whether it has the name; 0 and false where it refuses
abbrev pub earlier_of : Result Placing Refusal → ℕ
earlier_of (Ok p) = p.earlier
earlier_of (Err r) = 0

abbrev pub listed_of : Result Placing Refusal → Bool
listed_of (Ok p) = p.listed
listed_of (Err r) = false

-- what is told of bytes and a name: whether they are a list, how many of its names come before the name, and whether it has the name;
-- of bytes that are no list, 0 and false
pub record Placed (bs name : List ℕ) (is_list : Bool) (n : ℕ) (has : Bool) : Type 0 where
  pub judged : is_list ≡ accepted bs
  pub place : n ≡ cond (accepted bs) (earlier name (read_list bs).pairs) 0
  pub names : has ≡ cond (accepted bs) (listed name (read_list bs).pairs) false
