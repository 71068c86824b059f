-- `lists::find` meets its contract. What is left from entry i on decides; it is right, since the list is accepted, so its names end within.
-- Assumes nothing.
use mathlib.Core.Bool.{true}
use mathlib.Core.List.{List}
use mathlib.Core.Path.{◌≡◌}
use Prim.Native.Nat.{ℕ, ◌+◌, ◌-◌, ◌*◌, ◌≤◌}
use lib.ListN.{length, drop}
use Rattle.lists.specs.Layout.{entry_size, read_pairs}
use Rattle.lists.specs.Code.Rules.{entries_right}
use Rattle.lists.proofs.Places.{found, found_in}
use Rattle.lists.proofs.find.Given as goal

pub record Left (bs name : List ℕ) (count d at next i : ℕ) : Type 0 where
  pub within : i ≤ count
  pub room : at + (count - i) * entry_size d ≤ length bs
  pub inside : next ≤ length bs
  pub last : List ℕ
  pub right : entries_right (count - i) (entry_size d) last next (drop at bs) bs ≡ true
  pub decides : found bs name ≡ found_in name d at (read_pairs (count - i) d (drop at bs) bs)

abbrev pub invariant-loop : goal.invariant-loop
invariant-loop l = Left l.list l.name l.count l.digest l.at l.next l.counter
