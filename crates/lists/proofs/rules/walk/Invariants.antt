-- `lists::rules::walk` meets its contract. What is left from entry i on decides: it starts at `at`, and its names at `next`.
use mathlib.Core.List.{List, []}
use mathlib.Core.Path.{◌≡◌}
use Prim.Native.Nat.{ℕ, ◌+◌, ◌-◌, ◌*◌, ◌≤◌}
use lib.ListN.{length, drop}
use Rattle.slices.specs.Parts.{part}
use Rattle.lists.specs.Layout.{entries_at, entry_size, names_at, read_pairs}
use Rattle.lists.specs.Code.Rules.{entries_right}
use Rattle.lists.proofs.Walk.{Earlier}
use Rattle.lists.proofs.rules.walk.Given as goal

pub record Left (bs name : List ℕ) (count d at next last n i : ℕ) : Type 0 where
  pub within : i ≤ count
  pub room : at + (count - i) * entry_size d ≤ length bs
  pub order : last ≤ next
  pub inside : next ≤ length bs
  pub decides : entries_right count (entry_size d) [] (names_at count d) (drop entries_at bs) bs
      ≡ entries_right (count - i) (entry_size d) (part bs last (next - last)) next (drop at bs) bs
  pub places : Earlier name (read_pairs count d (drop entries_at bs) bs) n i (read_pairs (count - i) d (drop at bs) bs)

abbrev pub invariant-loop-i : goal.invariant-loop-i
invariant-loop-i l = Left l.list l.name l.count l.digest l.at l.next l.last l.earlier l.i
