-- `lists::place` meets its contract: the walk judges the list and counts, and the next entry tells whether the name is there.
use mathlib.Core.Bool.{Bool, true, false}
use mathlib.Core.List.{List}
use mathlib.Core.Path.{◌≡◌, sym, ap, ◌∙◌}
use Prim.Native.Nat.{ℕ}
use lib.ListN.{drop}
use Rattle.fips.proofs.Editions.{digest-short}
use Rattle.answers.specs.Judged.{first}
use Rattle.lists.specs.Code.Place.{earlier, place_tests, Placed}
use Rattle.lists.specs.Layout.{entries_at, count_in, digest_size_in, read_pairs, read_list, accepted}
use Rattle.lists.specs.Code.Rules.{header_right, names_entry}
use Rattle.lists.proofs.ByRules.{header-refuses, names-inside, entries-few, entries-decide}
use Rattle.lists.proofs.Earlier.{listed-entry}
use Rattle.lists.proofs.place.Goals as goal
use Rattle.lists.proofs.place.Goals.{Else-not-header_right}

-- the bytes are no list, and are one
refuses : (bs name : List ℕ) → false ≡ accepted bs → (12 ≡ first (place_tests bs)) × Placed bs name false 0 false
unfolding place_tests first
refuses bs name e = (rw (sym e), record { judged = e; place = rw (sym e); names = rw (sym e) })

places : (bs name : List ℕ) (n : ℕ) (has : Bool) → true ≡ accepted bs → n ≡ earlier name (read_list bs).pairs →
    has ≡ names_entry bs n name → (0 ≡ first (place_tests bs)) × Placed bs name true n has
unfolding place_tests first
places bs name n has e p q = (
  rw (sym e),
  record {
    judged = e;
    place = p ∙ rw (sym e);
    names = q ∙ ap (λ (k : ℕ). names_entry bs k name) p ∙ listed-entry bs name (sym e) ∙ rw (sym e);
  },
)

-- the pairs that the walk reads are those of the list

pairs-read : (bs name : List ℕ) (n d m : ℕ) → n ≡ count_in bs → d ≡ digest_size_in bs →
    m ≡ earlier name (read_pairs n d (drop entries_at bs) bs) → m ≡ earlier name (read_list bs).pairs
unfolding read_list
pairs-read bs name n d m p q e = e ∙ rw (p, q)

right : (c : Else-not-header_right) → header_right c.args.list.now ≡ true
right c = sym c.header_right.ensures ∙ c.if-not-header_right.false

pub walk-requires : goal.walk-requires
walk-requires c = let h = right (goal.at.walk-requires c).Else-not-header_right in
    let n = c.count.ensures in
    let d = c.digest_size.ensures in
    (rw d (digest-short _), entries-few _ _ _ n d h, names-inside _ _ _ n d h)

pub returns-then-not-header_right : goal.returns-then-not-header_right
returns-then-not-header_right c = let p = refuses _ _
    (header-refuses _ (λ i. (c.type_inv.list i).fits) (sym c.header_right.ensures ∙ c.if-not-header_right.true)) in
    record { answer = p.0; places = p.1 }

pub returns-in-Some : goal.returns-in-Some
returns-in-Some c = let p = places _ _ _ _
    (entries-decide _ _ _ c.count.ensures c.digest_size.ensures (right (goal.at.returns-in-Some c).Else-not-header_right)
    _ (λ i. (c.type_inv.list i).fits) c.in-Some.ensures.right_value)
    (pairs-read _ _ _ _ _ c.count.ensures c.digest_size.ensures (c.walk.ensures.earlier_value _ c.in-Some.is))
    c.names_entry-listed.ensures in
    record { answer = p.0; places = p.1 }

pub returns-in-None : goal.returns-in-None
returns-in-None c = let p = refuses _ _
    (entries-decide _ _ _ c.count.ensures c.digest_size.ensures (right (goal.at.returns-in-None c).Else-not-header_right)
    _ (λ i. (c.type_inv.list i).fits) c.in-None.ensures.right_value) in
    record { answer = p.0; places = p.1 }
