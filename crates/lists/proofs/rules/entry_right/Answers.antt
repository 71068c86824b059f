-- `lists::rules::entry_right` meets its contract: each test is a condition of `entry_right`.
use mathlib.Core.Bool.{Bool, true, false}
use mathlib.Core.List.{List}
use mathlib.Core.Path.{◌≡◌, sym, ap, ap₂, ◌∙◌}
use Prim.Native.Nat.{ℕ, ◌-◌, ◌<◌, ◌≤◌}
use native.Mathlib.Omega.{arith}
use lib.ListN.{length, drop}
use borrow.Author.Tests.{eq-eqb, ne_eqb, lt-leb, le-leb}
use Rattle.lists.specs.Order.{before}
use Rattle.slices.specs.Parts.{part}
use Rattle.lists.specs.Layout.{name_offset, name_length}
use Rattle.lists.specs.Lists.{name_allowed}
use Rattle.lists.specs.Code.Rules.{entry_right}
use Rattle.slices.proofs.Tests.{fails-at, holds_on, holds-last}
use Rattle.lists.proofs.rules.entry_right.Goals as goal

-- the entry at `at`, where the code has its length field as len, and its name as p

module _ (bs last : List ℕ) (at next len : ℕ) (e : len ≡ name_length (drop at bs)) where
  too_long : length bs - next < len → false ≡ entry_right last next (drop at bs) bs
  unfolding entry_right
  too_long h = sym (fails-at _ 1 (rw (← e) (lt-leb len (length bs - next) h)))

  module _ (p : List ℕ) (q : p ≡ part bs next len) where
    name-read : p ≡ part bs next (name_length (drop at bs))
    name-read = q ∙ rw e

    forbidden : name_allowed p ≡ false → false ≡ entry_right last next (drop at bs) bs
    unfolding entry_right
    forbidden h = sym (fails-at _ 2 (ap name_allowed (sym name-read) ∙ h))

    decided : (r : Bool) → name_offset (drop at bs) ≡ next → len ≤ length bs - next → name_allowed p ≡ true →
        (l : List ℕ) → l ≡ last → r ≡ before l p → r ≡ entry_right last next (drop at bs) bs
    unfolding entry_right
    decided r f h k l g s =
        s
        ∙ ap₂ before g name-read
        ∙ sym
        (holds_on _ _ (eq-eqb _ _ f)
        ∙ holds_on _ _ (rw (← e) (le-leb len (length bs - next) h))
        ∙ holds_on _ _ (ap name_allowed (sym name-read) ∙ k)
        ∙ holds-last _)

pub returns-then-number-next : goal.returns-then-number-next
unfolding entry_right
returns-then-number-next c = sym (fails-at _ 0 (ne_eqb _ _ (λ e. omega (arith, c.if-number-next, c.number.ensures ∙ e))))

pub returns-then-list-next : goal.returns-then-list-next
returns-then-list-next c = let a = c.args in
    let len = c.name_length-len in
    too_long a.list.now _ a.at a.next len.result len.ensures (omega (arith, c.if-list-next, c.requires))

pub returns-then-not-allowed : goal.returns-then-not-allowed
returns-then-not-allowed c = let a = c.args in
    forbidden a.list.now _ a.at _ _ c.name_length-len.ensures _ c.part-name.ensures.result_value
    (sym c.allowed.ensures ∙ c.if-not-allowed.true)

pub returns : goal.returns
returns c = let a = c.args in
    decided a.list.now _ a.at _ _ c.name_length-len.ensures _ c.part-name.ensures.result_value _
    (sym c.number.ensures ∙ c.if-number-next.false) c.if-list-next.false (sym c.allowed.ensures ∙ c.if-not-allowed.false)
    _ c.part.ensures.result_value c.before-2.ensures
