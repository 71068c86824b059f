-- `lists::rules::walk` meets its contract. What is left from entry i on decides: it starts at `at`, and its names at `next`.
use mathlib.Core.Bool.{true, false}
use mathlib.Core.List.{List, []}
use mathlib.Core.Path.{◌≡◌, sym, ◌∙◌}
use Prim.Native.Nat.{ℕ, ◌+◌, ◌-◌, ◌*◌, ◌<◌, ◌≤◌}
use native.Mathlib.Nat.{sub-zero, sub_self, add-sub_cancel_left}
use native.Mathlib.Omega.{arith}
use lib.Dec.{eqb}
use lib.ListN.{length, drop}
use Rattle.std.specs.Prelude.{Option, Some}
use borrow.Author.Tests.{eq-eqb, ne_eqb}
use Rattle.slices.specs.Parts.{part}
use Rattle.lists.specs.Code.Place.{earlier}
use Rattle.lists.specs.Layout.{entries_at, entry_head, entry_size, names_at, name_length, read_pairs}
use Rattle.lists.specs.Order.{before}
use Rattle.lists.specs.Code.Rules.{entry_right, entries_right, more_earlier}
use Rattle.lists.proofs.Walk.{one_less, entries-on, entries-stop, entry-fits, earlier-start, earlier_on, earlier-over}
use Rattle.lists.proofs.rules.walk.Goals as goal
use Rattle.lists.proofs.rules.walk.Invariants.{Left}

start : (bs name : List ℕ) (count d : ℕ) → names_at count d ≤ length bs →
    Left bs name count d entries_at (names_at count d) (names_at count d) 0 0
start bs name count d h = record {
  within = omega arith;
  room = rw sub-zero h;
  order = omega arith;
  inside = h;
  decides = rw (sub-zero, sub_self);
  places = rw sub-zero (earlier-start name (read_pairs count d (drop entries_at bs) bs));
}

module _ (bs name : List ℕ) (count d at next last n i : ℕ) (f : Left bs name count d at next last n i) where
  space : i < count → at + entry_size d + (count - (i + 1)) * entry_size d ≤ length bs
  space h = omega (arith, one_less count i (entry_size d) h, f.room)

  entry-room : i < count → at + entry_head ≤ length bs
  entry-room h = omega (arith, space h)

  module _ (len : ℕ) (h : i < count) (p : len ≡ name_length (drop at bs))
      (e : entry_right (part bs last (next - last)) next (drop at bs) bs ≡ true) where
    name-inside : next + len ≤ length bs
    name-inside = omega (arith, entry-fits at next (part bs last (next - last)) bs len p e, f.inside)

    turn : (s : List ℕ) → s ≡ part bs next len → (m : ℕ) → m ≡ more_earlier n i (before s name) →
        Left bs name count d (at + entry_size d) (next + len) next m (i + 1)
    turn s q m g = record {
      within = omega arith;
      room = space h;
      order = omega arith;
      inside = name-inside;
      decides =
          f.decides
          ∙ entries-on count i (entry_size d) at next (part bs last (next - last)) bs h len p e
          ∙ rw (add-sub_cancel_left next len);
      places =
          rw g
          (earlier_on count i d at next name (part bs last (next - last)) bs h len p e
          (read_pairs count d (drop entries_at bs) bs) n s q f.places);
    }

  stop : i < count → entry_right (part bs last (next - last)) next (drop at bs) bs ≡ false →
      false ≡ entries_right count (entry_size d) [] (names_at count d) (drop entries_at bs) bs
  stop h e = sym (f.decides ∙ entries-stop count i (entry_size d) at next (part bs last (next - last)) bs h e)

  whole : count ≤ i → eqb next (length bs) ≡ entries_right count (entry_size d) [] (names_at count d) (drop entries_at bs) bs
  unfolding entries_right
  whole h =
      let e : count - i ≡ 0 = omega arith in
      rw (f.decides, e)

  placed : count ≤ i → n ≡ earlier name (read_pairs count d (drop entries_at bs) bs)
  placed h =
      let e : count - i ≡ 0 = omega arith in
      earlier-over name (read_pairs count d (drop entries_at bs) bs) n i d (drop at bs) bs (rw e at f.places)

some-number : {m n : ℕ} → ◌≡◌ {A = Option ℕ} (Some m) (Some n) → n ≡ m
some-number e = cc

pub returns-then-not-entry_right-clause-right_value : goal.returns-then-not-entry_right-clause-right_value
returns-then-not-entry_right-clause-right_value c = stop _ _ _ _ _ _ _ _ _ c.loop-i.invariant c.loop-i-test.true
    (sym c.entry_right.ensures ∙ c.if-not-entry_right.true)

pub loop-i-preserved : goal.loop-i-preserved
loop-i-preserved c = turn _ _ _ _ _ _ _ _ _ c.loop-i.invariant _ c.loop-i-test.true c.name_length-len.ensures
    (sym c.entry_right.ensures ∙ c.if-not-entry_right.false)
    _ c.part.ensures.result_value _ c.further-earlier.ensures

pub returns-then-next-list-clause-right_value : goal.returns-then-next-list-clause-right_value
returns-then-next-list-clause-right_value c =
    sym (ne_eqb _ _ c.if-next-list.true) ∙ whole _ _ _ _ _ _ _ _ _ c.loop-i.invariant c.loop-i-test.false

pub returns-clause-right_value : goal.returns-clause-right_value
returns-clause-right_value c =
    sym (eq-eqb _ _ c.if-next-list.false) ∙ whole _ _ _ _ _ _ _ _ _ c.loop-i.invariant c.loop-i-test.false

pub returns-clause-earlier_value : goal.returns-clause-earlier_value
returns-clause-earlier_value c = λ n e. some-number e ∙ placed _ _ _ _ _ _ _ _ _ c.loop-i.invariant c.loop-i-test.false

pub overflow_add-next-in-loop-i : goal.overflow_add-next-in-loop-i
overflow_add-next-in-loop-i c = omega (arith, loop-i-preserved c)
