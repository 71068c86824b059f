-- `lists::find` meets its contract. What is left from entry i on decides; it is right, since the list is accepted, so its names end within.
-- Assumes nothing.
use mathlib.Core.Bool.{true, false, cond}
use mathlib.Core.List.{List, []}
use mathlib.Core.Path.{◌≡◌, sym, ◌∙◌}
use Prim.Native.Nat.{ℕ, ◌+◌, ◌-◌, ◌*◌, ◌<◌, ◌≤◌}
use native.Mathlib.Nat.{sub-zero}
use native.Mathlib.Omega.{arith}
use lib.ListN.{length, drop}
use Rattle.std.specs.Prelude.{Result, Err}
use Rattle.answers.specs.declared.Refusal.{Refusal}
use Rattle.lists.specs.declared.Found.{Found}
use Rattle.slices.specs.Tests.{same}
use Rattle.lists.specs.Layout.{entries_at, entry_head, entry_size, names_at, edition_in, count_in, digest_size_in, name_length, read_pairs}
use Rattle.lists.specs.Layout.{read_list, accepted}
use Rattle.slices.specs.Parts.{part}
use Rattle.lists.specs.Code.Rules.{entry_right}
use Rattle.lists.proofs.ByRules.{accepted-header, accepted-entries}
use Rattle.fips.proofs.Editions.{digest-short}
use Rattle.lists.proofs.Places.{found_here, not_listed, found, found_in, is_found}
use Rattle.lists.proofs.Walk.{one_less, entries-on, entries-first, entry-fits, place-on, place-over}
use Rattle.lists.proofs.find.Goals as goal
use Rattle.lists.proofs.find.Goals.{After-digest_size-digest}
use Rattle.lists.proofs.find.Invariants.{Left}

module _ (bs : List ℕ) (count d : ℕ) (a : accepted bs ≡ true) (pn : count ≡ count_in bs) (pd : d ≡ digest_size_in bs) where
  names-inside : names_at count d ≤ length bs
  names-inside = rw (pn, pd) (accepted-header bs a).within

  start : (name : List ℕ) → Left bs name count d entries_at (names_at count d) 0
  unfolding found read_list
  start name = record {
    within = omega arith;
    room = rw sub-zero names-inside;
    inside = names-inside;
    last = [];
    right = rw (sub-zero, pn, pd) (accepted-entries bs a);
    decides = rw (a, sub-zero, pn, pd);
  }

module _ (bs name : List ℕ) (count d at next i : ℕ) (f : Left bs name count d at next i) where
  space : i < count → at + entry_size d + (count - (i + 1)) * entry_size d ≤ length bs
  space h = omega (arith, one_less count i (entry_size d) h, f.room)

  first-right : i < count → entry_right f.last next (drop at bs) bs ≡ true
  first-right h = entries-first count i (entry_size d) at next f.last bs h f.right

  name-inside : (len : ℕ) → i < count → len ≡ name_length (drop at bs) → next + len ≤ length bs
  name-inside len h p = omega (arith, entry-fits at next f.last bs len p (first-right h), f.inside)

  module _ (len : ℕ) (h : i < count) (p : len ≡ name_length (drop at bs)) (s : List ℕ) (q : s ≡ part bs next len) where
    decided : found bs name
        ≡ cond (same s name) (found_here (at + entry_head) d)
        (found_in name d (at + entry_size d) (read_pairs (count - (i + 1)) d (drop (at + entry_size d) bs) bs))
    decided = f.decides ∙ place-on count i d at next name f.last bs h len p (first-right h) ∙ rw q

    turn : same s name ≡ false → Left bs name count d (at + entry_size d) (next + len) (i + 1)
    turn e = record {
      within = omega arith;
      room = space h;
      inside = name-inside len h p;
      last = part bs next len;
      right = sym (entries-on count i (entry_size d) at next f.last bs h len p (first-right h)) ∙ f.right;
      decides = decided ∙ rw e;
    }

    here : same s name ≡ true → found_here (at + entry_head) d ≡ found bs name
    here e = sym (decided ∙ rw e)

  nowhere : count ≤ i → not_listed ≡ found bs name
  nowhere h = sym (f.decides ∙ place-over count i d at name bs h)

refuse : (bs name : List ℕ) → accepted bs ≡ false → ◌≡◌ {A = Result Found Refusal} (Err Refusal.NotAList) (found bs name)
unfolding found
refuse bs name e = rw e

pub returns-then-not-is_list : goal.returns-then-not-is_list
returns-then-not-is_list c = is_found _ _ _ (refuse _ _ (sym c.is_list.ensures ∙ c.if-not-is_list.true))

is_one : (c : After-digest_size-digest) → accepted c.args.list.now ≡ true
is_one c = sym c.is_list.ensures ∙ c.if-not-is_list.false

pub overflow_add-size : goal.overflow_add-size
overflow_add-size c = omega (arith, c.digest_size-digest.ensures, digest-short (edition_in c.args.list.now))

within : (c : After-digest_size-digest) →
    names_at c.count-count.result c.digest_size-digest.result ≤ length c.args.list.now
within c = names-inside _ _ _ (is_one c) c.count-count.ensures c.digest_size-digest.ensures

pub overflow_mul-next : goal.overflow_mul-next
overflow_mul-next c = omega (arith, within c)

pub overflow_add-next : goal.overflow_add-next
overflow_add-next c = omega (arith, within c)

pub loop-init : goal.loop-init
loop-init c = start _ _ _ (is_one c) c.count-count.ensures c.digest_size-digest.ensures _

pub returns-then-same : goal.returns-then-same
returns-then-same c = is_found _ _ _
    (here _ _ _ _ _ _ _ c.loop.invariant _ c.loop-test.true c.name_length-len.ensures
    _ c.part.ensures.result_value
    (sym c.same.ensures ∙ c.if-same.true))

pub loop-preserved : goal.loop-preserved
loop-preserved c = turn _ _ _ _ _ _ _ c.loop.invariant _ c.loop-test.true c.name_length-len.ensures
    _ c.part.ensures.result_value
    (sym c.same.ensures ∙ c.if-same.false)

pub overflow_add-next-in-loop : goal.overflow_add-next-in-loop
overflow_add-next-in-loop c = omega (arith, loop-preserved c)

pub returns : goal.returns
returns c = is_found _ _ _ (nowhere _ _ _ _ _ _ _ c.loop.invariant c.loop-test.false)
