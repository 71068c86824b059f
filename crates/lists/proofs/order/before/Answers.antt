-- `lists::order::before` meets its contract. What is left from i on decides.
use mathlib.Core.Bool.{Bool, true, false}
use mathlib.Core.List.{List}
use mathlib.Core.Path.{◌≡◌, refl, ◌∙◌}
use Prim.Native.Nat.{ℕ, ◌+◌, ◌<◌, ◌≤◌, min}
use native.Mathlib.Numerals.{add-one}
use native.Mathlib.Omega.{arith}
use lib.Dec.{ltb}
use lib.ListN.{length, get_or}
use borrow.Author.Tests.{eq-eqb, ne_eqb, le-ltb, ltb-true, ltb-false}
use Rattle.lists.specs.Order.{before}
use Rattle.lists.proofs.Ascending.{before_on, before-short, before-over}
use Rattle.lists.proofs.order.before.Goals as goal
use Rattle.lists.proofs.order.before.Invariants.{Left}

module _ (a b : List ℕ) (i : ℕ) (f : Left a b i) where
  turn : i < length a → i < length b → get_or a i 0 ≡ get_or b i 0 → Left a b (i + 1)
  turn h k e = record {
    within = omega arith;
    decides = f.decides ∙ before_on a b i h k ∙ rw (eq-eqb (get_or a i 0) (get_or b i 0) e, add-one);
  }

  differ : i < length a → i < length b → (get_or a i 0 ≡ get_or b i 0 → ⊥) → ltb (get_or a i 0) (get_or b i 0) ≡ before a b
  differ h k e = rw (f.decides, before_on a b i h k, ne_eqb (get_or a i 0) (get_or b i 0) e)

  -- past the shorter one: the second ends first, or the first does
  shorter : i < length a → length b ≤ i → ltb (length a) (length b) ≡ before a b
  shorter h k = rw (f.decides, before-short a b i h k, le-ltb (length a) (length b) (omega arith))

  whole : i ≡ length a → ltb (length a) (length b) ≡ before a b
  whole e = rw (f.decides, before-over a b i (omega arith), e)

  ended : min (length a) (length b) ≤ i → i ≤ min (length a) (length b) → ltb (length a) (length b) ≡ before a b
  ended h k = go (ltb i (length a)) refl
    where
      go : (s : Bool) → ltb i (length a) ≡ s → ltb (length a) (length b) ≡ before a b
      go true e = let l = ltb-true i (length a) e in shorter l (omega arith)
      go false e = let l = ltb-false i (length a) e in whole (omega arith)

pub returns-then-a-i : goal.returns-then-a-i
returns-then-a-i c = let within = c.loop-i-test.true in
    let least = c.min-i-end.ensures in
    differ _ _ _ c.loop-i.invariant (omega arith) (omega arith) c.if-a-i.true

pub loop-i-preserved : goal.loop-i-preserved
loop-i-preserved c = let within = c.loop-i-test.true in
    let least = c.min-i-end.ensures in
    turn _ _ _ c.loop-i.invariant (omega arith) (omega arith) c.if-a-i.false

pub returns : goal.returns
returns c = let over = c.loop-i-test.false in
    let within = c.loop-i.auto.i-end in
    let least = c.min-i-end.ensures in
    ended _ _ _ c.loop-i.invariant (omega arith) (omega arith)
