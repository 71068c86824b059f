-- When a half-read message is sound: SPEC, "The table of bays". One rule at a time, as the code asks them.
use Prim.Native.Nat.{ℕ, ◌-◌, ◌^◌, ◌≤◌, ◌<◌}
use mathlib.Core.Bool.{Bool, true, false, ◌||◌, not}
use mathlib.Core.List.{List}
use mathlib.Core.Path.{◌≡◌, sym, ap, ◌∙◌}
use native.Mathlib.Nat.{mod-lt}
use native.Mathlib.Omega.{arith}
use lib.Dec.{leb}
use borrow.Author.Tests.{le-leb, lt-leb}
use lib.ListN.{length, get_or, take, drop, length-drop}
use lib.Seq.{take_all}
use Rattle.fips.specs.Words.{Width, word}
use Rattle.fips.specs.Editions.{known, width, start}
use Rattle.dwsha2.specs.Limit.{too_long}
use Rattle.fips.specs.Sizes.{is_narrow, width_of}
use Rattle.fips.proofs.Sizes.{width-of, block-some, block_within}
use Rattle.halfread.specs.declared.HalfRead.{HalfRead}
use Rattle.slices.specs.Tests.{all_below, all_zero, same}
use Rattle.halfread.specs.State.{block_of, tail_length, rules, sound, tail_room}
use Rattle.slices.proofs.Tests.{fails-at, holds_on, holds-last}

-- ---- the tail

pub tail-lt : (h : HalfRead) → tail_length h < block_of h
tail-lt h = mod-lt h.count (block-some h.edition)

pub tail_within : (h : HalfRead) → tail_length h < tail_room
tail_within h = omega (arith, tail-lt h, block_within h.edition)

-- ---- one rule at a time, as the code asks them

module _ (h : HalfRead) where
  pub unsound : (i : ℕ) → get_or (rules h) i true ≡ false → false ≡ sound h
  unfolding sound
  unsound i e = sym (fails-at (rules h) i e)

  -- the rules but the last
  pub record Kept : Type 0 where
    pub known : known h.edition ≡ true
    pub short : not (too_long h.edition h.count 0) ≡ true
    pub below : all_below (2 ^ word (width h.edition)) h.words ≡ true
    pub zero : all_zero (drop (tail_length h) h.tail) ≡ true

  last-rule : {b : Bool} → Kept → (leb (block_of h) h.count || same h.words (start h.edition)) ≡ b → sound h ≡ b
  unfolding sound
  last-rule {b} k e =
      holds_on _ _ k.known ∙ holds_on _ _ k.short ∙ holds_on _ _ k.below ∙ holds_on _ _ k.zero ∙ holds-last _ ∙ e

  pub past-rule : Kept → block_of h ≤ h.count → true ≡ sound h
  past-rule k p = sym (last-rule k (rw (le-leb (block_of h) h.count p)))

  pub begun-rule : {H : List ℕ} {b : Bool} → Kept → h.count < block_of h → H ≡ start h.edition → b ≡ same h.words H → b ≡ sound h
  begun-rule k p q r = sym (last-rule k (rw (lt-leb (block_of h) h.count p) (sym (r ∙ ap (same h.words) q))))

  pub zero-rule : {n : ℕ} {b : Bool} → length h.tail ≡ tail_room → n ≡ tail_length h →
      b ≡ all_zero (take (tail_room - n) (drop n h.tail)) →
      b ≡ all_zero (drop (tail_length h) h.tail)
  zero-rule {n} {b} l p q =
      q
      ∙ ap all_zero
      (take_all (tail_room - n) (drop n h.tail) (rw (length-drop n h.tail) (omega arith)) ∙ ap (λ (m : ℕ). drop m h.tail) p)

pub below-rule : (e : ℕ) (H : List ℕ) {t b : Bool} → t ≡ is_narrow e → b ≡ all_below (2 ^ word (width_of t)) H →
    b ≡ all_below (2 ^ word (width e)) H
below-rule e H p q = q ∙ ap (λ (w : Width). all_below (2 ^ word w) H) (ap width_of p ∙ sym (width-of e))
