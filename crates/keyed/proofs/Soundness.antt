-- A sound keyed hash: what `sound` tells, `sound-has`, and the way back, `has-sound`. Beside the rules of its inner message stand two more,
-- so that where those are kept the inner message decides: `inner-decides`. `owned`: what every value has, whatever it holds.
use Prim.Native.Nat.{ℕ, ◌^◌, ◌≤◌}
use mathlib.Core.Bool.{Bool, true, false}
use mathlib.Core.Path.{◌≡◌, refl, sym, ◌∙◌}
use mir.Syntax.{w8 as u8, w64 as u64}
use mir.Val.{Fits}
use lib.Dec.{leb}
use lib.ListN.{length, get_or}
use lib.Pow.{pow_pos}
use borrow.Author.Tests.{le-leb, leb-true}
use Rattle.slices.specs.Below.{Below}
use Rattle.slices.specs.Tests.{holds, all_below}
use Rattle.slices.proofs.Tests.{holds_at, holds_on, holds-last, fails-at, all_below-below, below-all_below}
use Rattle.fips.specs.Words.{word}
use Rattle.fips.specs.Editions.{width}
use Rattle.halfread.specs.State as half
use Rattle.halfread.specs.State.{chain_room, tail_room, block_of}
use Rattle.keyed.specs.declared.Keyed.{Keyed}
use Rattle.keyed.specs.State.{more_rules, sound, Shaped}

-- what ownership knows of a keyed hash: its arrays are as long as they are, and its numbers fit their types
pub owned : (k : Keyed) → length k.inner.words ≡ chain_room → length k.inner.tail ≡ tail_room →
    Fits u64 k.inner.edition → Fits u64 k.inner.count →
    ((i : ℕ) → Fits u64 (get_or k.inner.words i 0)) → ((i : ℕ) → Fits u8 (get_or k.inner.tail i 0)) →
    length k.outer ≡ chain_room → ((i : ℕ) → Fits u64 (get_or k.outer i 0)) → Shaped k
owned k words tail edition count chain bytes outer fitting =
    record {
      inner =
          record {
            eight = words;
            wide = tail;
            number = edition.fits;
            counted = count.fits;
            fitting = λ i. (chain i).fits;
            bytes = λ i. (bytes i).fits;
          };
      eight = outer;
      fitting = λ i. (fitting i).fits;
    }

pub record Sound (k : Keyed) : Type 0 where
  pub inner : half.sound k.inner ≡ true
  pub block : block_of k.inner ≤ k.inner.count
  pub below : Below (2 ^ word (width k.inner.edition)) k.outer

module _ (k : Keyed) where
  abbrev limit : ℕ
  limit = 2 ^ word (width k.inner.edition)

  pub sound-has : sound k ≡ true → Sound k
  unfolding sound
  sound-has e =
      let at = holds_at _ e in
      record {
        inner = at 0;
        block = leb-true (block_of k.inner) k.inner.count (at 1);
        below = all_below-below limit k.outer (pow_pos (word (width k.inner.edition))) (at 2);
      }

  -- ---- one rule at a time, as the code asks them

  pub few_bytes : leb (block_of k.inner) k.inner.count ≡ false → holds (more_rules k) ≡ false
  few_bytes e = fails-at (more_rules k) 0 e

  pub outer-decides : block_of k.inner ≤ k.inner.count → holds (more_rules k) ≡ all_below limit k.outer
  outer-decides h = holds_on _ _ (le-leb (block_of k.inner) k.inner.count h) ∙ holds-last (all_below limit k.outer)

  pub inner-unsound : half.sound k.inner ≡ false → sound k ≡ false
  unfolding sound
  inner-unsound e = fails-at _ 0 e

  pub more-decides : half.sound k.inner ≡ true → sound k ≡ holds (more_rules k)
  unfolding sound
  more-decides e = holds_on _ _ e

  pub more-broken : holds (more_rules k) ≡ false → sound k ≡ false
  more-broken e = go (half.sound k.inner) refl
    where
      go : (b : Bool) → half.sound k.inner ≡ b → sound k ≡ false
      go true p = more-decides p ∙ e
      go false p = inner-unsound p

  pub inner-decides : holds (more_rules k) ≡ true → sound k ≡ half.sound k.inner
  inner-decides e = go (half.sound k.inner) refl
    where
      go : (b : Bool) → half.sound k.inner ≡ b → sound k ≡ half.sound k.inner
      go true p = more-decides p ∙ e ∙ sym p
      go false p = inner-unsound p ∙ sym p

  pub has-sound : Sound k → sound k ≡ true
  has-sound f = more-decides f.inner ∙ outer-decides f.block ∙ below-all_below limit k.outer f.below
