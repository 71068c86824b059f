-- The keyed hash that a key and a message lead to: `keyed-none`, `keyed-more`, `keyed-sound`, `keyed-shaped`; its edition and its count,
-- `of-edition` and `of-count`.
use Prim.Native.Nat.{ℕ, ◌+◌}
use mathlib.Core.Bool.{true, false}
use mathlib.Core.List.{List, [], ◌++◌}
use mathlib.Core.Path.{◌≡◌, refl, ap, ◌∙◌}
use native.Mathlib.Omega.{arith}
use lib.ListN.{length}
use Rattle.slices.specs.Below.{Bytes}
use Rattle.fips.specs.Editions.{known}
use Rattle.fips.proofs.Sizes.{known_small}
use Rattle.dwsha2.specs.Limit.{too_long}
use Rattle.halfread.specs.Steps as half
use Rattle.hmac.specs.Hmac.{B, inner_block}
use Rattle.hmac.proofs.Blocks.{length-inner}
use Rattle.keyed.specs.State.{sound, Shaped}
use Rattle.keyed.specs.Steps.{started, added, keyed_of}
use Rattle.keyed.proofs.Adding.{started-sound, started-shaped, added-append, added_none, added-sound, added-shaped}

module _ (e : ℕ) (key : List ℕ) where
  pub of-edition : (bytes : List ℕ) → (keyed_of e key bytes).inner.edition ≡ e
  unfolding keyed_of started added half.added half.opened
  of-edition bytes = refl

  pub of-count : (bytes : List ℕ) → (keyed_of e key bytes).inner.count ≡ B e + length bytes
  unfolding keyed_of started added half.added half.opened
  of-count bytes = omega (arith, length-inner e key)

  -- a start has taken a block
  room-for : (n : ℕ) → too_long e (B e) n ≡ false → too_long (started e key).inner.edition (started e key).inner.count n ≡ false
  unfolding started half.added half.opened
  room-for n short =
      let count : 0 + length (inner_block e key) ≡ B e = omega (arith, length-inner e key) in
      ap (λ (c : ℕ). too_long e c n) count ∙ short

  module _ (ok : known e ≡ true) (all : Bytes key) where
    shape : Shaped (started e key)
    shape = started-shaped e key all (omega (arith, known_small e ok))

    pub keyed-none : keyed_of e key [] ≡ started e key
    unfolding keyed_of
    keyed-none = added_none (started e key) shape (started-sound e key all ok)

    pub keyed-more : (a b : List ℕ) → added (keyed_of e key a) b ≡ keyed_of e key (a ++ b)
    unfolding keyed_of
    keyed-more a b = added-append (started e key) shape a b

    module _ (bytes : List ℕ) (more : Bytes bytes) (short : too_long e (B e) (length bytes) ≡ false) where
      pub keyed-sound : sound (keyed_of e key bytes) ≡ true
      unfolding keyed_of
      keyed-sound = added-sound (started e key) shape bytes more (room-for (length bytes) short) (started-sound e key all ok)

      pub keyed-shaped : Shaped (keyed_of e key bytes)
      unfolding keyed_of
      keyed-shaped = added-shaped (started e key) shape bytes more (room-for (length bytes) short)
