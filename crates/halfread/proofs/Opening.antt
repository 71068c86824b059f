-- A message of which nothing is taken is sound: `opened-sound` and `opened-shaped`.
use Prim.Native.Nat.{ℕ, ◌^◌, ◌<◌}
use mathlib.Core.Bool.{true}
use mathlib.Core.Path.{◌≡◌, refl, sym, ap}
use native.Mathlib.Nat.{zero-mod}
use native.Mathlib.Omega.{arith}
use lib.Dec.{lit<}
use lib.ListN.{take, replicate}
use lib.Pow.{pow_mono}
use Rattle.slices.proofs.Below.{below_more, below-replicate}
use Rattle.fips.specs.Editions.{known, start}
use Rattle.fips.proofs.Sizes.{known_small}
use Rattle.dwsha2.proofs.Limits.{no_length}
use Rattle.fips.proofs.Rules.{length-start, start-lt}
use Rattle.slices.specs.AtFront.{at_front}
use Rattle.fips.proofs.Sizes.{bytes-within}
use Rattle.halfread.specs.State.{block_of, padded, sound, Shaped, tail_room}
use Rattle.halfread.specs.Steps.{opened}
use Rattle.halfread.proofs.Soundness.{facts-sound}

pub opened-shaped : (e : ℕ) → e < 2 ^ 64 → Shaped (opened e)
unfolding opened
opened-shaped e h =
    record {
      eight = length-start e;
      wide = refl;
      number = h;
      counted = omega arith;
      fitting = below_more (start e) (pow_mono {j = 64} (omega (arith, bytes-within e))) (start-lt e);
      bytes = below-replicate tail_room (lit< tt);
    }

pub opened-sound : (e : ℕ) → known e ≡ true → sound (opened e) ≡ true
unfolding opened at_front
opened-sound e p =
    facts-sound (opened e) (opened-shaped e (omega (arith, known_small e p)))
    (record {
      known = p;
      limited = no_length e;
      below = start-lt e;
      tail = sym (ap (λ (n : ℕ). padded (take n (replicate tail_room 0))) (zero-mod (block_of (opened e))));
      begun = λ q. refl;
    })
