-- What is left of a count after whole blocks finds room in a tail: `rest-within`.
use Prim.Native.Nat.{ℕ, ◌%◌, ◌<◌}
use mathlib.Core.Path.{◌≡◌}
use native.Mathlib.Nat.{mod-lt}
use native.Mathlib.Omega.{arith}
use Rattle.fips.specs.Words.{block_bytes}
use Rattle.fips.specs.Editions.{width}
use Rattle.fips.proofs.Sizes.{block-some, block_within}
use Rattle.halfread.specs.State.{tail_room}

pub rest-within : (e c : ℕ) {n : ℕ} → n ≡ c % block_bytes (width e) → n < tail_room
rest-within e c p = omega (arith, mod-lt c (block-some e), block_within e)
