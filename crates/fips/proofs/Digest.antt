-- A digest is as long as its edition has it, `length-digest`, and bytes: `bytes-digest`.
use Prim.Native.Nat.{ℕ, ◌*◌}
use mathlib.Core.Bool.{Bool}
use mathlib.Core.List.{List}
use mathlib.Core.Path.{◌≡◌, ap, ◌∙◌}
use native.Mathlib.Omega.{arith}
use lib.ListN.{length, length-take}
use Rattle.slices.specs.Below.{Bytes}
use Rattle.slices.proofs.Below.{below-take}
use Rattle.bigendian.specs.Words.{from_words}
use Rattle.bigendian.proofs.Words.{length-from_words, from_words-bytes}
use Rattle.fips.specs.Constants.{hash_from}
use Rattle.fips.specs.Editions.{width, digest_bytes, start, digest}
use Rattle.fips.proofs.Chain.{hash_from-eight}
use Rattle.fips.proofs.Editions.{digest-within}
use Rattle.fips.proofs.Rules.{start-eight}

pub length-digest : (e : ℕ) (m : List Bool) → length (digest e m) ≡ digest_bytes e
unfolding digest
length-digest e m =
    let H = hash_from (width e) (start e) m in
    let eight = (hash_from-eight (width e) (start e) m (start-eight e)).count in
    length-take (digest_bytes e) (from_words (width e).bytes H)
    ∙ omega (arith, length-from_words (width e).bytes H, ap (λ (n : ℕ). n * (width e).bytes) eight, digest-within e)

pub bytes-digest : (e : ℕ) (m : List Bool) → Bytes (digest e m)
unfolding digest
bytes-digest e m =
    let words = hash_from (width e) (start e) m in
    below-take (digest_bytes e) (from_words (width e).bytes words) (from_words-bytes (width e).bytes words)
