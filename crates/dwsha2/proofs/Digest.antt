-- The digest that the last words make, taken from a buffer of 64 bytes: laws of `digest_from`.
use Prim.Native.Nat.{ℕ, ◌*◌}
use mathlib.Core.List.{List}
use mathlib.Core.Path.{◌≡◌, ap, ◌∙◌}
use native.Mathlib.Omega.{arith}
use lib.ListN.{length, take, replicate, length-take}
use lib.Seq.{take-append-le}
use Rattle.bigendian.specs.Words.{from_words, with_words}
use Rattle.bigendian.proofs.Words.{with_words-room, length-from_words}
use Rattle.fips.specs.Editions.{width, digest_bytes}
use Rattle.fips.proofs.Editions.{digest-within, width_some}
use Rattle.dwsha2.specs.Code.Hashing.{digest_from}
use Rattle.fips.proofs.Sizes.{bytes-within}

pub length-digest_from : (e : ℕ) (H : List ℕ) → length H ≡ 8 → length (digest_from e H) ≡ digest_bytes e
unfolding digest_from
length-digest_from e H long =
    length-take (digest_bytes e) (from_words (width e).bytes H)
    ∙ omega (arith, length-from_words (width e).bytes H, ap (λ (n : ℕ). n * (width e).bytes) long, digest-within e)

pub digest-taken : (e : ℕ) (H : List ℕ) {bytes : List ℕ} (n d : ℕ) → length H ≡ 8 → n ≡ (width e).bytes → d ≡ digest_bytes e →
    bytes ≡ with_words n H (replicate 64 0) → take d bytes ≡ digest_from e H
unfolding digest_from
digest-taken e H n d long is_n is_d is_bytes =
    let b = (width e).bytes in
    let size : length H * b ≡ 8 * b = ap (λ (m : ℕ). m * b) long in
    rw (is_bytes, is_n, is_d)
    (ap (take (digest_bytes e)) (with_words-room b H (replicate 64 0) (width_some e) (omega (arith, bytes-within e)))
    ∙ take-append-le (digest_bytes e) (from_words b H) _ (omega (arith, digest-within e, length-from_words b H)))
