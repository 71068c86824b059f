-- `dwsha2::hash::hash` meets its contract: each refusal by its test, and the digest by `digest-at-once`. Assumes nothing.
use Prim.Native.Nat.{ℕ}
use mathlib.Core.List.{List}
use mathlib.Core.Path.{◌≡◌, refl, sym, ap, ◌∙◌}
use mir.Syntax.{w8 as u8}
use mir.Val.{Fits}
use lib.ListN.{length, get_or}
use borrow.Author.Tests.{lt-ltb, le-ltb}
use Rattle.answers.specs.Judged.{first}
use Rattle.answers.proofs.Outcome.{refused, done}
use Rattle.fips.specs.Editions.{start}
use Rattle.slices.specs.AtFront.{at_front}
use Rattle.dwsha2.specs.Hash.{hash_tests, hashed}
use Rattle.dwsha2.specs.Code.Hashing.{finished, digest_from}
use Rattle.fips.proofs.Sizes.{size-unknown, size-known}
use Rattle.dwsha2.proofs.AtOnce.{closing-few, digest-at-once}
use Rattle.dwsha2.proofs.hash.hash.Goals as goal

pub returns-then-size-eq0 : goal.returns-then-size-eq0
unfolding hash_tests first
returns-then-size-eq0 c = refused (rw (size-unknown _ _ c.digest_bytes-size.ensures c.if-size-eq0.true)) tt refl

pub returns-then-too_long : goal.returns-then-too_long
unfolding hash_tests first
returns-then-too_long c = refused
    (rw (
      size-known _ _ c.digest_bytes-size.ensures c.if-size-eq0.false,
      sym
          c.too_long.ensures ∙ c.if-too_long.true,
    ))
    tt refl

pub returns-then-not-closing_fits : goal.returns-then-not-closing_fits
unfolding hash_tests first
returns-then-not-closing_fits c = refused
    (rw (
      size-known _ _ c.digest_bytes-size.ensures c.if-size-eq0.false,
      sym c.too_long.ensures ∙ c.if-too_long.false,
      sym c.closing_fits.ensures ∙ c.if-not-closing_fits.true,
    ))
    tt refl

pub returns-then-out-size : goal.returns-then-out-size
unfolding hash_tests first
returns-then-out-size c = refused
    (rw (
      size-known _ _ c.digest_bytes-size.ensures c.if-size-eq0.false,
      sym c.too_long.ensures ∙ c.if-too_long.false,
      sym c.closing_fits.ensures ∙ c.if-not-closing_fits.false,
      ← c.digest_bytes-size.ensures,
      lt-ltb _ _ c.if-out-size.true,
    ))
    tt refl

pub returns : goal.returns
unfolding hash_tests first hashed
returns c = let e = c.args.edition in
    let m = c.args.message.now in
    let x = c.args.closing in
    let b = c.args.bits in
    let fits = sym c.closing_fits.ensures ∙ c.if-not-closing_fits.false in
    let byte : (i : ℕ) → Fits u8 (get_or m i 0) = λ i. c.shared_slice_known-1.given i in
    let words : c.finish-words.result ≡ finished e (start e) (length m) m x b =
    c.finish-words.ensures
    ∙ ap (λ (H : List ℕ). finished e H (length m) m x b) c.starting_words-start.ensures
    in
    done
    (rw (
      size-known _ _ c.digest_bytes-size.ensures c.if-size-eq0.false,
      sym c.too_long.ensures ∙ c.if-too_long.false,
      fits,
      ← c.digest_bytes-size.ensures,
      le-ltb _ _ c.if-out-size.false,
    ))
    (c.write_digest.ensures
    ∙ ap (λ (l : List ℕ). at_front l c.args.out.now)
    (ap (digest_from e) words ∙ digest-at-once e m x b (λ i. (byte i).fits) c.ranges.closing.fits (closing-few x b fits)))
