-- `halfread::close::close` meets its contract: each refusal by its test, and the digest of the last words. Assumes nothing.
use Prim.Native.Nat.{ℕ, ◌<◌}
use mathlib.Core.Bool.{true}
use mathlib.Core.List.{List}
use mathlib.Core.Path.{◌≡◌, refl, sym, ap, ◌∙◌}
use native.Mathlib.Omega.{arith}
use lib.ListN.{length, take}
use borrow.Author.Rules.{rules}
use borrow.Author.Tests.{lt-ltb, le-ltb}
use Rattle.answers.specs.Judged.{first}
use Rattle.answers.proofs.Outcome.{refused, done}
use Rattle.slices.specs.AtFront.{at_front}
use Rattle.dwsha2.specs.Closing.{closing_fits}
use Rattle.dwsha2.specs.Code.Hashing.{finished, digest_from}
use Rattle.halfread.specs.declared.HalfRead.{HalfRead}
use Rattle.halfread.specs.State.{tail_length, sound, tail_room}
use Rattle.halfread.specs.Steps.{close_tests, closed_digest}
use Rattle.halfread.proofs.Sizes.{rest-within}
use Rattle.halfread.proofs.close.close.Goals as goal
use Rattle.halfread.proofs.close.close.Goals.{Else-not-closing_fits, Else-not-is_sound}

pub returns-then-not-is_sound : goal.returns-then-not-is_sound
unfolding close_tests first
returns-then-not-is_sound c = refused (rw (sym c.is_sound.ensures ∙ c.if-not-is_sound.true)) tt refl

is-sound : (c : Else-not-is_sound) → sound c.args.half ≡ true
is-sound c = sym c.is_sound.ensures ∙ c.if-not-is_sound.false

pub returns-then-not-closing_fits : goal.returns-then-not-closing_fits
unfolding close_tests first
returns-then-not-closing_fits c =
    refused (rw (
      is-sound (goal.at.returns-then-not-closing_fits c).Else-not-is_sound,
      sym c.closing_fits.ensures
          ∙ c.if-not-closing_fits.true,
    )) tt refl

fitting : (c : Else-not-closing_fits) →
    closing_fits c.args.closing c.args.bits ≡ true
fitting c = sym c.closing_fits.ensures ∙ c.if-not-closing_fits.false

pub returns-then-out-digest_bytes : goal.returns-then-out-digest_bytes
unfolding close_tests first
returns-then-out-digest_bytes c = refused
    (rw (
      is-sound (goal.at.returns-then-out-digest_bytes c).Else-not-is_sound,
      fitting (goal.at.returns-then-out-digest_bytes c).Else-not-closing_fits,
      ← c.digest_bytes.ensures,
      lt-ltb _ _ c.if-out-digest_bytes.true,
    ))
    tt refl

pub shared_ref_as_front-finish : goal.shared_ref_as_front-finish
shared_ref_as_front-finish c = let h = c.args.half in
    let long : length h.tail ≡ tail_room = search rules in
    let small : c.tail_length-end.result < tail_room = rest-within _ _ c.tail_length-end.ensures in
    omega arith

is-closed : (h : HalfRead) (x b : ℕ) {n : ℕ} {H : List ℕ} → n ≡ tail_length h →
    H ≡ finished h.edition h.words h.count (take n h.tail) x b → digest_from h.edition H ≡ closed_digest h x b
unfolding closed_digest
is-closed h x b p q =
    ap (digest_from h.edition) (q ∙ ap (λ (n : ℕ). finished h.edition h.words h.count (take n h.tail) x b) p)

pub returns : goal.returns
unfolding close_tests first
returns c = let a = c.args in
    done
    (rw (
      is-sound (goal.at.returns c).Else-not-is_sound,
      fitting (goal.at.returns c).Else-not-closing_fits,
      ← c.digest_bytes.ensures,
      le-ltb _ _ c.if-out-digest_bytes.false,
    ))
    (c.write_digest.ensures
    ∙ ap (λ (l : List ℕ). at_front l a.out.now)
    (is-closed a.half a.closing a.bits c.tail_length-end.ensures c.finish-last.ensures))
