-- A sound half-read message: SPEC, "The table of bays". What `sound` tells, as facts, and the way back.
-- Main statements: `sound-facts` and `facts-sound`.
use Prim.Native.Nat.{ℕ, ◌-◌, ◌^◌, ◌≤◌, ◌<◌}
use mathlib.Core.Bool.{Bool, true, false, ◌||◌}
use mathlib.Core.List.{List, ◌++◌}
use mathlib.Core.Path.{◌≡◌, refl, sym, ap, ◌∙◌}
use native.Mathlib.Decide.{dec_le}
use native.Mathlib.Nat.{lt_of_not-le}
use native.Mathlib.Omega.{arith}
use lib.ListN.{length, drop, replicate, length-drop, take-append-drop}
use lib.Pow.{pow_pos}
use borrow.Author.Tests.{lt-leb, not-true}
use Rattle.slices.specs.Below.{Below}
use Rattle.fips.specs.Words.{word}
use Rattle.fips.specs.Editions.{known, width, start}
use Rattle.dwsha2.specs.Limit.{too_long}
use Rattle.halfread.specs.declared.HalfRead.{HalfRead}
use Rattle.slices.specs.Tests.{all_zero}
use Rattle.halfread.specs.State.{block_of, tail_length, pending, padded, rules, sound, Shaped, tail_room}
use Rattle.slices.proofs.Tests.{holds_at, all_below-below, below-all_below, all_zero-zeros, zeros-all_zero, same-eq, eq-same}
use Rattle.halfread.proofs.Rules.{tail_within, Kept, past-rule, begun-rule}
use Rattle.halfread.proofs.Tails.{length-pending, padded-room, drop-padded}

pub sound-kept : (h : HalfRead) → sound h ≡ true → Kept h
unfolding sound
sound-kept h e =
    let at = holds_at (rules h) e in
    record { known = at 0; short = at 1; below = at 2; zero = at 3 }

-- what a sound message has
pub record Sound (h : HalfRead) : Type 0 where
  pub known : known h.edition ≡ true
  pub limited : too_long h.edition h.count 0 ≡ false
  pub below : Below (2 ^ word (width h.edition)) h.words
  pub tail : h.tail ≡ padded (pending h)
  pub begun : h.count < block_of h → h.words ≡ start h.edition

-- the tail is its bytes and zeros
pub zeros-behind : (h : HalfRead) → sound h ≡ true → length h.tail ≡ tail_room →
    drop (tail_length h) h.tail ≡ replicate (tail_room - tail_length h) 0
zeros-behind h e long =
    all_zero-zeros (drop (tail_length h) h.tail) (sound-kept h e).zero
    ∙ ap (λ (n : ℕ). replicate n 0) (length-drop (tail_length h) h.tail ∙ ap (λ (n : ℕ). n - tail_length h) long)

pub sound-limited : (h : HalfRead) → sound h ≡ true → too_long h.edition h.count 0 ≡ false
sound-limited h e = not-true _ (sound-kept h e).short

-- of the shape only the tail's length counts
pub facts-of : (h : HalfRead) → sound h ≡ true → length h.tail ≡ tail_room → Sound h
unfolding sound
facts-of h e long =
    let k = sound-kept h e in
    record {
      known = k.known;
      limited = sound-limited h e;
      below = all_below-below (2 ^ word (width h.edition)) h.words (pow_pos (word (width h.edition))) k.below;
      tail =
          sym (take-append-drop (tail_length h) h.tail)
          ∙ ap (λ (l : List ℕ). pending h ++ l)
          (zeros-behind h e long ∙ ap (λ (n : ℕ). replicate (tail_room - n) 0) (sym (length-pending h long)))
          ∙ sym (padded-room (pending h) (omega (arith, length-pending h long, tail_within h)));
      begun = λ p. same-eq h.words (start h.edition) (either (lt-leb (block_of h) h.count p) (holds_at (rules h) e 4));
    }
  where
    either : {a b : Bool} → a ≡ false → (a || b) ≡ true → b ≡ true
    either p q = rw p at q

pub sound-facts : (h : HalfRead) → sound h ≡ true → Shaped h → Sound h
sound-facts h e s = facts-of h e s.wide

-- the rules but the last, and that one as a fact
pub kept-sound : (h : HalfRead) → Kept h → (h.count < block_of h → h.words ≡ start h.edition) → sound h ≡ true
kept-sound h kept begun = go (dec_le (block_of h) h.count)
  where
    go : Dec (block_of h ≤ h.count) → sound h ≡ true
    go (yes p) = sym (past-rule h kept p)
    go (no p) = sym (begun-rule h kept (lt_of_not-le p) refl (sym (eq-same h.words (start h.edition) (begun (lt_of_not-le p)))))

pub facts-sound : (h : HalfRead) → Shaped h → Sound h → sound h ≡ true
facts-sound h s f = kept-sound h kept f.begun
  where
    zero : all_zero (drop (tail_length h) h.tail) ≡ true
    zero =
        ap (λ (l : List ℕ). all_zero (drop (tail_length h) l)) f.tail
        ∙ ap all_zero (drop-padded (pending h) (tail_length h) (omega (arith, tail_within h)) (length-pending h s.wide))
        ∙ zeros-all_zero (tail_room - tail_length h)

    kept : Kept h
    kept =
        record {
          known = f.known;
          short = rw f.limited;
          below = below-all_below (2 ^ word (width h.edition)) h.words f.below;
          zero = zero;
        }
