-- What `sound` asks, rule by rule: `sound-rules`, a half-read message is sound exactly where it keeps the five rules of SPEC,
-- "The table of bays". They are asked of numbers, so that it does not matter where those are read: `keeps-alike`.
use Prim.Native.Nat.{ℕ, ◌+◌, ◌-◌, ◌^◌, ◌<◌}
use mathlib.Core.Bool.{true}
use mathlib.Core.Path.{◌≡◌, sym, ap, subst, ◌∙◌}
use native.Mathlib.Decide.{dec_lt}
use native.Mathlib.Omega.{arith}
use lib.Dec.{eqb}
use lib.ListN.{length, drop, get_or, length-drop, get_or-replicate, get_or-eq_default}
use lib.Pow.{pow_pos}
use lib.Seq.{get_or-drop, ext_get_or}
use borrow.Author.Tests.{eq-eqb}
use Rattle.slices.specs.Below.{Below}
use Rattle.slices.proofs.Tests.{at_every, below-all_below}
use Rattle.fips.specs.Words.{word}
use Rattle.fips.specs.Editions.{width, start}
use Rattle.fips.proofs.Rules.{length-start}
use Rattle.halfread.specs.declared.HalfRead.{HalfRead}
use Rattle.halfread.specs.State.{chain_room, tail_room, tail_length, sound}
use Rattle.halfread.specs.FiveRules.{FiveRules, Keeps}
use Rattle.halfread.proofs.Soundness.{facts-of, zeros-behind, kept-sound}

-- the same numbers keep the same rules
pub keeps-alike : {e c e' c' : ℕ} {chain tail chain' tail' : ℕ → ℕ} → e ≡ e' → c ≡ c' →
    ((j : ℕ) → j < chain_room → chain j ≡ chain' j) →
    ((k : ℕ) → k < tail_room → tail k ≡ tail' k) →
    FiveRules e c chain tail → FiveRules e' c' chain' tail'
keeps-alike {e} {c} {e'} {c'} {chain} {tail} {chain'} {tail'} is_e is_c words bytes r =
    subst (λ (n : ℕ). FiveRules n c' chain' tail') is_e
    (subst (λ (n : ℕ). FiveRules e n chain' tail') is_c
    (record {
      edition = r.edition;
      length = r.length;
      words = λ j h. subst (λ (x : ℕ). x < 2 ^ word (width e)) (words j h) (r.words j h);
      tail = λ k p h. sym (bytes k h) ∙ r.tail k p h;
      start = λ p j h. sym (words j h) ∙ r.start p j h;
    }))

module _ (h : HalfRead) (eight : length h.words ≡ chain_room) (wide : length h.tail ≡ tail_room) where
  sound-keeps : sound h ≡ true → Keeps h
  sound-keeps is_sound =
      let facts = facts-of h is_sound wide in
      let n = tail_length h in
      record {
        edition = facts.known;
        length = facts.limited;
        words = λ j p. facts.below j;
        tail = λ k p q.
            let at : n + (k - n) ≡ k = omega arith in
            ap (λ (i : ℕ). get_or h.tail i 0) (sym at)
            ∙ sym (get_or-drop n h.tail (k - n) 0)
            ∙ ap (λ l. get_or l (k - n) 0) (zeros-behind h is_sound wide)
            ∙ get_or-replicate (tail_room - n) (k - n) 0 0 (omega arith);
        start = λ p j q. ap (λ l. get_or l j 0) (facts.begun p);
      }

  below_all : Keeps h → Below (2 ^ word (width h.edition)) h.words
  below_all r i = go (dec_lt i chain_room)
    where
      go : Dec (i < chain_room) → get_or h.words i 0 < 2 ^ word (width h.edition)
      go (yes p) = r.words i p
      go (no p) =
          rw (get_or-eq_default h.words 0 {n = i} (omega arith)) (pow_pos (word (width h.edition)))

  keeps-sound : Keeps h → sound h ≡ true
  keeps-sound r =
      let n = tail_length h in
      kept-sound h
      (record {
        known = r.edition;
        short = rw r.length;
        below = below-all_below (2 ^ word (width h.edition)) h.words (below_all r);
        zero =
            at_every (λ x. eqb x 0) 0 (drop n h.tail)
            (λ i p. eq-eqb _ 0
            (get_or-drop n h.tail i 0 ∙ r.tail (n + i) (omega arith) (omega (arith, length-drop n h.tail))));
      })
      (λ p. ext_get_or 0 h.words (start h.edition) (eight ∙ sym (length-start h.edition))
      (λ j q. r.start p j (omega arith)))

  pub sound-rules : (sound h ≡ true → Keeps h) × (Keeps h → sound h ≡ true)
  sound-rules = (sound-keeps, keeps-sound)
