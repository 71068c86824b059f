-- A bay's words and the half-read message that they hold: each makes the other, `half_of-bay_of` and `bay_of-half_of`.
-- A bay is empty where it is zeros, `empty-zeros` and `zeros-empty`; what an empty bay holds is not sound.
use Prim.Native.Nat.{ℕ, ◌-◌, ◌*◌, ◌^◌, ◌≤◌}
use mathlib.Core.Bool.{Bool, true, false, false≢true}
use mathlib.Core.List.{List, [], ◌∷◌, ◌++◌, map, append-nil}
use mathlib.Core.Path.{◌≡◌, refl, sym, ap, ◌∙◌}
use native.Mathlib.Omega.{arith}
use lib.ListN.{length, take, drop, get_or, set, replicate, length-append, length-take, length-drop, length-set}
use lib.ListN.{take-append-drop, drop_of_length-le}
use lib.Seq.{take_at, drop_at, drop-cons, drop-drop, take_all}
use Rattle.bigendian.specs.BigEndian.{be, word64}
use Rattle.slices.specs.Below.{Below, Bytes}
use Rattle.bigendian.specs.Words.{from_words, to_words, with_words}
use Rattle.slices.proofs.Below.{below-cons, below-append, below-take, below-drop}
use Rattle.bigendian.proofs.Words.{length-from_words, from_words-bytes, length-to_words, to_words-below}
use Rattle.bigendian.proofs.Words.{to_words-from_words, to_words-word64, from_words-to_words-all, with_words-all}
use Rattle.fips.specs.Editions.{known}
use Rattle.slices.specs.AtFront.{at_front}
use Rattle.slices.specs.Tests.{holds}
use Rattle.slices.proofs.AtFront.{at_front-all}
use Rattle.halfread.specs.declared.HalfRead.{HalfRead}
use Rattle.halfread.specs.State.{Shaped, sound, blank, tail_room}
use Rattle.slices.proofs.Tests.{all_zero-zeros, zeros-all_zero}
use Rattle.bays.specs.Places.{bay_words}
use Rattle.bays.specs.Places.{edition_word, count_word, chain_from, chain_words, tail_from, tail_words}
use Rattle.bays.specs.Bay.{half_of, bay_of, is_empty, empty_bay, sound_bay}

-- ---- there and back

pub bay_of-long : (h : HalfRead) → length h.words ≡ chain_words → length (bay_of h) ≡ bay_words
unfolding bay_of
bay_of-long h eight = simp (length-append, eight, length-to_words)

module _ (h : HalfRead) (s : Shaped h) where
  pub length-bay_of : length (bay_of h) ≡ bay_words
  length-bay_of = bay_of-long h s.eight

  pub below-bay_of : Below (2 ^ 64) (bay_of h)
  unfolding bay_of
  below-bay_of =
      let rest = h.words ++ to_words tail_words 8 h.tail in
      below-cons (h.count ∷ rest) s.number
      (below-cons rest s.counted
      (below-append h.words (to_words tail_words 8 h.tail) s.fitting (to_words-below tail_words 8 h.tail s.bytes)))

  pub half_of-bay_of : half_of (bay_of h) ≡ h
  unfolding half_of bay_of
  half_of-bay_of =
      let t = to_words tail_words 8 h.tail in
      let words : take chain_words (h.words ++ t) ≡ h.words = take_at h.words t chain_words s.eight in
      let tail : from_words 8 (drop chain_words (h.words ++ t)) ≡ h.tail =
      ap (from_words 8) (drop_at h.words t chain_words s.eight) ∙ from_words-to_words-all tail_words 8 h.tail s.bytes s.wide in
      λ i. record { edition = h.edition; count = h.count; words = words i; tail = tail i }

pub eight-half_of : (b : List ℕ) → length b ≡ bay_words → length (half_of b).words ≡ chain_words
unfolding half_of
eight-half_of b fits = simp (length-take, length-drop, fits)

pub wide-half_of : (b : List ℕ) → length b ≡ bay_words → length (half_of b).tail ≡ tail_room
unfolding half_of
wide-half_of b fits = simp (length-from_words, length-drop, fits)

module _ (b : List ℕ) (fits : length b ≡ bay_words) (words : Below (2 ^ 64) b) where
  pub shaped-half_of : Shaped (half_of b)
  unfolding half_of
  shaped-half_of =
      record {
        eight = eight-half_of b fits;
        wide = wide-half_of b fits;
        number = words edition_word;
        counted = words count_word;
        fitting = below-take chain_words (drop chain_from b) (below-drop chain_from b words);
        bytes = from_words-bytes 8 (drop tail_from b);
      }

  tail-back : to_words tail_words 8 (from_words 8 (drop tail_from b)) ≡ drop tail_from b
  tail-back =
      let long : length (drop tail_from b) ≡ tail_words = simp (length-drop, fits) in
      ap (λ (k : ℕ). to_words k 8 (from_words 8 (drop tail_from b))) (sym long)
      ∙ to_words-from_words 8 (drop tail_from b) (below-drop tail_from b words)

  pub bay_of-half_of : bay_of (half_of b) ≡ b
  unfolding bay_of half_of
  bay_of-half_of =
      let words : take chain_words (drop chain_from b) ++ to_words tail_words 8 (from_words 8 (drop tail_from b)) ≡ drop chain_from b =
      ap (λ (l : List ℕ). take chain_words (drop chain_from b) ++ l) (tail-back ∙ sym (drop-drop chain_words chain_from b))
      ∙ take-append-drop chain_words (drop chain_from b) in
      rw words (rw (← drop-cons b count_word 0 (omega arith)) (sym (drop-cons b edition_word 0 (omega arith))))

-- ---- as the code has it

-- eight words copied over eight others, and the bytes of sixteen put over a tail
pub unpacked : (b words tail eight old : List ℕ) → length b ≡ bay_words → length eight ≡ chain_words → length old ≡ tail_room →
    words ≡ at_front (take chain_words (drop chain_from b)) eight → tail ≡ with_words 8 (take tail_words (drop tail_from b)) old
    →
    half_of b ≡ record { edition = get_or b edition_word 0; count = get_or b count_word 0; words = words; tail = tail }
unfolding half_of
unpacked b words tail eight old fits e long w t =
    let part : length (take chain_words (drop chain_from b)) ≡ length eight = simp (length-take, length-drop, fits) (sym e) in
    let all : take tail_words (drop tail_from b) ≡ drop tail_from b =
    take_all tail_words (drop tail_from b) (rw (length-drop tail_from b) (omega arith)) in
    let room : length old ≡ length (drop tail_from b) * 8 = rw (length-drop tail_from b, fits) long in
    let chain : words ≡ take chain_words (drop chain_from b) = w ∙ at_front-all (take chain_words (drop chain_from b)) eight (sym part) in
    let bytes : tail ≡ from_words 8 (drop tail_from b) =
    t ∙ ap (λ (l : List ℕ). with_words 8 l old) all ∙ with_words-all 8 (drop tail_from b) old (omega arith) room in
    rw (chain, bytes)

two-set : (b : List ℕ) (e c : ℕ) → chain_from ≤ length b → take chain_from (set (set b edition_word e) count_word c) ≡ e ∷ c ∷ []
two-set [] e c h = absurd (omega arith)
two-set (x ∷ []) e c h = absurd (omega arith)
two-set (x ∷ y ∷ xs) e c h = refl

-- two words set, eight copied, sixteen made of the tail: each part behind the ones before it
module _ (b : List ℕ) (e c : ℕ) (words copied : List ℕ) (fits : length b ≡ bay_words) (eight : length words ≡ chain_words)
    (came : copied ≡ at_front words (take chain_words (drop chain_from (set (set b edition_word e) count_word c)))) where
  abbrev begun : List ℕ
  begun = set (set b edition_word e) count_word c

  abbrev half-done : List ℕ
  half-done = take chain_from begun ++ (copied ++ drop chain_words (drop chain_from begun))

  begun-long : length begun ≡ bay_words
  begun-long = simp length-set fits

  copied_is : copied ≡ words
  copied_is =
      let room : length (take chain_words (drop chain_from begun)) ≡ chain_words =
      simp (length-take, length-drop) (omega (arith, begun-long)) in
      came ∙ at_front-all words (take chain_words (drop chain_from begun)) (room ∙ sym eight)

  pub half-long : length half-done ≡ bay_words
  half-long = simp (length-append, length-take, length-drop) (omega (arith, begun-long, ap length copied_is))

  front-two : take chain_from begun ≡ e ∷ c ∷ []
  front-two = two-set b e c (omega arith)

  front-ten : take tail_from half-done ≡ e ∷ c ∷ words
  front-ten =
      rw (front-two, copied_is)
      (ap (λ (l : List ℕ). e ∷ c ∷ l) (take_at words (drop chain_words (drop chain_from begun)) chain_words eight))

  pub packed : (tail new : List ℕ) → Bytes tail →
      new ≡ map word64 (to_words (length (take (length half-done - tail_from) (drop tail_from half-done))) 8 tail) →
      take tail_from half-done ++ (new ++ drop (length half-done - tail_from) (drop tail_from half-done))
      ≡ e ∷ c ∷ (words ++ to_words tail_words 8 tail)
  packed tail new bytes made =
      let rest : length (drop tail_from half-done) ≡ length half-done - tail_from = length-drop tail_from half-done in
      let part : length (take (length half-done - tail_from) (drop tail_from half-done)) ≡ tail_words =
      length-take (length half-done - tail_from) (drop tail_from half-done) ∙ omega (arith, rest, half-long) in
      let is : new ≡ to_words tail_words 8 tail =
      made ∙ ap (λ (k : ℕ). map word64 (to_words k 8 tail)) part ∙ to_words-word64 tail_words 8 tail bytes (omega arith) in
      rw (front-ten, drop_of_length-le (drop tail_from half-done) {i = length half-done - tail_from} (omega arith), append-nil, is)

-- ---- an empty bay

pub zeros-empty : is_empty empty_bay ≡ true
unfolding is_empty
zeros-empty = zeros-all_zero bay_words

pub empty-zeros : (b : List ℕ) → length b ≡ bay_words → is_empty b ≡ true → b ≡ empty_bay
unfolding is_empty
empty-zeros b fits e = all_zero-zeros b e ∙ ap (λ (n : ℕ). replicate n 0) fits

pub half_of-empty : half_of empty_bay ≡ blank
unfolding half_of blank from_words be
half_of-empty = refl

pub unsound-blank : sound blank ≡ false
unfolding sound blank known holds
unsound-blank = refl

-- so a bay that holds a sound message is taken
pub empty-unsound : (b : List ℕ) → length b ≡ bay_words → is_empty b ≡ true → sound (half_of b) ≡ false
empty-unsound b fits e = ap (λ (l : List ℕ). sound (half_of l)) (empty-zeros b fits e) ∙ ap sound half_of-empty ∙ unsound-blank

pub sound-taken : (b : List ℕ) → length b ≡ bay_words → sound (half_of b) ≡ true → is_empty b ≡ false
sound-taken b fits e = go (is_empty b) refl
  where
    go : (x : Bool) → is_empty b ≡ x → x ≡ false
    go true p = absurd (false≢true (sym (empty-unsound b fits p) ∙ e))
    go false p = refl

pub taken-bay_of : (h : HalfRead) → Shaped h → sound h ≡ true → is_empty (bay_of h) ≡ false
taken-bay_of h s e = sound-taken (bay_of h) (length-bay_of h s) (ap sound (half_of-bay_of h s) ∙ e)

-- a bay is sound where it is empty or what it holds is
pub sound_bay-empty : (b : List ℕ) → is_empty b ≡ true → sound_bay b ≡ true
unfolding sound_bay
sound_bay-empty b e = rw e

pub sound_bay-taken : (b : List ℕ) → is_empty b ≡ false → sound_bay b ≡ sound (half_of b)
unfolding sound_bay
sound_bay-taken b e = rw e

pub sound_bay-bay_of : (h : HalfRead) → Shaped h → sound h ≡ true → sound_bay (bay_of h) ≡ true
sound_bay-bay_of h s e = sound_bay-taken (bay_of h) (taken-bay_of h s e) ∙ ap sound (half_of-bay_of h s) ∙ e
