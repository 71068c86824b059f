-- A bay word by word: SPEC, "The table of bays". `half-by-words`, `bay-by-words` and `by-words-only`: its words and the message half read
-- in it; in a table `half-at-words` and `put-by-words`. `bay-sound-rules`: it is sound exactly where it is empty or keeps the five rules;
-- in a table `sound-at-rules`. `bay-places`: SPEC's numbers.
use Prim.Native.Nat.{ℕ, suc, ◌+◌, ◌-◌, ◌/◌, ◌%◌, ◌^◌, ◌≤◌, ◌<◌}
use mathlib.Core.Bool.{Bool, true, false}
use mathlib.Core.List.{List}
use mathlib.Core.Logic.{◌⊎◌, inl, inr, ⊎_elim}
use mathlib.Core.Path.{◌≡◌, refl, sym, ap, subst, ◌∙◌}
use native.Mathlib.Nat.{mod-lt}
use native.Mathlib.Omega.{arith}
use lib.Dec.{eqb, lit<}
use lib.ListN.{length, get_or, drop, length-drop}
use lib.Seq.{get_or-take, get_or-drop, ext_get_or}
use borrow.Author.Tests.{eqb-true, eq-eqb}
use Rattle.slices.specs.Below.{Below}
use Rattle.slices.proofs.Tests.{every-at, at_every}
use Rattle.bigendian.proofs.BigEndian.{get_or-be}
use Rattle.bigendian.proofs.Words.{get_or-from_words}
use Rattle.halfread.specs.declared.HalfRead.{HalfRead}
use Rattle.halfread.specs.State.{Shaped, sound, tail_room}
use Rattle.halfread.proofs.ByRules.{sound-rules, keeps-alike}
use Rattle.halfread.proofs.Fields.{same-state}
use Rattle.bays.specs.Places.{bay_words, place_of}
use Rattle.bays.specs.Places.{edition_word, count_word, chain_from, chain_words, tail_from, tail_words}
use Rattle.bays.specs.Table.{bay_at, put_bay}
use Rattle.bays.specs.Bay.{half_of, bay_of, is_empty, sound_bay}
use Rattle.bays.specs.ByWords.{word_at, byte_of_word, ByWords, Vacant, TakenRules}
use Rattle.bays.specs.Gate.{half_at}
use Rattle.bays.proofs.Frames.{length-bay_at, bay_at-put_bay}
use Rattle.bays.proofs.Packing.{length-bay_of, half_of-bay_of, bay_of-half_of, eight-half_of, wide-half_of}
use Rattle.bays.proofs.Packing.{sound_bay-empty, sound_bay-taken}
use Rattle.bays.proofs.TableByWords.{word-of-bay}

-- SPEC's numbers in a bay: the edition, the count, the chaining words and how many, the tail, its words and its bytes
pub bay-places : (edition_word ≡ 0) × (count_word ≡ 1) × (chain_from ≡ 2) × (chain_words ≡ 8) × (tail_from ≡ 10) × (tail_words ≡ 16)
    × (tail_room ≡ 128)
bay-places = (refl, refl, refl, refl, refl, refl, refl)

-- ---- what a bay holds

-- only its words count
by-words-alike : (bay bay' : ℕ → ℕ) (h : HalfRead) → ((j : ℕ) → j < bay_words → bay j ≡ bay' j) → ByWords bay h → ByWords bay' h
by-words-alike bay bay' h e r =
    record {
      edition = r.edition ∙ e edition_word (lit< tt);
      count = r.count ∙ e count_word (lit< tt);
      chain = λ j p. r.chain j p ∙ e (chain_from + j) (omega arith);
      tail = λ k p. r.tail k p ∙ ap (λ (x : ℕ). byte_of_word x (k % 8)) (e (tail_from + k / 8) (omega arith));
    }

pub half-by-words : (b : List ℕ) → length b ≡ bay_words → ByWords (λ j. get_or b j 0) (half_of b)
unfolding half_of
half-by-words b fits =
    record {
      edition = refl;
      count = refl;
      chain = λ j p. get_or-take chain_words (drop chain_from b) j 0 p ∙ get_or-drop chain_from b j 0;
      tail = λ k p.
          let i = k % 8 in
          let from : 8 - suc i ≡ 7 - i = omega arith in
          get_or-from_words 8 (drop tail_from b) k (omega (arith, length-drop tail_from b))
          ∙ get_or-be 8 (get_or (drop tail_from b) (k / 8) 0) i (mod-lt k (lit< tt))
          ∙ ap (λ (m : ℕ). get_or (drop tail_from b) (k / 8) 0 / 256 ^ m % 256) from
          ∙ ap (λ (x : ℕ). byte_of_word x i) (get_or-drop tail_from b (k / 8) 0);
    }

pub bay-by-words : (h : HalfRead) → Shaped h → ByWords (λ j. get_or (bay_of h) j 0) h
bay-by-words h s = subst (ByWords (λ j. get_or (bay_of h) j 0)) (half_of-bay_of h s) (half-by-words (bay_of h) (length-bay_of h s))

-- in a table
pub half-at-words : (t : List ℕ) (i : ℕ) → place_of i + bay_words ≤ length t → ByWords (word_at t i) (half_at t i)
half-at-words t i inside =
    by-words-alike (λ j. get_or (bay_at t i) j 0) (word_at t i) (half_at t i) (word-of-bay t i)
    (half-by-words (bay_at t i) (length-bay_at t i inside))

pub put-by-words : (t : List ℕ) (i : ℕ) (h : HalfRead) → Shaped h → place_of i + bay_words ≤ length t →
    ByWords (word_at (put_bay t i (bay_of h)) i) h
put-by-words t i h s inside =
    let new = put_bay t i (bay_of h) in
    by-words-alike (λ j. get_or (bay_of h) j 0) (word_at new i) h
    (λ j p. ap (λ l. get_or l j 0) (sym (bay_at-put_bay t i (bay_of h) (length-bay_of h s) inside)) ∙ word-of-bay new i j p)
    (bay-by-words h s)

-- so the words of a bay are fixed by what it holds
pub by-words-only : (b : List ℕ) (h : HalfRead) → length b ≡ bay_words → Below (2 ^ 64) b → Shaped h → ByWords (λ j. get_or b j 0) h →
    b ≡ bay_of h
by-words-only b h fits small s r =
    let o = half-by-words b fits in
    let words : h.words ≡ (half_of b).words =
    ext_get_or 0 h.words (half_of b).words (s.eight ∙ sym (eight-half_of b fits))
    (λ j p. r.chain j (omega (arith, s.eight)) ∙ sym (o.chain j (omega (arith, s.eight)))) in
    let tail : h.tail ≡ (half_of b).tail =
    ext_get_or 0 h.tail (half_of b).tail (s.wide ∙ sym (wide-half_of b fits))
    (λ k p. r.tail k (omega (arith, s.wide)) ∙ sym (o.tail k (omega (arith, s.wide)))) in
    let is : h ≡ half_of b = same-state h (half_of b) (r.edition ∙ sym o.edition) (r.count ∙ sym o.count) words tail in
    sym (bay_of-half_of b fits small) ∙ sym (ap bay_of is)

-- ---- a bay that is sound, rule by rule

-- where its words are read does not matter
module _ (b : List ℕ) (fits : length b ≡ bay_words) (bay : ℕ → ℕ) (is : (j : ℕ) → j < bay_words → get_or b j 0 ≡ bay j) where
  empty-read : (is_empty b ≡ true → Vacant bay) × (Vacant bay → is_empty b ≡ true)
  unfolding is_empty
  empty-read = (
    λ e j p. sym (is j p) ∙ eqb-true (get_or b j 0) 0 (every-at (λ x. eqb x 0) 0 b e j (omega arith)),
    λ v. at_every (λ x. eqb x 0) 0 b (λ j p. eq-eqb (get_or b j 0) 0 (is j (omega arith) ∙ v j (omega arith))),
  )

  taken-read : (sound (half_of b) ≡ true → TakenRules bay) × (TakenRules bay → sound (half_of b) ≡ true)
  taken-read =
      let r = by-words-alike (λ j. get_or b j 0) bay (half_of b) is (half-by-words b fits) in
      let both = sound-rules (half_of b) (eight-half_of b fits) (wide-half_of b fits) in (
        λ e. keeps-alike r.edition r.count r.chain r.tail (both.0 e),
        λ k. both.1
            (keeps-alike (sym r.edition) (sym r.count) (λ j p. sym (r.chain j p)) (λ j p. sym (r.tail j p)) k),
      )

  sound-read : (sound_bay b ≡ true → Vacant bay ⊎ TakenRules bay) × (Vacant bay ⊎ TakenRules bay → sound_bay b ≡ true)
  sound-read = (λ e. into (is_empty b) refl e, ⊎_elim vacant (λ r. taken (is_empty b) refl (taken-read.1 r)))
    where
      into : (x : Bool) → is_empty b ≡ x → sound_bay b ≡ true → Vacant bay ⊎ TakenRules bay
      into true q e = inl (empty-read.0 q)
      into false q e = inr (taken-read.0 (sym (sound_bay-taken b q) ∙ e))

      vacant : Vacant bay → sound_bay b ≡ true
      vacant v = sound_bay-empty b (empty-read.1 v)

      taken : (x : Bool) → is_empty b ≡ x → sound (half_of b) ≡ true → sound_bay b ≡ true
      taken true q e = sound_bay-empty b q
      taken false q e = sound_bay-taken b q ∙ e

-- of a bay's words
module _ (b : List ℕ) (fits : length b ≡ bay_words) where
  abbrev bay : ℕ → ℕ
  bay j = get_or b j 0

  pub bay-empty-rules : (is_empty b ≡ true → Vacant bay) × (Vacant bay → is_empty b ≡ true)
  bay-empty-rules = empty-read b fits bay (λ j p. refl)

  pub bay-sound-rules : (sound_bay b ≡ true → Vacant bay ⊎ TakenRules bay) × (Vacant bay ⊎ TakenRules bay → sound_bay b ≡ true)
  bay-sound-rules = sound-read b fits bay (λ j p. refl)

-- of the words of a table
module _ (t : List ℕ) (i : ℕ) (inside : place_of i + bay_words ≤ length t) where
  pub empty-at-rules : (is_empty (bay_at t i) ≡ true → Vacant (word_at t i)) × (Vacant (word_at t i) → is_empty (bay_at t i) ≡ true)
  empty-at-rules = empty-read (bay_at t i) (length-bay_at t i inside) (word_at t i) (word-of-bay t i)

  pub sound-at-rules : (sound_bay (bay_at t i) ≡ true → Vacant (word_at t i) ⊎ TakenRules (word_at t i))
      × (Vacant (word_at t i) ⊎ TakenRules (word_at t i) → sound_bay (bay_at t i) ≡ true)
  sound-at-rules = sound-read (bay_at t i) (length-bay_at t i inside) (word_at t i) (word-of-bay t i)
