-- One bay written, and everything else as it was. The bay itself: `bay_at-put_bay`; any other: `bay_at-other`.
-- The header, the length and the caller's words: `put_bay-header`, `headed-put_bay`, `length-put_bay`, `put_bay-past`.
use Prim.Native.Nat.{ℕ, ◌+◌, ◌-◌, ◌<◌, ◌≤◌}
use mathlib.Core.Bool.{true}
use mathlib.Core.List.{List, [], ◌∷◌}
use mathlib.Core.Path.{◌≡◌, sym, ap, ◌∙◌}
use native.Mathlib.Decide.{dec_lt}
use native.Mathlib.Nat.{add-sub_cancel_left}
use native.Mathlib.Omega.{arith}
use lib.Dec.{leb, eqb}
use lib.ListN.{length, take, drop, get_or}
use lib.Seq.{get_or-take}
use borrow.Author.Tests.{leb-true, eq-eqb}
use Rattle.slices.proofs.Tests.{holds_at, holds_on, holds-last}
use Rattle.slices.specs.Below.{Below}
use Rattle.slices.proofs.Below.{below-take, below-drop}
use Rattle.bays.specs.Places.{first_bay, bay_words, most_bays, place_of}
use Rattle.bays.specs.Table.{bays_of, room_for, headed, bay_at, put_bay}
use Rattle.slices.proofs.Parts.{length_part, length-put-in, part-put, take_put, drop-put, part-before, part-after, below_put, put_same}
use Rattle.slices.specs.Parts.{put_part, part}

-- ---- what a header gives

-- room for n bays in l words, as numbers
pub record Room (n l : ℕ) : Type 0 where
  pub some : 1 ≤ n
  pub few : n ≤ most_bays
  pub within : place_of n ≤ l

pub room_of : (n l : ℕ) → room_for n l ≡ true → Room n l
unfolding room_for
room_of n l e =
    let at = holds_at (leb 1 n ∷ leb n most_bays ∷ leb (place_of n) l ∷ []) e in
    record { some = leb-true 1 n (at 0); few = leb-true n most_bays (at 1); within = leb-true (place_of n) l (at 2) }

pub headed-room : (t : List ℕ) → headed t ≡ true → Room (bays_of t) (length t)
unfolding headed
headed-room t e =
    room_of (bays_of t) (length t)
    (holds_at (room_for (bays_of t) (length t) ∷ eqb (get_or t 1 0) first_bay ∷ eqb (get_or t 2 0) bay_words ∷ eqb (get_or t 3 0) 0 ∷ []) e
    0)

pub headed-of : (t : List ℕ) → room_for (bays_of t) (length t) ≡ true → get_or t 1 0 ≡ first_bay → get_or t 2 0 ≡ bay_words →
    get_or t 3 0 ≡ 0 →
    headed t ≡ true
unfolding headed
headed-of t room first words zero =
    holds_on _ _ room ∙ holds_on _ _ (eq-eqb _ _ first) ∙ holds_on _ _ (eq-eqb _ _ words) ∙ holds-last _ ∙ eq-eqb _ _ zero

-- a bay below N lies within the run
pub bay-inside : (t : List ℕ) (i : ℕ) → headed t ≡ true → i < bays_of t → place_of i + bay_words ≤ length t
bay-inside t i e h = omega (arith, headed-room t e)

-- the test reads the length and four words
pub headed-same : (t u : List ℕ) → length t ≡ length u → ((k : ℕ) → k < first_bay → get_or t k 0 ≡ get_or u k 0) → headed t ≡ headed u
unfolding headed
headed-same t u l h = rw (l, h 0 (omega arith), h 1 (omega arith), h 2 (omega arith), h 3 (omega arith))

-- ---- a bay where it lies

pub length-bay_at : (t : List ℕ) (i : ℕ) → place_of i + bay_words ≤ length t → length (bay_at t i) ≡ bay_words
unfolding bay_at
length-bay_at t i h = length_part (place_of i) bay_words t h

pub below-bay_at : {m : ℕ} (t : List ℕ) (i : ℕ) → Below m t → Below m (bay_at t i)
unfolding bay_at
below-bay_at t i h = below-take bay_words (drop (place_of i) t) (below-drop (place_of i) t h)

-- ---- bay i written

module _ (t : List ℕ) (i : ℕ) (b : List ℕ) (fits : length b ≡ bay_words) (inside : place_of i + bay_words ≤ length t) where
  pub length-put_bay : length (put_bay t i b) ≡ length t
  unfolding put_bay
  length-put_bay = length-put-in (place_of i) bay_words b t fits inside

  pub bay_at-put_bay : bay_at (put_bay t i b) i ≡ b
  unfolding bay_at put_bay
  bay_at-put_bay = part-put (place_of i) bay_words b t fits inside

  -- words before the bay, and words after it
  pub take-put_bay : (n : ℕ) → n ≤ place_of i → take n (put_bay t i b) ≡ take n t
  unfolding put_bay
  take-put_bay = take_put (place_of i) bay_words b t fits inside

  pub drop-put_bay : (n : ℕ) → place_of i + bay_words ≤ n → drop n (put_bay t i b) ≡ drop n t
  unfolding put_bay
  drop-put_bay = drop-put (place_of i) bay_words b t fits inside

  before-bay : (j : ℕ) → j < i → bay_at (put_bay t i b) j ≡ bay_at t j
  unfolding bay_at put_bay
  before-bay j h = part-before (place_of i) bay_words b t fits inside (place_of j) bay_words (omega arith)

  after-bay : (j : ℕ) → i < j → bay_at (put_bay t i b) j ≡ bay_at t j
  unfolding bay_at put_bay
  after-bay j h = part-after (place_of i) bay_words b t fits inside (place_of j) bay_words (omega arith)

  pub bay_at-other : (j : ℕ) → (j ≡ i → ⊥) → bay_at (put_bay t i b) j ≡ bay_at t j
  bay_at-other j ne = go (dec_lt j i)
    where
      go : Dec (j < i) → bay_at (put_bay t i b) j ≡ bay_at t j
      go (yes h) = before-bay j h
      go (no h) = after-bay j (omega arith)

  pub put_bay-header : (k : ℕ) → k < first_bay → get_or (put_bay t i b) k 0 ≡ get_or t k 0
  put_bay-header k h =
      sym (get_or-take first_bay (put_bay t i b) k 0 h)
      ∙ ap (λ (l : List ℕ). get_or l k 0) (take-put_bay first_bay (omega arith))
      ∙ get_or-take first_bay t k 0 h

  pub bays_of-put_bay : bays_of (put_bay t i b) ≡ bays_of t
  bays_of-put_bay = put_bay-header 0 (omega arith)

  pub headed-put_bay : headed (put_bay t i b) ≡ headed t
  headed-put_bay = headed-same (put_bay t i b) t length-put_bay put_bay-header

  -- the caller's words
  pub put_bay-past : i < bays_of t → drop (place_of (bays_of t)) (put_bay t i b) ≡ drop (place_of (bays_of t)) t
  put_bay-past h = drop-put_bay (place_of (bays_of t)) (omega arith)

pub below-put_bay : {m : ℕ} (t : List ℕ) (i : ℕ) (b : List ℕ) → Below m t → Below m b → Below m (put_bay t i b)
unfolding put_bay
below-put_bay t i b h k = below_put (place_of i) bay_words b t h k

-- the same words put back
pub put_bay-same : (t : List ℕ) (i : ℕ) → put_bay t i (bay_at t i) ≡ t
unfolding put_bay bay_at
put_bay-same t i = put_same (place_of i) bay_words t

-- ---- as the code has it: the part from the place `at` on lent, and come back

bay-at : (t : List ℕ) (i at : ℕ) → at ≡ place_of i → part t at (at + bay_words - at) ≡ bay_at t i
unfolding bay_at
bay-at t i at e = rw (add-sub_cancel_left at bay_words, e)

pub bay-back : (t b : List ℕ) (i at : ℕ) → at ≡ place_of i → put_part at (at + bay_words - at) b t ≡ put_bay t i b
unfolding put_bay
bay-back t b i at e = rw (add-sub_cancel_left at bay_words, e)

pub length-bay : (t : List ℕ) (i at : ℕ) → at ≡ place_of i → place_of i + bay_words ≤ length t →
    length (part t at (at + bay_words - at)) ≡ bay_words
length-bay t i at e h = ap length (bay-at t i at e) ∙ length-bay_at t i h
