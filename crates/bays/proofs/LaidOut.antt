-- A table laid out: its header is in order, `headed-laid_out`, every bay is empty, `bay_at-laid_out`, the length and the caller's words are
-- as
-- they were, `length-laid_out` and `laid_out-past`.
use Prim.Native.Nat.{ℕ, ◌+◌, ◌-◌, ◌*◌, ◌<◌, ◌≤◌}
use mathlib.Core.Bool.{true}
use mathlib.Core.List.{List, [], ◌∷◌, ◌++◌, append_assoc}
use mathlib.Core.Path.{◌≡◌, refl, ap, ◌∙◌}
use native.Mathlib.Nat.{add-sub_cancel_left}
use native.Mathlib.Omega.{arith}
use lib.ListN.{length, take, drop, set, replicate, length-append, length-take, length-drop, length-set}
use lib.ListN.{length-replicate, replicate-append-replicate}
use lib.Seq.{take_at, drop_at, drop-drop, drop-append-add}
use Rattle.bays.specs.Places.{first_bay, bay_words, place_of}
use Rattle.bays.specs.Table.{bays_of, room_for, headed, bay_at, laid_out}
use Rattle.bays.specs.Bay.{empty_bay}
use Rattle.bays.proofs.Frames.{room_of, headed-of}

abbrev head : ℕ → List ℕ
head n = n ∷ first_bay ∷ bay_words ∷ 0 ∷ []

abbrev zeros : ℕ → List ℕ
zeros n = replicate n 0

module _ (n : ℕ) (t : List ℕ) where
  pub bays_of-laid_out : bays_of (laid_out n t) ≡ n
  unfolding laid_out
  bays_of-laid_out = refl

  pub length-laid_out : place_of n ≤ length t → length (laid_out n t) ≡ length t
  unfolding laid_out
  length-laid_out h = simp (length-append, length-replicate, length-drop) (omega arith)

  pub headed-laid_out : room_for n (length t) ≡ true → headed (laid_out n t) ≡ true
  unfolding laid_out
  headed-laid_out e =
      headed-of (laid_out n t) (ap (room_for n) (length-laid_out (room_of n (length t) e).within) ∙ e) refl refl refl

  -- behind the header
  drop_head : (m : ℕ) → drop (first_bay + m) (laid_out n t) ≡ drop m (zeros (bay_words * n) ++ drop (place_of n) t)
  unfolding laid_out
  drop_head m = drop-append-add (head n) (zeros (bay_words * n) ++ drop (place_of n) t) m

  pub laid_out-past : drop (place_of n) (laid_out n t) ≡ drop (place_of n) t
  laid_out-past =
      drop_head (bay_words * n)
      ∙ drop_at (zeros (bay_words * n)) (drop (place_of n) t) (bay_words * n) (length-replicate (bay_words * n) 0)

  zeros-apart : (i : ℕ) → i < n →
      zeros (bay_words * n) ≡ zeros (bay_words * i) ++ (zeros bay_words ++ zeros (bay_words * (n - i - 1)))
  zeros-apart i h =
      let e : bay_words * n ≡ bay_words * i + (bay_words + bay_words * (n - i - 1)) = omega arith in
      rw (
        e,
        ← replicate-append-replicate {A = ℕ} (bay_words * i) (bay_words + bay_words * (n - i - 1)) 0,
        ← replicate-append-replicate {A = ℕ} bay_words (bay_words * (n - i - 1)) 0,
      )

  pub bay_at-laid_out : (i : ℕ) → i < n → bay_at (laid_out n t) i ≡ empty_bay
  unfolding bay_at
  bay_at-laid_out i h =
      let after = zeros (bay_words * (n - i - 1)) in
      let rest = drop (place_of n) t in
      rw (
        drop_head (bay_words * i),
        zeros-apart i h,
        append_assoc (zeros (bay_words * i)) (empty_bay ++ after) rest,
        drop_at (zeros (bay_words * i)) (empty_bay ++ after ++ rest) (bay_words * i) (length-replicate (bay_words * i) 0),
      )
      (take_at empty_bay (after ++ rest) bay_words refl)

-- ---- as the code has it: four words set, and the part behind them lent and come back as zeros

-- the header's words set one after the other
abbrev head_set : ℕ → List ℕ → List ℕ
head_set n t = set (set (set (set t 0 n) 1 first_bay) 2 bay_words) 3 0

head-set : (t : List ℕ) (n : ℕ) → first_bay ≤ length t →
    (take first_bay (head_set n t) ≡ head n) × (drop first_bay (head_set n t) ≡ drop first_bay t)
head-set [] n h = absurd (omega arith)
head-set (a ∷ []) n h = absurd (omega arith)
head-set (a ∷ b ∷ []) n h = absurd (omega arith)
head-set (a ∷ b ∷ c ∷ []) n h = absurd (omega arith)
head-set (a ∷ b ∷ c ∷ d ∷ t) n h = (refl, refl)

module _ (t : List ℕ) (n : ℕ) (room : place_of n ≤ length t) where
  abbrev begun : List ℕ
  begun = head_set n t

  pub begun-room : place_of n ≤ length begun
  begun-room = simp length-set room

  pub laid_out_lem : (new : List ℕ) → new ≡ zeros (length (take (place_of n - first_bay) (drop first_bay begun))) →
      take first_bay begun ++ (new ++ drop (place_of n - first_bay) (drop first_bay begun)) ≡ laid_out n t
  unfolding laid_out
  laid_out_lem new e =
      let set4 = head-set t n (omega arith) in
      let long : length (take (place_of n - first_bay) (drop first_bay begun)) ≡ bay_words * n =
      simp (length-take, length-drop) (omega (arith, begun-room)) in
      rw (e, long, set4.0, set4.1, add-sub_cancel_left first_bay (bay_words * n), drop-drop (bay_words * n) first_bay t)
