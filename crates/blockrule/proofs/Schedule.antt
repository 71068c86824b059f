-- The schedule, filled word by word: FIPS 180-4 §6.2.2 and §6.4.2, step 1.
-- Main statements: `schedule-begun`, the block in front, and `schedule-more-8`, eight words more.
use Prim.Native.Nat.{ℕ, zero, suc, ◌+◌, ◌-◌, ◌≤◌, ◌<◌}
use mathlib.Core.List.{List, [], ◌∷◌, ◌++◌}
use mathlib.Core.Path.{◌≡◌, refl, sym, ◌∙◌}
use native.Mathlib.Omega.{arith}
use borrow.Author.Tests.{lt-ltb, le-ltb}
use lib.ListN.{length, get_or, set, take}
use lib.Seq.{take-suc, take_all, get_or-take}
use Rattle.fips.specs.Words.{Width, add, small0, small1}
use Rattle.fips.specs.Block.{next, schedule}
use Rattle.slices.proofs.Fill.{Filled, fill_more}

module _ (p : Width) (m : List ℕ) where
  -- below 16 the next word is the block's
  pub next-first : (t : ℕ) (W : List ℕ) → t < 16 → next p m t W ≡ get_or m t 0
  unfolding next
  next-first t W h = rw (lt-ltb t 16 h)

  -- from 16 on it is the recurrence
  pub next-later : (t : ℕ) (W : List ℕ) → 16 ≤ t
      → next p m t W
      ≡ add p (add p (add p (small1 p (get_or W (t - 2) 0)) (get_or W (t - 7) 0)) (small0 p (get_or W (t - 15) 0))) (get_or W (t - 16) 0)
  unfolding next
  next-later t W h = rw (le-ltb t 16 h)

  -- which looks only at the words before it
  pub next-take : (t : ℕ) (W : List ℕ) → 16 ≤ t → next p m t (take t W) ≡ next p m t W
  next-take t W h =
      let seen : (d : ℕ) → 0 < d → d ≤ 16 → get_or (take t W) (t - d) 0 ≡ get_or W (t - d) 0 = λ d a b. get_or-take t W (t - d) 0
      (omega arith) in
      rw (
        next-later t (take t W) h,
        next-later t W h,
        seen 2 (omega arith) (omega arith),
        seen 7 (omega arith) (omega arith),
        seen 15 (omega arith) (omega arith),
        seen 16 (omega arith) (omega arith),
      )

  pub schedule-suc : (t : ℕ) → schedule p m (suc t) ≡ schedule p m t ++ (next p m t (schedule p m t) ∷ [])
  unfolding schedule
  schedule-suc t = refl

  pub schedule-first : (t : ℕ) → t ≤ 16 → t ≤ length m → schedule p m t ≡ take t m
  unfolding schedule
  schedule-first zero h k = refl
  schedule-first (suc t) h k =
      rw (next-first t (schedule p m t) h, take-suc m t 0 k, schedule-first t (omega arith) (omega arith))

  pub schedule-block : length m ≡ 16 → schedule p m 16 ≡ m
  schedule-block e = schedule-first 16 (omega arith) (omega arith) ∙ take_all 16 m (omega arith)

  module _ {size : ℕ} {w : List ℕ} where
    -- the block's words are in place
    pub schedule-begun : length m ≡ 16 → 16 ≤ size → length w ≡ size → take 16 w ≡ m → Filled size size (schedule p m) w 16
    schedule-begun e k l f = record { within = k; long = l; front = f ∙ sym (schedule-block e) }

    -- a store of the next word
    pub schedule-more : {t x : ℕ} → 16 ≤ t → t < size → x ≡ next p m t w → Filled size size (schedule p m) w t
        → Filled size size (schedule p m) (set w t x) (t + 1)
    schedule-more {t} {x} h k e f = fill_more x k (omega arith) (rw (schedule-suc t, ← f.front, next-take t w h, e)) f

  -- ---- eight words at a time

  word_at : {size : ℕ} (w : List ℕ) {v : List ℕ} (i j : ℕ) → j ≡ i + 1 → 16 ≤ i → i < size → v ≡ set w i (next p m i w)
      → Filled size size (schedule p m) w i → Filled size size (schedule p m) v j
  word_at w i j e h k q f = rw (e, q) (schedule-more h k refl f)

  pub schedule-more-8 : (size : ℕ) (w : List ℕ) {w1 w2 w3 w4 w5 w6 w7 v : List ℕ} (t : ℕ) → 16 ≤ t → t + 8 ≤ size
      → w1 ≡ set w t (next p m t w)
      → w2 ≡ set w1 (t + 1) (next p m (t + 1) w1)
      → w3 ≡ set w2 (t + 2) (next p m (t + 2) w2)
      → w4 ≡ set w3 (t + 3) (next p m (t + 3) w3)
      → w5 ≡ set w4 (t + 4) (next p m (t + 4) w4)
      → w6 ≡ set w5 (t + 5) (next p m (t + 5) w5)
      → w7 ≡ set w6 (t + 6) (next p m (t + 6) w6)
      → v ≡ set w7 (t + 7) (next p m (t + 7) w7)
      → Filled size size (schedule p m) w t → Filled size size (schedule p m) v (t + 8)
  schedule-more-8 size w t h k e1 e2 e3 e4 e5 e6 e7 e8 f =
      let f1 = word_at _ t (t + 1) (omega arith) h (omega arith) e1 f in
      let f2 = word_at _ (t + 1) (t + 2) (omega arith) (omega arith) (omega arith) e2 f1 in
      let f3 = word_at _ (t + 2) (t + 3) (omega arith) (omega arith) (omega arith) e3 f2 in
      let f4 = word_at _ (t + 3) (t + 4) (omega arith) (omega arith) (omega arith) e4 f3 in
      let f5 = word_at _ (t + 4) (t + 5) (omega arith) (omega arith) (omega arith) e5 f4 in
      let f6 = word_at _ (t + 5) (t + 6) (omega arith) (omega arith) (omega arith) e6 f5 in
      let f7 = word_at _ (t + 6) (t + 7) (omega arith) (omega arith) (omega arith) e7 f6 in
      word_at _ (t + 7) (t + 8) (omega arith) (omega arith) (omega arith) e8 f7
