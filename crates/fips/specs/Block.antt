-- One block: FIPS 180-4 §6.2.2 and §6.4.2, SPEC, "One block". The chaining words H are a list of eight, and so are the letters
-- a to h; a block m is a list of sixteen words, W the schedule, K the round constants.
use Rattle.std.specs.Prelude.{ℕ, zero, suc, ◌-◌, cond, ltb, get_or}
use mathlib.Core.List.{List, [], ◌∷◌, ◌++◌, zip_with}
use Rattle.fips.specs.Words.{Width, add, ch, maj, big0, big1, small0, small1}

module _ (p : Width) where
  -- step 1: W_t, from the block and the words before it
  unfoldable pub next : List ℕ → ℕ → List ℕ → ℕ
  next m t W =
      cond (ltb t 16) (get_or m t 0)
      (add p (add p (add p (small1 p (get_or W (t - 2) 0)) (get_or W (t - 7) 0)) (small0 p (get_or W (t - 15) 0))) (get_or W (t - 16) 0))

  -- the first t words of the schedule
  unfoldable pub schedule : List ℕ → ℕ → List ℕ
  schedule m zero = []
  schedule m (suc t) = let W = schedule m t in W ++ (next m t W ∷ [])

  -- step 3: one round on the letters, with K_t and W_t
  abbrev pub T1 : ℕ → ℕ → List ℕ → ℕ
  T1 k w s =
      add p (add p (add p (add p (get_or s 7 0) (big1 p (get_or s 4 0))) (ch p (get_or s 4 0) (get_or s 5 0) (get_or s 6 0))) k) w

  abbrev pub T2 : List ℕ → ℕ
  T2 s = add p (big0 p (get_or s 0 0)) (maj p (get_or s 0 0) (get_or s 1 0) (get_or s 2 0))

  unfoldable pub round : ℕ → ℕ → List ℕ → List ℕ
  round k w s =
      let t1 = T1 k w s in
      add p t1 (T2 s)
      ∷ get_or s 0 0 ∷ get_or s 1 0 ∷ get_or s 2 0 ∷ add p (get_or s 3 0) t1 ∷ get_or s 4 0 ∷ get_or s 5 0 ∷ get_or s 6 0 ∷ []

  -- t rounds
  unfoldable pub rounds : List ℕ → List ℕ → ℕ → List ℕ → List ℕ
  rounds K W zero s = s
  rounds K W (suc t) s = round (get_or K t 0) (get_or W t 0) (rounds K W t s)

  -- steps 1 to 4: the next chaining words
  unfoldable pub block : List ℕ → List ℕ → List ℕ → List ℕ
  block K H m = zip_with (add p) (rounds K (schedule m p.rounds) p.rounds H) H

  -- the block rule over blocks in order
  unfoldable pub blocks : List ℕ → List ℕ → List (List ℕ) → List ℕ
  blocks K H [] = H
  blocks K H (m ∷ ms) = blocks K (block K H m) ms
