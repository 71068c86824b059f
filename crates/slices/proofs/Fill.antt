-- An array that a loop fills from the front: what stands before t is the list of t that belongs there.
-- Main statements: `fill_more`, one store more, and `fill-all`, all places filled. `map_more`: a list of which each element is changed,
-- one more of them.
use Prim.Native.Nat.{ℕ, suc, ◌+◌, ◌≤◌, ◌<◌}
use mathlib.Core.List.{List, [], ◌∷◌, ◌++◌, map, map-append}
use mathlib.Core.Path.{◌≡◌, ap, ◌∙◌}
use native.Mathlib.Numerals.{add-one}
use native.Mathlib.Omega.{arith}
use lib.ListN.{length, get_or, set, take, length-set}
use lib.Seq.{take-suc, take-suc-set, take_all}

-- w has `size` places, of which the first t, at most `last`, hold W t
pub record Filled (size last : ℕ) (W : ℕ → List ℕ) (w : List ℕ) (t : ℕ) : Type 0 where
  pub within : t ≤ last
  pub long : length w ≡ size
  pub front : take t w ≡ W t

module _ {size last : ℕ} {W : ℕ → List ℕ} {w : List ℕ} {t : ℕ} where
  pub fill_more : (x : ℕ) → t < last → last ≤ size → W (suc t) ≡ W t ++ (x ∷ []) → Filled size last W w t
      → Filled size last W (set w t x) (t + 1)
  fill_more x h k e f =
      let inside : t < length w = omega arith in
      rw add-one
      (record {
        within = h;
        long = length-set w t x ∙ f.long;
        front = rw (take-suc-set w t x inside, f.front, e);
      })

  pub fill-front : last ≤ t → Filled size last W w t → take last w ≡ W last
  fill-front h f =
      let e : t ≡ last = omega arith in
      rw e at f.front

pub fill-all : {size : ℕ} {W : ℕ → List ℕ} {w : List ℕ} {t : ℕ} → size ≤ t → Filled size size W w t → w ≡ W size
fill-all {size} {W} {w} h f = rw (take_all size w (omega arith)) at (fill-front h f)

pub map_more : (f : ℕ → ℕ) (xs : List ℕ) (t : ℕ) → t < length xs → map f (take (suc t) xs) ≡ map f (take t xs) ++ (f (get_or xs t 0) ∷ [])
map_more f xs t h = ap (map f) (take-suc xs t 0 h) ∙ map-append f (take t xs) (get_or xs t 0 ∷ [])
