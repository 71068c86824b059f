-- What a sound stream has: `Sound`, with its counts, `Counts`. And when it is sound, as the code asks it: the counts first, then zeros
-- behind the roots and behind the bytes (`bad-counts`, `bad-roots`, `by_bytes`).
use Prim.Native.Nat.{ℕ, zero, suc, ◌+◌, ◌-◌, ◌*◌, ◌<◌, ◌≤◌}
use mathlib.Core.Bool.{Bool, true, false, false≢true, cond, ◌||◌}
use mathlib.Core.List.{List, [], ◌∷◌, ◌++◌}
use mathlib.Core.Path.{◌≡◌, refl, sym, ap, ◌∙◌}
use native.Mathlib.Omega.{arith}
use borrow.Author.Tests.{leb-true, ltb-true, ltb-false, le-leb, lt-ltb, le-ltb, eqb-true, eq-eqb}
use lib.Count.{ones}
use lib.Dec.{ltb, eqb}
use lib.ListN.{length, get_or, drop}
use lib.Seq.{length-take-le}
use Rattle.slices.specs.Parts.{part}
use Rattle.slices.specs.Tests.{holds, all_zero}
use Rattle.slices.proofs.Parts.{part-all}
use Rattle.slices.proofs.Tests.{holds_at, at-holds, fails-at, holds_on, holds-last}
use Rattle.treerule.specs.Root.{chunk_bytes, node_bytes}
use Rattle.stream.specs.declared.Stream.{Stream}
use Rattle.stream.specs.State.{most_chunks, count_rules, bytes_of, rules, sound, Shaped}
use Rattle.stream.specs.Steps.{stream_limit}
use Rattle.stream.proofs.Limits.{few-roots}

-- ---- the counts

cond-true : (b : Bool) → cond b true false ≡ b
cond-true true = refl
cond-true false = refl

pub record Counts (chunks further : ℕ) : Type 0 where
  pub most : chunks ≤ most_chunks
  pub short : further < chunk_bytes
  pub limit : chunks * chunk_bytes + further ≤ stream_limit

at-limit : (n r : ℕ) (a b : Bool) → ltb n most_chunks ≡ a → eqb r 0 ≡ b → (a || b) ≡ true → n ≤ most_chunks → r < chunk_bytes →
    n * chunk_bytes + r ≤ stream_limit
at-limit n r true b e f h most short = omega (arith, ltb-true n most_chunks e)
at-limit n r false true e f h most short = omega (arith, eqb-true r 0 f)
at-limit n r false false e f h most short = absurd (false≢true h)

pub counts-hold : (n r : ℕ) → holds (count_rules n r) ≡ true → Counts n r
counts-hold n r h =
    let at = holds_at (count_rules n r) h in
    let most = leb-true n most_chunks (at 0) in
    let short = ltb-true r chunk_bytes (at 1) in
    record { most = most; short = short; limit = at-limit n r (ltb n most_chunks) (eqb r 0) refl refl (at 2) most short }

pub counts-below : (n r : ℕ) → n < most_chunks → r < chunk_bytes → holds (count_rules n r) ≡ true
unfolding holds
counts-below n r few short = rw (le-leb n most_chunks (omega arith), lt-ltb r chunk_bytes short, lt-ltb n most_chunks few)

pub counts-last : (n r : ℕ) → n ≤ most_chunks → most_chunks ≤ n → r < chunk_bytes → holds (count_rules n r) ≡ eqb r 0
unfolding holds
counts-last n r most last short =
    rw (le-leb n most_chunks most, lt-ltb r chunk_bytes short, le-ltb n most_chunks last) (cond-true (eqb r 0))

pub counts-within : (n r : ℕ) → r < chunk_bytes → n * chunk_bytes + r ≤ stream_limit → holds (count_rules n r) ≡ true
counts-within n r short limit = go (ltb n most_chunks) refl
  where
    go : (b : Bool) → ltb n most_chunks ≡ b → holds (count_rules n r) ≡ true
    go true e = counts-below n r (ltb-true n most_chunks e) short
    go false e =
        let last = ltb-false n most_chunks e in
        counts-last n r (omega arith) last short ∙ eq-eqb r 0 (omega arith)

-- ---- conditions in two runs

front-fails : (xs ys : List Bool) → holds xs ≡ false → holds (xs ++ ys) ≡ false
unfolding holds
front-fails [] ys e = absurd (false≢true (sym e))
front-fails (true ∷ xs) ys e = front-fails xs ys e
front-fails (false ∷ xs) ys e = refl

front-holds : (xs ys : List Bool) → holds xs ≡ true → holds (xs ++ ys) ≡ holds ys
unfolding holds
front-holds [] ys e = refl
front-holds (true ∷ xs) ys e = front-holds xs ys e
front-holds (false ∷ xs) ys e = absurd (false≢true e)

-- ---- a sound stream

module _ (s : Stream) where
  -- zeros behind the roots, and behind the bytes
  abbrev zeros_behind : List Bool
  zeros_behind = all_zero (drop (ones s.chunks * node_bytes) s.roots) ∷ all_zero (drop s.further s.bytes) ∷ []

  pub record Sound : Type 0 where
    pub counts : Counts s.chunks s.further
    pub few : ones s.chunks ≤ 32
    pub roots_end : all_zero (drop (ones s.chunks * node_bytes) s.roots) ≡ true
    pub bytes_end : all_zero (drop s.further s.bytes) ≡ true

  pub sound-has : sound s ≡ true → Sound
  unfolding sound
  sound-has h =
      let at = holds_at (rules s) h in
      let counts = counts-hold s.chunks s.further (at-holds (count_rules s.chunks s.further) (first_three at)) in
      record { counts = counts; few = few-roots s.chunks counts.most; roots_end = at 3; bytes_end = at 4 }
    where
      first_three : ((i : ℕ) → get_or (rules s) i true ≡ true) → (i : ℕ) → get_or (count_rules s.chunks s.further) i true ≡ true
      first_three at zero = at 0
      first_three at (suc zero) = at 1
      first_three at (suc (suc zero)) = at 2
      first_three at (suc (suc (suc i))) = refl

  -- named to the check in `root_of`, where the bytes of the begun chunk are lent
  pub further_within : sound s ≡ true → s.further ≤ chunk_bytes
  further_within ok = omega (arith, (sound-has ok).counts.short)

  pub length-further : Shaped s → sound s ≡ true → length (bytes_of s) ≡ s.further
  length-further shape ok = length-take-le s.further s.bytes (omega (arith, shape.bytes, (sound-has ok).counts.short))

  -- ---- as it is asked: the counts, then the zeros

  pub bad-counts : holds (count_rules s.chunks s.further) ≡ false → sound s ≡ false
  unfolding sound
  bad-counts e = front-fails (count_rules s.chunks s.further) zeros_behind e

  pub bad-roots : holds (count_rules s.chunks s.further) ≡ true → all_zero (drop (ones s.chunks * node_bytes) s.roots) ≡ false →
      sound s ≡ false
  unfolding sound
  bad-roots e f = front-holds (count_rules s.chunks s.further) zeros_behind e ∙ fails-at zeros_behind 0 f

  pub by_bytes : holds (count_rules s.chunks s.further) ≡ true → all_zero (drop (ones s.chunks * node_bytes) s.roots) ≡ true →
      sound s ≡ all_zero (drop s.further s.bytes)
  unfolding sound
  by_bytes e f =
      let last = all_zero (drop s.further s.bytes) ∷ [] in
      front-holds (count_rules s.chunks s.further) zeros_behind e
      ∙ holds_on (all_zero (drop (ones s.chunks * node_bytes) s.roots)) last f
      ∙ holds-last (all_zero (drop s.further s.bytes))

-- zeros behind a place, asked of the part that ends where the room does
pub zeros-asked : (room at : ℕ) (xs : List ℕ) {k : ℕ} {z : Bool} → length xs ≡ room → at ≡ k → z ≡ all_zero (part xs at (room - at)) →
    z ≡ all_zero (drop k xs)
zeros-asked room at xs long e is_z =
    is_z ∙ ap (λ (n : ℕ). all_zero (part xs at (n - at))) (sym long) ∙ ap all_zero (part-all at xs) ∙ ap (λ (n : ℕ). all_zero (drop n xs)) e
