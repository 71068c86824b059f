-- `bigendian::put_words` meets its contract. The invariant: of the words that find room the first i stand at the front of d, in `at` bytes,
-- the rest of d is as it was, and there is room for those that are left.
use mathlib.Core.Path.{◌≡◌}
use mathlib.Core.List.{List, ◌++◌}
use Prim.Native.Nat.{ℕ, ◌+◌, ◌-◌, ◌*◌, ◌≤◌}
use lib.ListN.{length, take, drop}
use Rattle.bigendian.specs.Words.{from_words}
use Rattle.bigendian.proofs.put_words.Given as goal

pub record Written (d₀ words : List ℕ) (n : ℕ) (d : List ℕ) (at i : ℕ) : Type 0 where
  pub within : i ≤ length words
  pub place : at ≡ i * n
  pub space : at + (length words - i) * n ≤ length d₀
  pub bytes : d ≡ from_words n (take i words) ++ drop at d₀

abbrev pub invariant-loop-word : goal.invariant-loop-word
invariant-loop-word l = Written l.initial.d (take l.m l.words) l.n l.d l.at l.word-index
