-- The calls on a stream in lent words, their refusals in their order and what they leave: SPEC, "Tree over a stream". Too few words hold no
-- stream, sound or not.
use Rattle.std.specs.Prelude.{ℕ, ◌^◌, List, [], ◌∷◌, ltb, length}
use Rattle.answers.specs.Judged.{Test, ◌when◌, Judged}
use Rattle.slices.specs.AtFront.{at_front}
use Rattle.slices.specs.Below.{Below, Bytes}
use Rattle.stream.specs.State.{begun}
use Rattle.stream.specs.Steps as step
use Rattle.streamwords.specs.Words.{stream_words, stream_in, words_of}

module _ (ws : List ℕ) where
  -- ---- begin: 9

  unfoldable pub begin_tests : List Test
  begin_tests = 9 when ltb (length ws) stream_words ∷ []

  abbrev pub Begins : ℕ → List ℕ → Type 0
  Begins n left = Judged begin_tests ws (at_front (words_of begun) ws) n left

  -- ---- add: 6, 7

  unfoldable pub add_tests : List ℕ → List Test
  add_tests piece = 6 when ltb (length ws) stream_words ∷ step.add_tests (stream_in ws) piece

  -- what is lent: words of 64 bits, and a piece of bytes. The types of the function see to it, and it hands it on in its contract
  abbrev pub LendsPiece : List ℕ → Type 0
  LendsPiece piece = Below (2 ^ 64) ws × Bytes piece

  -- the words of the new stream at the front, and those behind them as they were
  abbrev pub Adds : List ℕ → ℕ → List ℕ → Type 0
  Adds piece n left = Judged (add_tests piece) ws (at_front (words_of (step.added (stream_in ws) piece)) ws) n left

  -- ---- root: 6, 9

  unfoldable pub root_tests : List ℕ → List Test
  root_tests out = 6 when ltb (length ws) stream_words ∷ step.root_tests (stream_in ws) out

  abbrev pub Roots : List ℕ → ℕ → List ℕ → Type 0
  Roots out n left = Judged (root_tests out) out (at_front (step.stream_root (stream_in ws)) out) n left
