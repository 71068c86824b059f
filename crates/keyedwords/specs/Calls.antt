-- The calls on a keyed hash in lent words, their refusals in their order and what they leave: SPEC, "Keyed digests". Too few words hold no
-- keyed hash, sound or not.
use Rattle.std.specs.Prelude.{ℕ, ◌^◌, List, [], ◌∷◌, ◌++◌, ltb, length}
use Rattle.answers.specs.Judged.{Test, ◌when◌, Judged}
use Rattle.slices.specs.AtFront.{at_front}
use Rattle.slices.specs.Below.{Below, Bytes}
use Rattle.keyed.specs.Steps as step
use Rattle.keyedwords.specs.Words.{keyed_words, keyed_in, words_of}

module _ (ws : List ℕ) where
  -- ---- start: 5, 7, 9

  unfoldable pub start_tests : ℕ → List ℕ → List Test
  start_tests e key = step.start_tests e key ++ (9 when ltb (length ws) keyed_words ∷ [])

  -- what is lent: words of 64 bits, and a key of bytes. The types of the function see to it, and it hands it on in its contract
  abbrev pub LendsKey : List ℕ → Type 0
  LendsKey key = Below (2 ^ 64) ws × Bytes key

  abbrev pub Starts : ℕ → List ℕ → ℕ → List ℕ → Type 0
  Starts e key n left = Judged (start_tests e key) ws (at_front (words_of (step.started e key)) ws) n left

  -- ---- add: 6, 7

  unfoldable pub add_tests : List ℕ → List Test
  add_tests piece = 6 when ltb (length ws) keyed_words ∷ step.add_tests (keyed_in ws) piece

  -- the same of a piece
  abbrev pub LendsPiece : List ℕ → Type 0
  LendsPiece piece = Below (2 ^ 64) ws × Bytes piece

  -- the words of the new keyed hash at the front, and those behind them as they were
  abbrev pub Adds : List ℕ → ℕ → List ℕ → Type 0
  Adds piece n left = Judged (add_tests piece) ws (at_front (words_of (step.added (keyed_in ws) piece)) ws) n left

  -- ---- end, written: 6, 9; and compared: 6, 14

  unfoldable pub tag_tests : List ℕ → List Test
  tag_tests out = 6 when ltb (length ws) keyed_words ∷ step.tag_tests (keyed_in ws) out

  abbrev pub Ends : List ℕ → ℕ → List ℕ → Type 0
  Ends out n left = Judged (tag_tests out) out (at_front (step.tag_of (keyed_in ws)) out) n left

  unfoldable pub check_tests : List ℕ → List Test
  check_tests tag = 6 when ltb (length ws) keyed_words ∷ step.check_tests (keyed_in ws) tag
