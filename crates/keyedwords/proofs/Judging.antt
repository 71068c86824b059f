-- The calls on lent words judged by the calls on the keyed hash: `start-refused`, `start-short` and `start-done`, which ask for the words
-- last, and `add-refused`, `add_done`, `tag-judged` and `check-judged`, where too few words are refused before, `too_few`.
use Prim.Native.Nat.{ℕ, ◌≤◌, ◌<◌}
use mathlib.Core.Bool.{false}
use mathlib.Core.List.{List, [], ◌∷◌}
use mathlib.Core.Path.{◌≡◌, refl, sym, ap, subst, ◌∙◌}
use borrow.Author.Tests.{lt-ltb, le-ltb}
use lib.Dec.{T, ltb}
use lib.ListN.{length}
use Rattle.std.specs.Result.{IsErrAnd}
use Rattle.answers.specs.declared.Refusal.{Refusal}
use Rattle.answers.specs.Judged.{Test, ◌when◌, Judged, first}
use Rattle.answers.specs.Numbers.{Answer, number_of, refusal_number}
use Rattle.answers.proofs.Outcome.{refused, done}
use Rattle.answers.proofs.Refusals.{went_on, zero-first, zero-leaves, passed-keeps, passed-stops}
use Rattle.answers.proofs.Tests.{refusing, first-skip}
use Rattle.slices.specs.AtFront.{at_front}
use Rattle.keyed.specs.declared.Keyed.{Keyed}
use Rattle.keyed.specs.State.{blank}
use Rattle.keyed.specs.Steps as step
use Rattle.keyedwords.specs.Words.{keyed_words, keyed_in, words_of}
use Rattle.keyedwords.specs.Calls.{start_tests, Starts, add_tests, Adds, tag_tests, Ends, check_tests}

-- too few words, whatever number that has
abbrev few : ℕ → List ℕ → Test
few n ws = n when ltb (length ws) keyed_words

-- ---- start

module _ (ws : List ℕ) (e : ℕ) (key : List ℕ) where
  abbrev Started : ℕ → Keyed → Type 0
  Started n left = Judged (step.start_tests e key) blank (step.started e key) n left

  asks : T (refusing (step.start_tests e key))
  unfolding step.start_tests
  asks = tt

  pub start-refused : (r : Answer) (x : Refusal) → IsErrAnd r (λ y. y ≡ x) → {left : Keyed} → Started (refusal_number x) left →
      Starts ws e key (number_of r) ws
  unfolding start_tests
  start-refused r x is j = passed-stops r x is (step.start_tests e key) (few 9 ws ∷ []) j.answer

  module _ {left : Keyed} (j : Started 0 left) where
    pub start-short : length ws < keyed_words → Starts ws e key 9 ws
    unfolding start_tests first
    start-short short =
        went_on (step.start_tests e key) (few 9 ws ∷ []) asks (zero-first j refl)
        (refused (rw (lt-ltb (length ws) keyed_words short)) tt refl)

    pub start-done : {after : List ℕ} → keyed_words ≤ length ws → after ≡ at_front (words_of left) ws → Starts ws e key 0 after
    unfolding start_tests first
    start-done enough is_after =
        went_on (step.start_tests e key) (few 9 ws ∷ []) asks (zero-first j refl)
        (done (rw (le-ltb (length ws) keyed_words enough))
        (is_after ∙ ap (λ (k : Keyed). at_front (words_of k) ws) (zero-leaves j refl)))

-- ---- the calls that need a keyed hash

-- too few words hold none
pub too_few : (ws : List ℕ) (tests : List Test) {x : Refusal} → (length ws < keyed_words) × (x ≡ Refusal.NotSound) →
    refusal_number x ≡ first (few 6 ws ∷ tests)
unfolding first
too_few ws tests (short, is) = ap refusal_number is ∙ rw (lt-ltb (length ws) keyed_words short)

module _ (ws : List ℕ) (enough : keyed_words ≤ length ws) where
  none-lack : ltb (length ws) keyed_words ≡ false
  none-lack = le-ltb (length ws) keyed_words enough

  passes : first (few 6 ws ∷ []) ≡ 0
  unfolding first
  passes = rw none-lack

  -- past that test the keyed hash decides
  on : {A : Type 0} {old new left : A} {n : ℕ} (tests : List Test) → Judged tests old new n left →
      Judged (few 6 ws ∷ tests) old new n left
  on tests j = went_on (few 6 ws ∷ []) tests tt passes j

  module _ (piece : List ℕ) {u : Keyed} (holds : u ≡ keyed_in ws) where
    abbrev Added : Keyed → ℕ → Keyed → Type 0
    Added k n left = Judged (step.add_tests k piece) k (step.added k piece) n left

    there : {n : ℕ} {left : Keyed} → Added u n left → Added (keyed_in ws) n left
    there {n} {left} j = subst (λ (k : Keyed). Added k n left) holds j

    pub add-refused : (r : Answer) (x : Refusal) → IsErrAnd r (λ y. y ≡ x) → {left : Keyed} → Added u (refusal_number x) left →
        Adds ws piece (number_of r) ws
    unfolding add_tests
    add-refused r x is j = on (step.add_tests (keyed_in ws) piece) (passed-keeps r x is (there j).answer)

    pub add_done : {left : Keyed} {after : List ℕ} → Added u 0 left → after ≡ at_front (words_of left) ws → Adds ws piece 0 after
    unfolding add_tests
    add_done j is_after =
        on (step.add_tests (keyed_in ws) piece)
        (done (zero-first (there j) refl)
        (is_after ∙ ap (λ (k : Keyed). at_front (words_of k) ws) (zero-leaves (there j) refl)))

  pub tag-judged : (out : List ℕ) {u : Keyed} {n : ℕ} {left : List ℕ} → u ≡ keyed_in ws →
      Judged (step.tag_tests u out) out (at_front (step.tag_of u) out) n left → Ends ws out n left
  unfolding tag_tests
  tag-judged out {u} {n} {left} holds j =
      on (step.tag_tests (keyed_in ws) out)
      (subst (λ (k : Keyed). Judged (step.tag_tests k out) out (at_front (step.tag_of k) out) n left) holds j)

  pub check-judged : (tag : List ℕ) {u : Keyed} {n : ℕ} → u ≡ keyed_in ws → n ≡ first (step.check_tests u tag) →
      n ≡ first (check_tests ws tag)
  unfolding check_tests
  check-judged tag holds e =
      e ∙ ap (λ (k : Keyed). first (step.check_tests k tag)) holds
      ∙ sym (first-skip (few 6 ws) (step.check_tests (keyed_in ws) tag) none-lack)
