-- The calls on lent words judged by the calls on the stream that they hold: `add-refused`, `add_done` and `root-judged`. Too few words are
-- refused before, `too_few`.
use Prim.Native.Nat.{ℕ, ◌≤◌, ◌<◌}
use mathlib.Core.List.{List, [], ◌∷◌}
use mathlib.Core.Path.{◌≡◌, refl, ap, subst, ◌∙◌}
use borrow.Author.Tests.{lt-ltb, le-ltb}
use lib.Dec.{ltb}
use lib.ListN.{length}
use Rattle.std.specs.Result.{IsErrAnd}
use Rattle.answers.specs.declared.Refusal.{Refusal}
use Rattle.answers.specs.Judged.{Test, ◌when◌, Judged, first}
use Rattle.answers.specs.Numbers.{Answer, number_of, refusal_number}
use Rattle.answers.proofs.Outcome.{done}
use Rattle.answers.proofs.Refusals.{went_on, zero-first, zero-leaves, passed-keeps}
use Rattle.slices.specs.AtFront.{at_front}
use Rattle.stream.specs.declared.Stream.{Stream}
use Rattle.stream.specs.Steps as step
use Rattle.streamwords.specs.Words.{stream_words, stream_in, words_of}
use Rattle.streamwords.specs.Calls.{add_tests, Adds, root_tests, Roots}

-- too few words hold no stream
abbrev few : List ℕ → Test
few ws = 6 when ltb (length ws) stream_words

pub too_few : (ws : List ℕ) (tests : List Test) {x : Refusal} → (length ws < stream_words) × (x ≡ Refusal.NotSound) →
    refusal_number x ≡ first (few ws ∷ tests)
unfolding first
too_few ws tests (short, is) = ap refusal_number is ∙ rw (lt-ltb (length ws) stream_words short)

module _ (ws : List ℕ) (enough : stream_words ≤ length ws) where
  passes : first (few ws ∷ []) ≡ 0
  unfolding first
  passes = rw (le-ltb (length ws) stream_words enough)

  -- past that test the stream decides
  on : {A : Type 0} {old new left : A} {n : ℕ} (tests : List Test) → Judged tests old new n left →
      Judged (few ws ∷ tests) old new n left
  on tests j = went_on (few ws ∷ []) tests tt passes j

  module _ (piece : List ℕ) {u : Stream} (holds : u ≡ stream_in ws) where
    abbrev Added : Stream → ℕ → Stream → Type 0
    Added s n left = Judged (step.add_tests s piece) s (step.added s piece) n left

    there : {n : ℕ} {left : Stream} → Added u n left → Added (stream_in ws) n left
    there {n} {left} j = subst (λ (s : Stream). Added s n left) holds j

    -- a `?` hands on the refusal that the stream met
    pub add-refused : (r : Answer) (x : Refusal) → IsErrAnd r (λ y. y ≡ x) → {left : Stream} → Added u (refusal_number x) left →
        Adds ws piece (number_of r) ws
    unfolding add_tests
    add-refused r x is j = on (step.add_tests (stream_in ws) piece) (passed-keeps r x is (there j).answer)

    pub add_done : {left : Stream} {after : List ℕ} → Added u 0 left → after ≡ at_front (words_of left) ws → Adds ws piece 0 after
    unfolding add_tests
    add_done j is_after =
        on (step.add_tests (stream_in ws) piece)
        (done (zero-first (there j) refl)
        (is_after ∙ ap (λ (s : Stream). at_front (words_of s) ws) (zero-leaves (there j) refl)))

  pub root-judged : (out : List ℕ) {u : Stream} {n : ℕ} {left : List ℕ} → u ≡ stream_in ws →
      Judged (step.root_tests u out) out (at_front (step.stream_root u) out) n left → Roots ws out n left
  unfolding root_tests
  root-judged out {u} {n} {left} holds j =
      on (step.root_tests (stream_in ws) out)
      (subst (λ (s : Stream). Judged (step.root_tests s out) out (at_front (step.stream_root s) out) n left) holds j)
