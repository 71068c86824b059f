-- `bays::in_place::words_at` meets its contract: the array that is lent at the bay's place is the bay. Assumes nothing.
use Prim.Native.Nat.{ℕ, ◌-◌}
use mathlib.Core.List.{List}
use mathlib.Core.Path.{◌≡◌, ap, subst, ◌∙◌}
use native.Mathlib.Omega.{arith}
use denote.Ref.{Bor}
use lib.ListN.{take, drop, length, length-drop}
use lib.Seq.{take_all}
use Rattle.std.specs.Prelude.{Option, Some}
use Rattle.std.specs.Option.{MatchOption}
use Rattle.std.specs.Array.{IsFirstChunk}
use Rattle.bays.specs.Places.{bay_words, place_of}
use Rattle.bays.specs.Table.{bay_at}
use Rattle.bays.proofs.in_place.words_at.Goals as goal

chunk : (P : Type 0) (s : List ℕ) {b : List ℕ} (o : Option (Bor (List ℕ))) (w : Bor (List ℕ)) → o ≡ Some w → take bay_words s ≡ b →
    MatchOption o P (λ y. IsFirstChunk s y.now bay_words) → w.now ≡ b
chunk P s o w e p h = (subst (λ (x : Option (Bor (List ℕ))). MatchOption x P (λ y. IsFirstChunk s y.now bay_words)) e h).same ∙ p

-- from the bay's place on, all is lent
front : (t : List ℕ) (i : ℕ) {at : ℕ} → at ≡ place_of i → take bay_words (take (length t - at) (drop at t)) ≡ bay_at t i
unfolding bay_at
front t i {at} e =
    ap (take bay_words) (take_all (length t - at) (drop at t) (omega (arith, length-drop at t)))
    ∙ ap (λ (k : ℕ). take bay_words (drop k t)) e

pub returns-clause-value : goal.returns-clause-value
returns-clause-value c =
    chunk _ _ c.first_chunk.result c.unwrap.result c.unwrap.ensures (front _ _ c.in_ok-at.ensures.value.0) c.first_chunk.ensures.cases
