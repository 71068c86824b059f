-- `run-words`: a call that is lent a table of words of 64 bits, and what a caller passes, leaves a table of such words.
use Prim.Native.Nat.{ℕ, zero, suc, ◌*◌, ◌^◌}
use mathlib.Core.Bool.{true}
use mathlib.Core.List.{List, [], ◌∷◌, ◌++◌}
use mathlib.Core.Path.{◌≡◌, refl}
use native.Mathlib.Omega.{arith}
use lib.ListN.{length, drop, replicate}
use borrow.Author.Tests.{not-false, leb-false}
use Rattle.answers.specs.Judged.{lent, first, after}
use Rattle.answers.proofs.Tests.{passed}
use Rattle.slices.specs.Below.{Below}
use Rattle.slices.proofs.Below.{below-nil, below-cons, below-append, below-drop, below-replicate}
use Rattle.fips.proofs.Sizes.{known_small}
use Rattle.fips.specs.Editions.{known}
use Rattle.halfread.specs.declared.HalfRead.{HalfRead}
use Rattle.halfread.specs.State.{Shaped}
use Rattle.halfread.proofs.Adding.{added-shaped}
use Rattle.halfread.proofs.Opening.{opened-shaped}
use Rattle.records.proofs.Records.{loaded-shaped}
use Rattle.bays.specs.Places.{place_of, bay_words, first_bay}
use Rattle.bays.specs.Table.{bays_of, room_for, headed, bay_at, put_bay, laid_out}
use Rattle.bays.specs.Bay.{bay_of, empty_bay}
use Rattle.bays.specs.Gate.{half_at}
use Rattle.bays.proofs.Frames.{room_of, bay-inside, length-bay_at, below-bay_at, below-put_bay}
use Rattle.bays.proofs.Packing.{below-bay_of, shaped-half_of}
use Rattle.calls.specs.Calls.{Call, lay_out, opening, adding, closing, saving, loading, asking, dropping, output_of, Passed, tests}
use Rattle.calls.specs.Calls.{leaves, run}

module _ (t : List ℕ) (words : Below (2 ^ 64) t) where
  laid-words : (n : ℕ) → room_for n (length t) ≡ true → Below (2 ^ 64) (laid_out n t)
  unfolding laid_out
  laid-words n room =
      let tail = replicate {A = ℕ} (bay_words * n) 0 ++ drop (place_of n) t in
      below-append (n ∷ first_bay ∷ bay_words ∷ 0 ∷ []) tail
      (below-cons {x = n} (first_bay ∷ bay_words ∷ 0 ∷ []) (omega (arith, room_of n (length t) room))
      (below-cons {x = first_bay} (bay_words ∷ 0 ∷ []) (omega arith)
      (below-cons {x = bay_words} (0 ∷ []) (omega arith) (below-cons {x = 0} [] (omega arith) (below-nil (2 ^ 64) (omega arith))))))
      (below-append (replicate (bay_words * n) 0) (drop (place_of n) t) (below-replicate (bay_words * n) (omega arith))
      (below-drop (place_of n) t words))

  put-words : (i : ℕ) (h : HalfRead) → Shaped h → Below (2 ^ 64) (put_bay t i (bay_of h))
  put-words i h s = below-put_bay t i (bay_of h) words (below-bay_of h s)

  emptied : (i : ℕ) → Below (2 ^ 64) (put_bay t i empty_bay)
  emptied i = below-put_bay t i empty_bay words (below-replicate bay_words (omega arith))

  -- where nothing refuses
  left-words : (c : Call) → Passed c → first (tests t c) ≡ 0 → Below (2 ^ 64) (leaves t c).table
  unfolding tests leaves
  left-words (lay_out n) g z = laid-words n (not-false (room_for n (length t)) (passed (tests t (lay_out n)) tt z 0))
  left-words (opening i e) g z =
      let k = not-false (known e) (passed (tests t (opening i e)) tt z 2) in
      put-words i _ (opened-shaped e (omega (arith, known_small e k)))
  left-words (adding i piece) g z =
      let at = passed (tests t (adding i piece)) tt z in
      let inside = bay-inside t i (not-false (headed t) (at 0)) (leb-false (bays_of t) i (at 1)) in
      let shaped = shaped-half_of (bay_at t i) (length-bay_at t i inside) (below-bay_at t i words) in
      put-words i _ (added-shaped (half_at t i) shaped piece g (at 4))
  left-words (closing i x b out) g z = emptied i
  left-words (saving i out) g z = words
  left-words (loading i bytes) g z = put-words i _ (loaded-shaped bytes g)
  left-words (asking i) g z = words
  left-words (dropping i) g z = emptied i

  pub run-words : (c : Call) → Passed c → Below (2 ^ 64) (run t c).table
  unfolding run
  run-words c g = go (first (tests t c)) (left-words c g)
    where
      go : (n : ℕ) → (n ≡ 0 → Below (2 ^ 64) (leaves t c).table) → Below (2 ^ 64) (after n (lent t (output_of c)) (leaves t c)).table
      go zero d = d refl
      go (suc n) d = words
