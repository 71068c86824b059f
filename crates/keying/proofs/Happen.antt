-- The theorems about keyed hashes are not about nothing: for every edition, key and list of pieces within the limits there are calls that
-- start a keyed hash and take the pieces one after the other, by value (`hmac-happens`) and in any lent words that are enough
-- (`c-hmac-happens`).
use Prim.Native.Nat.{ℕ, ◌^◌, ◌≤◌}
use mathlib.Core.Bool.{false}
use mathlib.Core.List.{List, [], ◌∷◌, ◌++◌, flatten, append_assoc, append-nil}
use mathlib.Core.Path.{◌≡◌, refl, sym, ap, subst, ◌∙◌}
use native.Mathlib.Omega.{arith}
use borrow.Author.Tests.{le-ltb}
use denote.Ref.{Bor, MutBor}
use lib.ListN.{length, length-append}
use Rattle.std.specs.Prelude.{Ok}
use Rattle.answers.specs.Judged.{first}
use Rattle.answers.proofs.Outcome.{done}
use Rattle.slices.specs.AtFront.{at_front}
use Rattle.slices.specs.Below.{Below, Bytes}
use Rattle.slices.proofs.AtFront.{below-front}
use Rattle.fips.proofs.Sizes.{known_small}
use Rattle.dwsha2.specs.Limit.{too_long}
use Rattle.dwsha2.proofs.Limits.{shorter}
use Rattle.hmac.specs.Hmac.{B}
use Rattle.keyed.specs.declared.Keyed.{Keyed}
use Rattle.keyed.specs.Steps as step
use Rattle.keyed.specs.Steps.{started, added}
use Rattle.keyed.proofs.Adding.{started-shaped, added-shaped}
use Rattle.keyedwords.specs.Words.{keyed_words, keyed_in, words_of}
use Rattle.keyedwords.specs.Calls.{start_tests}
use Rattle.keyedwords.proofs.Packing.{words-below}
use Rattle.keying.specs.ByValue.{Taken, started-by, added-by}
use Rattle.keying.specs.InC.{Lent, started-in, added-in}
use Rattle.keying.proofs.Passing.{StartPasses, start-passes, AddPasses, add-passes}
use Rattle.keying.proofs.Leading.{Leads, leads-sound, leads-shaped, room-left}
use Rattle.keying.proofs.Pieces.{leads}
use Rattle.keying.proofs.CCalls.{add-tests}
use Rattle.keying.proofs.CPieces.{c-leads}

-- a slice somewhere
slice : List ℕ → Bor (List ℕ)
slice xs = record { ref_ptr = (0, 0); now = xs }

-- the same lent to be written
lent_slice : List ℕ → MutBor (List ℕ)
lent_slice xs = record { ref_ptr = (0, 0); ghost_name = 0; now = xs }

abbrev pub AllBytes : List (List ℕ) → Type 0
AllBytes [] = Unit {0}
AllBytes (p ∷ ps) = Bytes p × AllBytes ps

-- a piece on what a key and a message led to is done
next-passes : {e : ℕ} {key all : List ℕ} {k : Keyed} → Leads e key all k → (piece : List ℕ) →
    too_long e (B e) (length (all ++ piece)) ≡ false → AddPasses k piece
next-passes l piece short = record { ok = leads-sound l; within = room-left l piece ∙ short }

module _ (e : ℕ) (key : List ℕ) (pass : StartPasses e key) (small : Bytes key) where
  -- the first of several pieces keeps the limit
  first_short : (all piece more : List ℕ) → too_long e (B e) (length (all ++ (piece ++ more))) ≡ false →
      too_long e (B e) (length (all ++ piece)) ≡ false
  first_short all piece more short =
      shorter e (B e) (length (all ++ (piece ++ more))) short (length (all ++ piece))
      (omega (arith, length-append all (piece ++ more), length-append piece more, length-append all piece))

  -- ---- by value

  start-happens : Taken e key [] (started e key)
  unfolding slice lent_slice
  start-happens =
      started-by
      (record {
        κs = ([], tt);
        args = (e, (slice key, tt));
        result = Ok (started e key);
        last = (tt, (tt, tt));
        learnt = (done (start-passes e key pass) refl, small);
      })
      refl

  add-happens : {all : List ℕ} {k : Keyed} (piece : List ℕ) → Bytes piece → too_long e (B e) (length (all ++ piece)) ≡ false →
      Taken e key all k → Taken e key (all ++ piece) (added k piece)
  unfolding slice lent_slice
  add-happens {all} {k} piece bytes short t =
      let l = leads t in
      added-by t
      (record {
        κs = ([], tt);
        args = (k, (slice piece, tt));
        result = Ok (added k piece);
        last = (tt, (tt, tt));
        learnt = (done (add-passes k piece (next-passes l piece short)) refl, (leads-shaped l, bytes));
      })
      refl refl

  -- pieces one after the other
  adds-happen : (all : List ℕ) (pieces : List (List ℕ)) → AllBytes pieces → too_long e (B e) (length (all ++ flatten pieces)) ≡ false →
      (k : Keyed) × Taken e key all k → (k : Keyed) × Taken e key (all ++ flatten pieces) k
  unfolding flatten
  adds-happen all [] bytes short (k, t) = (k, subst (λ (l : List ℕ). Taken e key l k) (sym (append-nil all)) t)
  adds-happen all (piece ∷ pieces) bytes short (k, t) =
      let joined = append_assoc all piece (flatten pieces) in
      let next = add-happens piece bytes.0 (first_short all piece (flatten pieces) short) t in
      let rest = adds-happen (all ++ piece) pieces bytes.1 (ap (λ (l : List ℕ). too_long e (B e) (length l)) joined ∙ short)
      (added k piece, next) in
      (rest.0, subst (λ (l : List ℕ). Taken e key l rest.0) joined rest.1)

  pub hmac-happens : (pieces : List (List ℕ)) → AllBytes pieces → too_long e (B e) (length (flatten pieces)) ≡ false →
      (k : Keyed) × Taken e key (flatten pieces) k
  hmac-happens pieces bytes short = adds-happen [] pieces bytes short (started e key, start-happens)

  -- ---- under C names

  -- words of 64 bits in which a message has been taken
  abbrev Words64 : List ℕ → Type 0
  Words64 all = (ws : List ℕ) × Below (2 ^ 64) ws × Lent e key all ws

  c-start-happens : (ws : List ℕ) → Below (2 ^ 64) ws → keyed_words ≤ length ws → Words64 []
  unfolding slice lent_slice start_tests step.start_tests first
  c-start-happens ws words enough =
      let left = at_front (words_of (started e key)) ws in
      let shape = started-shaped e key small (omega (arith, known_small e pass.ok)) in (
        left,
        below-front (words_of (started e key)) ws (words-below (started e key) shape) words,
        started-in
            (record {
              κs = ([], ([], tt));
              args = (lent_slice ws, (e, (slice key, tt)));
              result = 0;
              last = (left, (tt, (tt, tt)));
              learnt = (done (rw (pass.ok, pass.within, le-ltb (length ws) keyed_words enough)) refl, (words, small));
            })
            refl,
      )

  c-add-happens : (all piece : List ℕ) → Bytes piece → too_long e (B e) (length (all ++ piece)) ≡ false → Words64 all →
      Words64 (all ++ piece)
  unfolding slice lent_slice
  c-add-happens all piece bytes short (ws, words, t) =
      let c = c-leads t in
      let passes = next-passes c.held piece short in
      let next = added (keyed_in ws) piece in
      let left = at_front (words_of next) ws in
      let shape = added-shaped (keyed_in ws) (leads-shaped c.held) piece bytes passes.within in (
        left,
        below-front (words_of next) ws (words-below next shape) words,
        added-in t
            (record {
              κs = ([], ([], tt));
              args = (lent_slice ws, (slice piece, tt));
              result = 0;
              last = (left, (tt, tt));
              learnt = (done (add-tests ws piece c.enough ∙ add-passes (keyed_in ws) piece passes) refl, (words, bytes));
            })
            refl refl,
      )

  c-adds-happen : (all : List ℕ) (pieces : List (List ℕ)) → AllBytes pieces → too_long e (B e) (length (all ++ flatten pieces)) ≡ false →
      Words64 all → (left : List ℕ) × Lent e key (all ++ flatten pieces) left
  unfolding flatten
  c-adds-happen all [] bytes short (ws, words, t) = (ws, subst (λ (l : List ℕ). Lent e key l ws) (sym (append-nil all)) t)
  c-adds-happen all (piece ∷ pieces) bytes short from =
      let joined = append_assoc all piece (flatten pieces) in
      let next = c-add-happens all piece bytes.0 (first_short all piece (flatten pieces) short) from in
      let rest = c-adds-happen (all ++ piece) pieces bytes.1 (ap (λ (l : List ℕ). too_long e (B e) (length l)) joined ∙ short) next in
      (rest.0, subst (λ (l : List ℕ). Lent e key l rest.0) joined rest.1)

  pub c-hmac-happens : (pieces : List (List ℕ)) (ws : List ℕ) → AllBytes pieces → too_long e (B e) (length (flatten pieces)) ≡ false →
      Below (2 ^ 64) ws → keyed_words ≤ length ws → (left : List ℕ) × Lent e key (flatten pieces) left
  c-hmac-happens pieces ws bytes short words enough = c-adds-happen [] pieces bytes short (c-start-happens ws words enough)
