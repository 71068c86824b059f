-- The table word by word: SPEC, "The table of bays". `table-rules`: what makes a run a table. `laid-by-words`, `laid-only`: a layout leaves
-- what `Laid` says and nothing else does; by its own contract so does the code, `lay-out-by-words`. `table-places`: SPEC's numbers.
use Prim.Native.Nat.{ℕ, zero, suc, ◌+◌, ◌-◌, ◌*◌, ◌/◌, ◌%◌, ◌≤◌, ◌<◌}
use mathlib.Core.Bool.{true}
use mathlib.Core.List.{List, [], ◌∷◌}
use mathlib.Core.Path.{◌≡◌, refl, sym, ap, subst, ◌∙◌}
use native.Mathlib.Decide.{dec_lt}
use native.Mathlib.Omega.{arith}
use lib.Dec.{eqb}
use lib.ListN.{length, get_or, drop, get_or-replicate}
use lib.Seq.{get_or-take, get_or-drop, ext_get_or}
use borrow.Author.Tests.{le-leb, eqb-true, not-false}
use Rattle.contracts.specs.Says.{Made, exit}
use Rattle.std.specs.Prelude.{Ok}
use Rattle.answers.specs.Judged.{Judged}
use Rattle.answers.specs.Numbers.{Answer, number_of}
use Rattle.answers.proofs.Refusals.{done_first, done-leaves}
use Rattle.answers.proofs.Tests.{passed}
use Rattle.slices.proofs.Tests.{holds_at, holds_on, holds-last}
use Rattle.bays.specs.Places.{bays_word, first_word, size_word, zero_word, first_bay, most_bays, bay_words, place_of}
use Rattle.bays.specs.Table.{bays_of, room_for, headed, bay_at, laid_out}
use Rattle.bays.specs.ByWords.{TableRules, Laid, word_at}
use Rattle.bays.specs.Gate.{layout_tests}
use Rattle.bays.proofs.Frames.{room_of, headed-room, headed-of}
use Rattle.bays.proofs.LaidOut.{length-laid_out, bay_at-laid_out, laid_out-past}
use Rattle.bays.specs.contracts.table.lay_out as lay-out
use Rattle.bays.proofs.table.lay_out.Reads as lay-out-reads

-- SPEC's numbers: the header's words, how many they are, the words of a bay, the most bays; and where bay i begins
pub table-places : (bays_word ≡ 0) × (first_word ≡ 1) × (size_word ≡ 2) × (zero_word ≡ 3) × (first_bay ≡ 4) × (bay_words ≡ 26) ×
    (most_bays ≡ 64)
    × ((i : ℕ) → place_of i ≡ first_bay + bay_words * i)
table-places = (refl, refl, refl, refl, refl, refl, refl, λ i. refl)

-- ---- what makes a run a table

module _ (t : List ℕ) where
  headed-rules : headed t ≡ true → TableRules t
  unfolding headed
  headed-rules e =
      let at =
      holds_at
      (room_for (bays_of t) (length t)
      ∷ eqb (get_or t first_word 0) first_bay
      ∷ eqb (get_or t size_word 0) bay_words
      ∷ eqb (get_or t zero_word 0) 0
      ∷ []) e in
      let room = headed-room t e in
      record {
        some = room.some;
        few = room.few;
        first = eqb-true (get_or t first_word 0) first_bay (at 1);
        size = eqb-true (get_or t size_word 0) bay_words (at 2);
        spare = eqb-true (get_or t zero_word 0) 0 (at 3);
        long = room.within;
      }

  room-holds : TableRules t → room_for (bays_of t) (length t) ≡ true
  unfolding room_for
  room-holds r =
      holds_on _ _ (le-leb 1 (bays_of t) r.some)
      ∙ holds_on _ _ (le-leb (bays_of t) most_bays r.few)
      ∙ holds-last _
      ∙ le-leb (place_of (bays_of t)) (length t) r.long

  pub table-rules : (headed t ≡ true → TableRules t) × (TableRules t → headed t ≡ true)
  table-rules = (headed-rules, λ r. headed-of t (room-holds r) r.first r.size r.spare)

-- ---- a bay's words are words of the table

pub word-of-bay : (t : List ℕ) (i j : ℕ) → j < bay_words → get_or (bay_at t i) j 0 ≡ word_at t i j
unfolding bay_at
word-of-bay t i j p = get_or-take bay_words (drop (place_of i) t) j 0 p ∙ get_or-drop (place_of i) t j 0

-- ---- a layout

module _ (n : ℕ) (t : List ℕ) where
  pub laid-by-words : room_for n (length t) ≡ true → Laid n t (laid_out n t)
  unfolding laid_out
  laid-by-words e =
      record {
        count = refl;
        first = refl;
        size = refl;
        spare = refl;
        empty = λ i j p q.
            sym (word-of-bay (laid_out n t) i j q)
            ∙ ap (λ l. get_or l j 0) (bay_at-laid_out n t i p)
            ∙ get_or-replicate bay_words j 0 0 q;
        callers = λ k p.
            let at : place_of n + (k - place_of n) ≡ k = omega arith in
            ap (λ (m : ℕ). get_or (laid_out n t) m 0) (sym at)
            ∙ sym (get_or-drop (place_of n) (laid_out n t) (k - place_of n) 0)
            ∙ ap (λ l. get_or l (k - place_of n) 0) (laid_out-past n t)
            ∙ get_or-drop (place_of n) t (k - place_of n) 0
            ∙ ap (λ (m : ℕ). get_or t m 0) at;
        long = length-laid_out n t (room_of n (length t) e).within;
      }

  -- two runs that a layout may leave
  module _ (a b : List ℕ) (p : Laid n t a) (q : Laid n t b) where
    head-same : (k : ℕ) → k < first_bay → get_or a k 0 ≡ get_or b k 0
    head-same zero h = p.count ∙ sym q.count
    head-same (suc zero) h = p.first ∙ sym q.first
    head-same (suc (suc zero)) h = p.size ∙ sym q.size
    head-same (suc (suc (suc zero))) h = p.spare ∙ sym q.spare
    head-same (suc (suc (suc (suc k)))) h = absurd (omega arith)

    -- behind the header, a bay's words after another's
    bay-same : (k : ℕ) → first_bay ≤ k → k < place_of n → get_or a k 0 ≡ get_or b k 0
    bay-same k h l =
        let i = (k - first_bay) / bay_words in
        let j = (k - first_bay) % bay_words in
        let at : place_of i + j ≡ k = omega arith in
        let below : i < n = omega arith in
        let within : j < bay_words = omega arith in
        ap (λ (m : ℕ). get_or a m 0) (sym at)
        ∙ p.empty i j below within
        ∙ sym (q.empty i j below within)
        ∙ ap (λ (m : ℕ). get_or b m 0) at

    pub laid-settled : a ≡ b
    laid-settled = ext_get_or 0 a b (p.long ∙ sym q.long) (λ k h. go k (dec_lt k first_bay) (dec_lt k (place_of n)))
      where
        go : (k : ℕ) → Dec (k < first_bay) → Dec (k < place_of n) → get_or a k 0 ≡ get_or b k 0
        go k (yes h) d = head-same k h
        go k (no h) (yes l) = bay-same k (omega arith) l
        go k (no h) (no l) = p.callers k (omega arith) ∙ sym (q.callers k (omega arith))

  pub laid-only : room_for n (length t) ≡ true → (new : List ℕ) → Laid n t new → new ≡ laid_out n t
  laid-only e new p = laid-settled new (laid_out n t) p (laid-by-words e)

-- by the contract of the code: a layout that is done
laid_done : (n : ℕ) (t : List ℕ) (r : Answer) {left : List ℕ} → Judged (layout_tests t n) t (laid_out n t) (number_of r) left →
    r ≡ Ok tt → Laid n t left
laid_done n t r j d =
    subst (Laid n t) (sym (done-leaves j d))
    (laid-by-words n t (not-false (room_for n (length t)) (passed (layout_tests t n) tt (done_first j d) 0)))

pub lay-out-by-words : (m : Made lay-out.ended lay-out-reads.Learnt) → m.result ≡ Ok tt →
    Laid m.args.1.0 m.args.0.now (exit m).0.now
lay-out-by-words m d = laid_done m.args.1.0 m.args.0.now m.result m.learnt d
