-- The outcomes of the calls, over plain tables: past the gate, each refusal by its tests, and what a call leaves.
use Prim.Native.Nat.{ℕ, zero, suc, ◌<◌}
use mathlib.Core.Bool.{true, false, not}
use native.Mathlib.Omega.{arith}
use mathlib.Core.List.{List, [], ◌∷◌, ◌++◌}
use mathlib.Core.Path.{◌≡◌, refl, sym, ◌∙◌}
use lib.Dec.{T}
use Rattle.std.specs.Prelude.{Err}
use Rattle.answers.specs.declared.Refusal.{Refusal}
use Rattle.answers.specs.Judged.{Test, ◌when◌, Judged, lent, first, after}
use Rattle.answers.specs.Numbers.{Answer, number_of, refusal_number}
use Rattle.answers.proofs.Outcome.{refused, done, refusing-number}
use Rattle.fips.specs.Editions.{known}
use Rattle.slices.specs.AtFront.{at_front}
use Rattle.halfread.specs.declared.HalfRead.{HalfRead}
use Rattle.halfread.specs.State.{blank, sound}
use Rattle.halfread.specs.Steps.{opened, added, closed_digest, add_tests, close_tests}
use Rattle.records.specs.Record.{record_of, save_tests, loaded, load_tests}
use Rattle.bays.specs.Table.{bay_at, put_bay, laid_out}
use Rattle.bays.specs.Bay.{bay_of, empty_bay}
use Rattle.calls.specs.Calls.{lay_out, opening, adding, closing, saving, loading, dropping, tests, leaves, told, nothing_told, tells}
use Rattle.calls.specs.Calls.{Outcome, Asks}
use Rattle.bays.specs.Gate.{taken_tests, vacant, half_at, gate_tests, not_sound, occupied, layout_tests, free_tests, sound_tests}
use Rattle.answers.proofs.Refusals.{refuses, stopped, went_on, part-refused, zero-first, zero-leaves, refused-leaves, judged-map}
use Rattle.bays.proofs.Header.{Taken, taken-passed}
use Rattle.bays.proofs.Refusals.{vacant-alone, first-vacant, held-judged}
use Rattle.answers.proofs.Tests.{refusing, passed, first_on, first_off}

-- ---- lay out: the table's own outcome, and no output beside it

pub laying-out : (t : List ℕ) (n : ℕ) {k : ℕ} {left : List ℕ} → Judged (layout_tests t n) t (laid_out n t) k left →
    Outcome t (lay_out n) k left []
unfolding tests leaves
laying-out t n j = judged-map (λ (l : List ℕ). lent l []) j

-- ---- stopped at the gate

more : (e : Refusal) → 0 < refusal_number e
more e = refuses {A = Unit} (Err e) e refl

module _ (t : List ℕ) (i : ℕ) (e : Refusal) (answered : refusal_number e ≡ first (gate_tests t i)) where
  pub open-stopped : (edition : ℕ) → Outcome t (opening i edition) (refusal_number e) t []
  unfolding tests
  open-stopped edition = stopped (gate_tests t i) _ answered (more e) refl

  pub load-stopped : (bytes : List ℕ) → Outcome t (loading i bytes) (refusal_number e) t []
  unfolding tests
  load-stopped bytes = stopped (gate_tests t i) _ answered (more e) refl

-- ---- stopped at the gate, or at a bay that is not taken

module _ (t : List ℕ) (i : ℕ) (e : Refusal) (answered : refusal_number e ≡ first (taken_tests t i)) where
  -- 6 is never first here, since an empty bay is sound
  taken-first : (us : List Test) → first (gate_tests t i ++ (not_sound t i ∷ vacant t i ∷ us)) ≡ refusal_number e
  taken-first us = go (first (gate_tests t i)) refl
    where
      vs : List Test
      vs = not_sound t i ∷ vacant t i ∷ us

      go : (n : ℕ) → first (gate_tests t i) ≡ n → first (gate_tests t i ++ vs) ≡ refusal_number e
      go zero z =
          let none = passed (gate_tests t i) tt z in
          let own : first (vacant t i ∷ []) ≡ refusal_number e = sym (answered ∙ first_on (gate_tests t i) (vacant t i ∷ []) none) in
          let empty = vacant-alone (bay_at t i) (refusal_number e) (more e) own in
          first_on (gate_tests t i) vs none ∙ first-vacant (bay_at t i) us empty.0 ∙ sym empty.1
      go (suc n) z =
          first_off (gate_tests t i) vs (omega arith) ∙ sym (answered ∙ first_off (gate_tests t i) (vacant t i ∷ []) (omega arith))

  taken-stopped : {A : Type 0} {old new : A} (us : List Test) →
      Judged (gate_tests t i ++ (not_sound t i ∷ vacant t i ∷ us)) old new (refusal_number e) old
  taken-stopped us = refused (taken-first us) (refusing-number e) refl

  pub drop-stopped : Outcome t (dropping i) (refusal_number e) t []
  unfolding tests
  drop-stopped = stopped (taken_tests t i) _ answered (more e) refl

-- the same of what the bay was asked for
module _ (t : List ℕ) (i : ℕ) (e : Refusal) {h : HalfRead} (held : Judged (taken_tests t i) blank (half_at t i) (refusal_number e) h) where
  pub add-stopped : (piece : List ℕ) → Outcome t (adding i piece) (refusal_number e) t []
  unfolding tests
  add-stopped piece = taken-stopped t i e held.answer _

  pub close-stopped : (x b : ℕ) (out : List ℕ) → Outcome t (closing i x b out) (refusal_number e) t out
  unfolding tests
  close-stopped x b out = taken-stopped t i e held.answer _

  pub save-stopped : (out : List ℕ) → Outcome t (saving i out) (refusal_number e) t out
  unfolding tests
  save-stopped out = taken-stopped t i e held.answer _

-- ---- past the gate

-- the bay written, which asks the gate once more
abbrev written : List ℕ → ℕ → List ℕ → List ℕ
written t i b = after (first (gate_tests t i)) t (put_bay t i b)

module _ (t : List ℕ) (i : ℕ) (gate : 0 ≡ first (gate_tests t i)) where
  past : {A : Type 0} {old new left : A} {n : ℕ} (us : List Test) → Judged us old new n left →
      Judged (gate_tests t i ++ us) old new n left
  past us j = went_on (gate_tests t i) us tt (sym gate) j

  -- open and load ask something of their own, and then whether the bay can be filled
  abbrev fill_tests : List Test
  fill_tests = not_sound t i ∷ occupied t i ∷ []

  free-first : {n : ℕ} → n ≡ first (free_tests t i) → n ≡ first fill_tests
  free-first e = e ∙ first_on (gate_tests t i) fill_tests (passed (gate_tests t i) tt (sym gate))

  module _ {A : Type 0} {old new : A} (ts : List Test) (own : T (refusing ts)) (none : first ts ≡ 0) where
    fill-refused : (e : Refusal) → refusal_number e ≡ first (free_tests t i) →
        Judged (gate_tests t i ++ (ts ++ fill_tests)) old new (refusal_number e) old
    fill-refused e a = past _ (went_on ts fill_tests own none (refused (sym (free-first a)) (refusing-number e) refl))

    filled : {left : A} → 0 ≡ first (free_tests t i) → left ≡ new → Judged (gate_tests t i ++ (ts ++ fill_tests)) old new 0 left
    filled f l = past _ (went_on ts fill_tests own none (done (sym (free-first f)) l))

  -- ---- open

  pub open_unknown : (e : ℕ) → known e ≡ false → Outcome t (opening i e) 5 t []
  unfolding tests first
  open_unknown e k = past _ (refused (rw k) tt refl)

  module _ (edition : ℕ) (k : known edition ≡ true) where
    edition-known : first (5 when not (known edition) ∷ []) ≡ 0
    unfolding first
    edition-known = rw k

    pub open-refused : (e : Refusal) → refusal_number e ≡ first (free_tests t i) → Outcome t (opening i edition) (refusal_number e) t []
    unfolding tests
    open-refused e a = fill-refused (5 when not (known edition) ∷ []) tt edition-known e a

    pub opened-at : 0 ≡ first (free_tests t i) → {h : HalfRead} {left : List ℕ} → h ≡ opened edition → left ≡ written t i (bay_of h) →
        Outcome t (opening i edition) 0 left []
    unfolding tests leaves
    opened-at f is l = filled (5 when not (known edition) ∷ []) tt edition-known f (rw (l, ← gate, is))

  -- ---- load

  module _ (bytes : List ℕ) where
    pub load-refused : (e : Refusal) {h : HalfRead} → Judged (load_tests bytes) blank (loaded bytes) (refusal_number e) h →
        Outcome t (loading i bytes) (refusal_number e) t []
    unfolding tests load_tests
    load-refused e j = past _ (stopped (load_tests bytes) fill_tests j.answer (more e) refl)

    module _ {h : HalfRead} (j : Judged (load_tests bytes) blank (loaded bytes) 0 h) where
      pub load-filled : (e : Refusal) → refusal_number e ≡ first (free_tests t i) → Outcome t (loading i bytes) (refusal_number e) t []
      unfolding tests load_tests
      load-filled e a = fill-refused (load_tests bytes) tt (zero-first j refl) e a

      pub loaded_at : 0 ≡ first (free_tests t i) → {left : List ℕ} → left ≡ written t i (bay_of h) → Outcome t (loading i bytes) 0 left []
      unfolding tests leaves load_tests
      loaded_at f l = filled (load_tests bytes) tt (zero-first j refl) f (rw (l, ← gate, zero-leaves j refl))

  -- ---- drop

  pub dropped : 0 ≡ first (taken_tests t i) → {left : List ℕ} → left ≡ written t i empty_bay → Outcome t (dropping i) 0 left []
  unfolding tests leaves
  dropped a l = done (sym a) (rw (l, ← gate))

-- ---- past the gate, with what is held in the bay

module _ (t : List ℕ) (i : ℕ) {h : HalfRead} (held : Judged (taken_tests t i) blank (half_at t i) 0 h) where
  there : Taken t i
  there = taken-passed t i (zero-first held refl)

  is : h ≡ half_at t i
  is = zero-leaves held refl

  -- the step's own tests behind those of the bay
  behind : {A : Type 0} {old new left : A} {n : ℕ} (us : List Test) → Judged (6 when not (sound (half_at t i)) ∷ us) old new n left →
      Judged (gate_tests t i ++ (not_sound t i ∷ vacant t i ∷ us)) old new n left
  behind us j = past t i (sym there.gate) _ (held-judged (bay_at t i) us there.full j)

  -- ---- add

  module _ (piece : List ℕ) where
    pub add-refused : (e : Refusal) {left : HalfRead} → Judged (add_tests h piece) h (added h piece) (refusal_number e) left →
        Outcome t (adding i piece) (refusal_number e) t []
    unfolding tests add_tests
    add-refused e j = behind _ (part-refused (rw is at j) (more e) refl)

    pub added-at : {h' : HalfRead} → Judged (add_tests h piece) h (added h piece) 0 h' → {left : List ℕ} → left ≡ written t i (bay_of h') →
        Outcome t (adding i piece) 0 left []
    unfolding tests leaves add_tests
    added-at j l = behind _ (done (zero-first (rw is at j) refl) (rw (l, there.gate, zero-leaves (rw is at j) refl)))

  -- ---- close

  module _ (x b : ℕ) (out : List ℕ) {out' : List ℕ} where
    pub close-refused : (e : Refusal) → Judged (close_tests h x b out) out (at_front (closed_digest h x b) out) (refusal_number e) out' →
        Outcome t (closing i x b out) (refusal_number e) t out'
    unfolding tests close_tests
    close-refused e j = behind _ (part-refused (rw is at j) (more e) (rw (refused-leaves j (more e))))

    pub closed_at : Judged (close_tests h x b out) out (at_front (closed_digest h x b) out) 0 out' → {left : List ℕ} →
        left ≡ written t i empty_bay → Outcome t (closing i x b out) 0 left out'
    unfolding tests leaves close_tests
    closed_at j l = behind _ (done (zero-first (rw is at j) refl) (rw (l, there.gate, zero-leaves (rw is at j) refl)))

  -- ---- save

  pub save-held : (out : List ℕ) (r : Answer) {out' : List ℕ} →
      Judged (save_tests h out) out (at_front (record_of h) out) (number_of r) out' → Outcome t (saving i out) (number_of r) t out'
  unfolding tests leaves save_tests
  save-held out r j = behind _ (judged-map (lent t) (rw is at j))

-- ---- ask: what a sound bay holds, and nothing where it is refused

pub asked : (t : List ℕ) (i : ℕ) {n : ℕ} {h : HalfRead} → Judged (sound_tests t i) blank (half_at t i) n h →
    Asks t i n (told h.edition h.count)
unfolding tests tells blank
asked t i j = judged-map (λ (h : HalfRead). told h.edition h.count) j

pub ask-refused : (t : List ℕ) (i : ℕ) (e : Refusal) → Judged (sound_tests t i) blank (half_at t i) (refusal_number e) blank →
    Asks t i (refusal_number e) nothing_told
unfolding blank
ask-refused t i e j = asked t i j
