-- One call on a table and on the ledger that it follows, `step`: the same first refusal; and where there is none, the same outputs, the
-- same told, and again a table that follows.
use Prim.Native.Nat.{ℕ, ◌<◌}
use mathlib.Core.Bool.{Bool, true, false, not, cond, false≢true}
use mathlib.Core.List.{List, [], ◌∷◌}
use mathlib.Core.Path.{◌≡◌, refl, sym, ap, ap₂, subst, subst₂, ◌∙◌}
use native.Mathlib.Omega.{arith}
use lib.Dec.{ltb}
use lib.ListN.{length, set, replicate}
use borrow.Author.Tests.{not-false}
use Rattle.answers.specs.Judged.{Test, ◌when◌, first}
use Rattle.answers.proofs.Tests.{passed}
use Rattle.slices.specs.Below.{Bytes}
use Rattle.fips.specs.Editions.{known, digest_bytes}
use Rattle.slices.specs.AtFront.{at_front}
use Rattle.dwsha2.specs.Limit.{too_long}
use Rattle.dwsha2.specs.Closing.{closing_fits}
use Rattle.dwsha2.proofs.AtOnce.{closing-few}
use Rattle.halfread.specs.declared.HalfRead.{HalfRead}
use Rattle.halfread.specs.Steps.{added}
use Rattle.halfread.specs.Steps as Steps
use Rattle.records.specs.Record.{record_of, record_length, is_record}
use Rattle.records.proofs.Records.{length-record_of}
use Rattle.bays.specs.Table.{room_for, bay_at, put_bay, laid_out}
use Rattle.bays.specs.Bay.{half_of, bay_of, is_empty, sound_bay}
use Rattle.calls.specs.Calls.{Call, lay_out, opening, adding, closing, saving, loading, asking, dropping, tests, leaves, told, tells}
use Rattle.bays.specs.Gate.{half_at}
use Rattle.ledger.specs.Ledger.{Entry, Fine, FineSlot, Slot, nothing, entry, opened_entry, loaded_entry, with, entry_length}
use Rattle.ledger.specs.Ledger.{is_entry, slot_edition, slot_length, slot_record, slot_digest, slot_with, ledger_tests, kept, written}
use Rattle.ledger.specs.Ledger.{saying}
use Rattle.ledger.specs.Records.{loads}
use Rattle.calls.specs.Calls.{Passed}
use Rattle.ledger.proofs.Entries.{state_of, state-shaped, record-entry, added-entry, digest-entry, with-fine, opened-state}
use Rattle.ledger.proofs.Entries.{opened-fine, loaded-state, loaded-fine}
use Rattle.ledger.proofs.OwnRecord.{loads-agree}
use Rattle.ledger.proofs.Follows.{Follows, at, shown, gated, passed-gate, put-follows, laid-follows, half-slot, state-count}
use Rattle.ledger.proofs.Follows.{not-not, slot_bay, state-edition}

-- what a call that is done leaves is the same in both, and the table still follows
pub record Done (L : ℕ) (t : List ℕ) (l : List Slot) (c : Call) : Type 0 where
  pub output : (leaves t c).output ≡ written L l c
  pub says : tells t c ≡ saying L l c
  pub follows : Follows L (leaves t c).table (kept L l c)

pub record Step (L : ℕ) (t : List ℕ) (l : List Slot) (c : Call) : Type 0 where
  pub answer : first (tests t c) ≡ first (ledger_tests L l c)
  pub done : first (tests t c) ≡ 0 → Done L t l c

pub fits : (b : Bool) → ◌≡◌ {A = ℕ} (cond (not b) 11 0) 0 → b ≡ true
fits true e = refl
fits false e = absurd (omega arith)

module _ {L : ℕ} {t : List ℕ} {l : List Slot} (f : Follows L t l) where
  lay-out-step : (n : ℕ) → Step L t l (lay_out n)
  unfolding tests ledger_tests leaves tells written saying kept first
  lay-out-step n = record { answer = rw f.long; done = made }
    where
      made : first (tests t (lay_out n)) ≡ 0 → Done L t l (lay_out n)
      made e =
          record {
            output = refl;
            says = refl;
            follows =
                subst (λ (k : ℕ). Follows k (laid_out n t) (replicate n nothing)) f.long
                (laid-follows n t (fits (room_for n (length t)) e));
          }

  -- a bay that is taken holds an entry
  record Holds (i : ℕ) : Type 0 where
    en : Entry
    fine : Fine en
    is_slot : at f i ≡ entry en
    half : half_at t i ≡ state_of en

  holding : (i : ℕ) → i < length l → is_empty (bay_at t i) ≡ false → Holds i
  holding i h e = go (at f i) refl
    where
      go : (s : Slot) → at f i ≡ s → Holds i
      go nothing q = absurd (false≢true (sym e ∙ (shown f i h).empty ∙ ap (λ (s : Slot). not (is_entry s)) q))
      go (entry en) q =
          let fine = subst FineSlot q (f.fine i) in
          record { en = en; fine = fine; is_slot = q; half = ap half_of (f.bays i h ∙ ap slot_bay q) ∙ half-slot en fine }

  -- the same bay, with the state and the slot named otherwise
  moved : (i : ℕ) {a b : HalfRead} {r s : Slot} → a ≡ b → r ≡ s → Follows L (put_bay t i (bay_of b)) (set l i s) →
      Follows L (put_bay t i (bay_of a)) (set l i r)
  moved i p q g = subst₂ (λ (x : HalfRead) (y : Slot). Follows L (put_bay t i (bay_of x)) (set l i y)) (sym p) (sym q) g

  -- a call that fills an empty bay, refused with n by a test of its own: opening and loading
  abbrev fill_tests : ℕ → Bool → ℕ → List Test
  fill_tests n ok i = n when not ok ∷ 6 when not (sound_bay (bay_at t i)) ∷ 3 when not (is_empty (bay_at t i)) ∷ []

  abbrev slot_tests : ℕ → Bool → ℕ → List Test
  slot_tests n ok i = n when not ok ∷ 3 when is_entry (at f i) ∷ []

  fill-same : (n : ℕ) (ok : Bool) (i : ℕ) → i < length l → first (fill_tests n ok i) ≡ first (slot_tests n ok i)
  unfolding first
  fill-same n ok i h =
      let s = shown f i h in
      rw (s.is_sound, s.empty, not-not (is_entry (at f i)))

  filled : (i : ℕ) (en : Entry) (h : HalfRead) → state_of en ≡ h → i < length l → Fine en →
      Follows L (put_bay t i (bay_of h)) (set l i (entry en))
  filled i en h e b fine = moved i (sym e) refl (put-follows f i b (entry en) fine)

  opening-step : (i e : ℕ) → Step L t l (opening i e)
  unfolding tests ledger_tests leaves tells written saying kept first
  opening-step i e =
      record { answer = gated f i us (slot_tests 5 (known e) i) (fill-same 5 (known e) i); done = λ z. made (passed-gate f i us z) }
    where
      us : List Test
      us = fill_tests 5 (known e) i

      made : (i < length l) × (first us ≡ 0) → Done L t l (opening i e)
      made r =
          let k = not-false (known e) (passed us tt r.1 0) in
          record {
            output = refl;
            says = refl;
            follows = filled i (opened_entry e) _ (opened-state e) r.0 (opened-fine e k);
          }

  adding-step : (i : ℕ) (piece : List ℕ) → Bytes piece → Step L t l (adding i piece)
  unfolding tests ledger_tests leaves tells written saying kept first
  adding-step i piece all = record { answer = gated f i us vs same; done = λ z. made (passed-gate f i us z) }
    where
      us : List Test
      us = 6 when not (sound_bay (bay_at t i)) ∷ 4 when is_empty (bay_at t i) ∷ 7 when too_long (half_at t i).edition (half_at t i).count
          (length piece) ∷ []

      vs : List Test
      vs = 4 when not (is_entry (at f i)) ∷ 7 when too_long (slot_edition (at f i)) (slot_length (at f i)) (length piece) ∷ []

      same : i < length l → first us ≡ first vs
      same h =
          let s = shown f i h in
          rw (s.is_sound, s.empty, s.edition, s.count)

      made : (i < length l) × (first us ≡ 0) → Done L t l (adding i piece)
      made r =
          let held = holding i r.0 (passed us tt r.1 1) in
          let room : too_long held.en.edition (entry_length held.en) (length piece) ≡ false =
          rw (← state-edition held.en, ← state-count held.en, ← held.half) (passed us tt r.1 2) in
          record {
            output = refl;
            says = refl;
            follows =
                moved i
                (ap (λ (h : HalfRead). added h piece) held.half ∙ sym (added-entry held.en held.fine piece))
                (ap (λ (s : Slot). slot_with s piece) held.is_slot)
                (put-follows f i r.0 (entry (with held.en piece)) (with-fine held.en held.fine piece all room));
          }

  closing-step : (i x b : ℕ) (out : List ℕ) → x < 256 → Step L t l (closing i x b out)
  unfolding tests ledger_tests leaves tells written saying kept first
  closing-step i x b out small = record { answer = gated f i us vs same; done = λ z. made (passed-gate f i us z) }
    where
      us : List Test
      us =
          6 when not (sound_bay (bay_at t i)) ∷ 4 when is_empty (bay_at t i) ∷ 8 when not (closing_fits x b)
          ∷ 9 when ltb (length out) (digest_bytes (half_at t i).edition) ∷ []

      vs : List Test
      vs = 4 when not (is_entry (at f i)) ∷ 8 when not (closing_fits x b) ∷ 9 when ltb (length out) (digest_bytes (slot_edition (at f i))) ∷
          []

      same : i < length l → first us ≡ first vs
      same h =
          let s = shown f i h in
          rw (s.is_sound, s.empty, s.edition)

      made : (i < length l) × (first us ≡ 0) → Done L t l (closing i x b out)
      made r =
          let held = holding i r.0 (passed us tt r.1 1) in
          let few = closing-few x b (not-false (closing_fits x b) (passed us tt r.1 2)) in
          record {
            output =
                ap (λ (d : List ℕ). at_front d out)
                (ap (λ (h : HalfRead). Steps.closed_digest h x b) held.half
                ∙ sym (digest-entry held.en held.fine x b small few)
                ∙ sym (ap (λ (s : Slot). slot_digest s x b) held.is_slot));
            says = refl;
            follows = put-follows f i r.0 nothing tt;
          }

  saving-step : (i : ℕ) (out : List ℕ) → Step L t l (saving i out)
  unfolding tests ledger_tests leaves tells written saying kept first
  saving-step i out = record { answer = gated f i us vs same; done = λ z. made (passed-gate f i us z) }
    where
      us : List Test
      us = 6 when not (sound_bay (bay_at t i)) ∷ 4 when is_empty (bay_at t i) ∷ 9 when ltb (length out) (record_length (half_at t i)) ∷ []

      size : i < length l → (b : Bool) → is_empty (bay_at t i) ≡ b →
          ◌≡◌ {A = ℕ} (cond b 4 (cond (ltb (length out) (record_length (half_at t i))) 9 0))
          (cond b 4 (cond (ltb (length out) (length (slot_record (at f i)))) 9 0))
      size h true e = refl
      size h false e =
          let held = holding i h e in
          ap (λ (n : ℕ). cond (ltb (length out) n) 9 0)
          (ap record_length held.half
          ∙ sym (length-record_of (state_of held.en) (state-shaped held.en held.fine))
          ∙ sym (ap length (record-entry held.en held.fine))
          ∙ sym (ap (λ (s : Slot). length (slot_record s)) held.is_slot))

      vs : List Test
      vs = 4 when not (is_entry (at f i)) ∷ 9 when ltb (length out) (length (slot_record (at f i))) ∷ []

      same : i < length l → first us ≡ first vs
      same h =
          let s = shown f i h in
          rw (s.is_sound, ← s.empty) (size h (is_empty (bay_at t i)) refl)

      made : (i < length l) × (first us ≡ 0) → Done L t l (saving i out)
      made r =
          let held = holding i r.0 (passed us tt r.1 1) in
          record {
            output =
                ap (λ (d : List ℕ). at_front d out)
                (ap record_of held.half ∙ sym (record-entry held.en held.fine) ∙ sym (ap slot_record held.is_slot));
            says = refl;
            follows = f;
          }

  loading_step : (i : ℕ) (bytes : List ℕ) → Bytes bytes → Step L t l (loading i bytes)
  unfolding tests ledger_tests leaves tells written saying kept first
  loading_step i bytes all =
      record {
        answer = gated f i us (slot_tests 10 (loads bytes) i) (λ h. rw (loads-agree bytes all) (fill-same 10 (is_record bytes) i h));
        done = λ z. made (passed-gate f i us z);
      }
    where
      us : List Test
      us = fill_tests 10 (is_record bytes) i

      made : (i < length l) × (first us ≡ 0) → Done L t l (loading i bytes)
      made r =
          let k = not-false (is_record bytes) (passed us tt r.1 0) in
          record {
            output = refl;
            says = refl;
            follows = filled i (loaded_entry bytes) _ (loaded-state bytes all k) r.0 (loaded-fine bytes all k);
          }

  asking-step : (i : ℕ) → Step L t l (asking i)
  unfolding tests ledger_tests leaves tells written saying kept first
  asking-step i = record { answer = gated f i us vs same; done = λ z. made (passed-gate f i us z) }
    where
      us : List Test
      us = 6 when not (sound_bay (bay_at t i)) ∷ []

      vs : List Test
      vs = []

      same : i < length l → first us ≡ first vs
      same h = rw (shown f i h).is_sound

      made : (i < length l) × (first us ≡ 0) → Done L t l (asking i)
      made r =
          let s = shown f i r.0 in
          record { output = refl; says = ap₂ told s.edition s.count; follows = f }

  dropping-step : (i : ℕ) → Step L t l (dropping i)
  unfolding tests ledger_tests leaves tells written saying kept first
  dropping-step i = record { answer = gated f i us vs same; done = λ z. made (passed-gate f i us z) }
    where
      us : List Test
      us = 4 when is_empty (bay_at t i) ∷ []

      vs : List Test
      vs = 4 when not (is_entry (at f i)) ∷ []

      same : i < length l → first us ≡ first vs
      same h = rw (shown f i h).empty

      made : (i < length l) × (first us ≡ 0) → Done L t l (dropping i)
      made r = record { output = refl; says = refl; follows = put-follows f i r.0 nothing tt }

  pub step : (c : Call) → Passed c → Step L t l c
  step (lay_out n) g = lay-out-step n
  step (opening i e) g = opening-step i e
  step (adding i piece) g = adding-step i piece g
  step (closing i x b out) g = closing-step i x b out g
  step (saving i out) g = saving-step i out
  step (loading i bytes) g = loading_step i bytes g
  step (asking i) g = asking-step i
  step (dropping i) g = dropping-step i
