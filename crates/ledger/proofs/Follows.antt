-- A table that follows a ledger: each bay is its slot's words, and every entry is fine. One bay put anew follows the slot put anew,
-- `put-follows`; a layout follows an empty ledger, `laid-follows`; and the gate answers both alike, `gated`.
use Prim.Native.Nat.{ℕ, zero, suc, ◌+◌, ◌^◌, ◌≤◌, ◌<◌}
use mathlib.Core.Bool.{Bool, true, false, not, cond}
use mathlib.Core.List.{List, ◌∷◌, ◌++◌}
use mathlib.Core.Path.{◌≡◌, refl, sym, ap, ap₂, subst, subst₂, ◌∙◌}
use native.Mathlib.Decide.{dec_lt, ℕ_discrete}
use native.Mathlib.Nat.{add-zero, zero-add}
use native.Mathlib.Omega.{arith}
use lib.Dec.{leb}
use lib.ListN.{length, get_or, set, replicate, length-set, get_or-eq_default}
use lib.Seq.{get_or-set_same, get_or-set_other}
use borrow.Author.Tests.{leb-false}
use Rattle.answers.specs.Judged.{Test, ◌when◌, first}
use Rattle.halfread.specs.declared.HalfRead.{HalfRead}
use Rattle.slices.specs.Below.{Below}
use Rattle.slices.specs.Tests.{every}
use Rattle.slices.proofs.Below.{below-replicate}
use Rattle.halfread.proofs.Soundness.{facts-sound}
use Rattle.records.specs.Record.{record_of}
use Rattle.records.proofs.Records.{saved-loads, record_of-bytes}
use Rattle.bays.specs.Places.{place_of, bay_words}
use Rattle.bays.specs.Table.{bays_of, room_for, headed, bay_at, put_bay, laid_out}
use Rattle.bays.specs.Bay.{half_of, bay_of, is_empty, empty_bay, sound_bay}
use Rattle.bays.specs.Gate.{gate_tests}
use Rattle.ledger.specs.Ledger.{Entry, Fine, FineSlot, Slot, nothing, entry, entry_length, is_entry, slot_edition, slot_length}
use Rattle.bays.proofs.Frames.{room_of, bay-inside, length-bay_at, bay_at-put_bay, bay_at-other, length-put_bay, bays_of-put_bay}
use Rattle.bays.proofs.Frames.{headed-put_bay}
use Rattle.bays.proofs.LaidOut.{headed-laid_out, bays_of-laid_out, length-laid_out, bay_at-laid_out}
use Rattle.bays.proofs.Packing.{half_of-bay_of, bay_of-half_of, shaped-half_of, length-bay_of, taken-bay_of, sound_bay-bay_of}
use Rattle.bays.proofs.Packing.{zeros-empty, empty-zeros, sound_bay-empty, sound_bay-taken}
use Rattle.ledger.specs.Sound.{SoundTable, slot_of, slots_of, ledger_of}
use Rattle.ledger.proofs.Entries.{state_of, state-facts, state-shaped, loaded-state, loaded-fine}

-- the words of a slot
abbrev pub slot_bay : Slot → List ℕ
slot_bay nothing = empty_bay
slot_bay (entry en) = bay_of (state_of en)

pub record Follows (L : ℕ) (t : List ℕ) (l : List Slot) : Type 0 where
  pub long : length t ≡ L
  pub header : headed t ≡ true
  pub count : bays_of t ≡ length l
  pub bays : (i : ℕ) → i < length l → bay_at t i ≡ slot_bay (get_or l i nothing)
  pub fine : (i : ℕ) → FineSlot (get_or l i nothing)

-- ---- a bay as its slot shows it

pub record Shows (b : List ℕ) (s : Slot) : Type 0 where
  pub is_sound : sound_bay b ≡ true
  pub empty : is_empty b ≡ not (is_entry s)
  pub edition : (half_of b).edition ≡ slot_edition s
  pub count : (half_of b).count ≡ slot_length s

slot-length : (s : Slot) → FineSlot s → length (slot_bay s) ≡ bay_words
slot-length nothing f = refl
slot-length (entry en) f = length-bay_of (state_of en) (state-shaped en f)

pub half-slot : (en : Entry) → Fine en → half_of (bay_of (state_of en)) ≡ state_of en
half-slot en f = half_of-bay_of (state_of en) (state-shaped en f)

nothing-shows : Shows empty_bay nothing
unfolding sound_bay is_empty half_of every
nothing-shows = record { is_sound = refl; empty = refl; edition = refl; count = refl }

pub state-edition : (en : Entry) → (state_of en).edition ≡ en.edition
unfolding state_of
state-edition en = refl

pub state-count : (en : Entry) → (state_of en).count ≡ entry_length en
unfolding state_of
state-count en = refl

entry-shows : (en : Entry) → Fine en → Shows (bay_of (state_of en)) (entry en)
entry-shows en f =
    let half = half-slot en f in
    let shaped = state-shaped en f in
    let is_sound = facts-sound (state_of en) shaped (state-facts en f) in
    record {
      is_sound = sound_bay-bay_of (state_of en) shaped is_sound;
      empty = taken-bay_of (state_of en) shaped is_sound;
      edition = ap (λ (h : HalfRead). h.edition) half ∙ state-edition en;
      count = ap (λ (h : HalfRead). h.count) half ∙ state-count en;
    }

slot-shows : (s : Slot) → FineSlot s → Shows (slot_bay s) s
slot-shows nothing f = nothing-shows
slot-shows (entry en) f = entry-shows en f

-- ---- the gate

pub not-not : (b : Bool) → not (not b) ≡ b
not-not true = refl
not-not false = refl

cond-in : (b : Bool) {n : ℕ} → cond b 2 n ≡ 0 → (b ≡ false) × (n ≡ 0)
cond-in true e = absurd (omega arith)
cond-in false e = (refl, e)

module _ {L : ℕ} {t : List ℕ} {l : List Slot} (f : Follows L t l) where
  abbrev pub at : ℕ → Slot
  at i = get_or l i nothing

  pub shown : (i : ℕ) → i < length l → Shows (bay_at t i) (at i)
  shown i h = rw (f.bays i h) (slot-shows (at i) (f.fine i))

  -- the tests after the gate decide, where the bay is one of the table's
  pub gated : (i : ℕ) (us vs : List Test) → (i < length l → first us ≡ first vs) →
      first (gate_tests t i ++ us) ≡ first ((2 when leb (length l) i) ∷ vs)
  unfolding first
  gated i us vs same = rw (f.header, f.count) (go (leb (length l) i) refl)
    where
      go : (b : Bool) → leb (length l) i ≡ b → cond b 2 (first us) ≡ cond b 2 (first vs)
      go true e = refl
      go false e = same (leb-false (length l) i e)

  -- a call that is done passed the gate and the tests after it
  pub passed-gate : (i : ℕ) (us : List Test) → first (gate_tests t i ++ us) ≡ 0 → (i < length l) × (first us ≡ 0)
  unfolding first
  passed-gate i us e =
      let r = cond-in (leb (length l) i) (rw (f.header, f.count) at e) in
      (leb-false (length l) i r.0, r.1)

  room : (i : ℕ) → i < length l → place_of i + bay_words ≤ length t
  room i h = bay-inside t i f.header (rw f.count h)

  -- ---- one bay anew

  pub put-follows : (i : ℕ) → i < length l → (s : Slot) → FineSlot s → Follows L (put_bay t i (slot_bay s)) (set l i s)
  put-follows i h s fine =
      let b = slot_bay s in
      let size = slot-length s fine in
      record {
        long = length-put_bay t i b size (room i h) ∙ f.long;
        header = headed-put_bay t i b size (room i h) ∙ f.header;
        count = bays_of-put_bay t i b size (room i h) ∙ f.count ∙ sym (length-set l i s);
        bays = each;
        fine = fines;
      }
    where
      each : (j : ℕ) → j < length (set l i s) → bay_at (put_bay t i (slot_bay s)) j ≡ slot_bay (get_or (set l i s) j nothing)
      each j k = go (ℕ_discrete j i)
        where
          go : Dec (j ≡ i) → bay_at (put_bay t i (slot_bay s)) j ≡ slot_bay (get_or (set l i s) j nothing)
          go (yes e) =
              rw (e, get_or-set_same l i s nothing h) (bay_at-put_bay t i (slot_bay s) (slot-length s fine) (room i h))
          go (no d) =
              rw (get_or-set_other l i j s nothing d)
              (bay_at-other t i (slot_bay s) (slot-length s fine) (room i h) j d ∙ f.bays j (omega (arith, length-set l i s)))

      fines : (j : ℕ) → FineSlot (get_or (set l i s) j nothing)
      fines j = go (ℕ_discrete j i)
        where
          go : Dec (j ≡ i) → FineSlot (get_or (set l i s) j nothing)
          go (yes e) = rw (e, get_or-set_same l i s nothing h) fine
          go (no d) = rw (get_or-set_other l i j s nothing d) (f.fine j)

-- ---- a table that is there

-- a bay that is sound is the words of the slot that it is read as
record Slotted (b : List ℕ) : Type 0 where
  same : b ≡ slot_bay (slot_of b)
  fine : FineSlot (slot_of b)

module _ (b : List ℕ) (fits : length b ≡ bay_words) (words : Below (2 ^ 64) b) (ok : sound_bay b ≡ true) where
  slotted : Slotted b
  unfolding slot_of
  slotted = go (is_empty b) refl
    where
      go : (e : Bool) → is_empty b ≡ e → Slotted b
      go true e = record { same = rw e (empty-zeros b fits e); fine = rw e tt }
      go false e =
          let h = half_of b in
          let shaped = shaped-half_of b fits words in
          let back = saved-loads h (sym (sound_bay-taken b e) ∙ ok) shaped in
          let bytes = record_of-bytes h shaped in
          record {
            same =
                rw e
                (sym (ap bay_of (loaded-state (record_of h) bytes back.1 ∙ back.0) ∙ bay_of-half_of b fits words));
            fine = rw e (loaded-fine (record_of h) bytes back.1);
          }

length-slots : (t : List ℕ) (i n : ℕ) → length (slots_of t i n) ≡ n
unfolding slots_of
length-slots t i zero = refl
length-slots t i (suc n) = ap suc (length-slots t (suc i) n)

slots_at : (t : List ℕ) (i n k : ℕ) → k < n → get_or (slots_of t i n) k nothing ≡ slot_of (bay_at t (i + k))
unfolding slots_of
slots_at t i zero k h = absurd (omega arith)
slots_at t i (suc n) zero h = ap (λ (j : ℕ). slot_of (bay_at t j)) (sym (add-zero i))
slots_at t i (suc n) (suc k) h =
    slots_at t (suc i) n k (omega arith) ∙ ap (λ (j : ℕ). slot_of (bay_at t j)) (omega arith)

-- the words of the bays are of 64 bits: those of the caller do not count
pub sound-follows : (t : List ℕ) → SoundTable t → ((i : ℕ) → i < bays_of t → Below (2 ^ 64) (bay_at t i)) →
    Follows (length t) t (ledger_of t)
unfolding ledger_of
sound-follows t s words =
    record { long = refl; header = s.header; count = sym size; bays = each; fine = fines }
  where
    n : ℕ
    n = bays_of t

    size : length (slots_of t 0 n) ≡ n
    size = length-slots t 0 n

    slot_is : (i : ℕ) → i < n → get_or (slots_of t 0 n) i nothing ≡ slot_of (bay_at t i)
    slot_is i h = slots_at t 0 n i h ∙ ap (λ (j : ℕ). slot_of (bay_at t j)) (zero-add i)

    one : (i : ℕ) → i < n → Slotted (bay_at t i)
    one i h = slotted (bay_at t i) (length-bay_at t i (bay-inside t i s.header h)) (words i h) (s.bays i h)

    each : (i : ℕ) → i < length (slots_of t 0 n) → bay_at t i ≡ slot_bay (get_or (slots_of t 0 n) i nothing)
    each i h =
        let k : i < n = omega (arith, size) in
        (one i k).same ∙ sym (ap slot_bay (slot_is i k))

    fines : (i : ℕ) → FineSlot (get_or (slots_of t 0 n) i nothing)
    fines i = go (dec_lt i n)
      where
        go : Dec (i < n) → FineSlot (get_or (slots_of t 0 n) i nothing)
        go (yes k) = subst FineSlot (sym (slot_is i k)) (one i k).fine
        go (no d) =
            subst FineSlot (sym (get_or-eq_default (slots_of t 0 n) nothing (omega (arith, size)))) tt

-- and a table that follows is sound
pub follows-sound : {L : ℕ} {t : List ℕ} {l : List Slot} → Follows L t l → SoundTable t
follows-sound f = record { header = f.header; bays = λ i h. (shown f i (omega (arith, f.count))).is_sound }

-- ---- a layout: every bay is empty, so that the ledger has nothing

empty-slot : slot_of empty_bay ≡ nothing
unfolding slot_of
empty-slot = rw zeros-empty

module _ (n : ℕ) (t : List ℕ) (r : room_for n (length t) ≡ true) where
  pub laid-sound : SoundTable (laid_out n t)
  laid-sound =
      record {
        header = headed-laid_out n t r;
        bays = λ i h. sound_bay-empty _ (ap is_empty (bay_at-laid_out n t i (omega (arith, bays_of-laid_out n t))) ∙ zeros-empty);
      }

  empty-slots : (i k : ℕ) → i + k ≤ n → slots_of (laid_out n t) i k ≡ replicate k nothing
  unfolding slots_of
  empty-slots i zero h = refl
  empty-slots i (suc k) h =
      ap₂ (λ (s : Slot) (l : List Slot). s ∷ l) (ap slot_of (bay_at-laid_out n t i (omega arith)) ∙ empty-slot)
      (empty-slots (suc i) k (omega arith))

  pub laid-ledger : ledger_of (laid_out n t) ≡ replicate n nothing
  unfolding ledger_of
  laid-ledger = rw (bays_of-laid_out n t) (empty-slots 0 n (omega arith))

  zero-words : (i : ℕ) → i < bays_of (laid_out n t) → Below (2 ^ 64) (bay_at (laid_out n t) i)
  zero-words i h =
      subst (Below (2 ^ 64)) (sym (bay_at-laid_out n t i (omega (arith, bays_of-laid_out n t)))) (below-replicate bay_words (omega arith))

  pub laid-follows : Follows (length t) (laid_out n t) (replicate n nothing)
  laid-follows =
      subst₂ (λ (k : ℕ) (l : List Slot). Follows k (laid_out n t) l) (length-laid_out n t (room_of n (length t) r).within) laid-ledger
      (sound-follows (laid_out n t) laid-sound zero-words)
