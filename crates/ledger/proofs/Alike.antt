-- `alike`: where two ledgers have the same record in every slot, no later call tells them apart. `counts-as`: so a message's record loaded
-- is as good as the message given. Both follow the one table that holds those records.
use Prim.Native.Nat.{ℕ, zero, suc, ◌-◌, ◌≤◌, ◌<◌}
use mathlib.Core.Bool.{true, false}
use mathlib.Core.List.{List, [], ◌++◌, append-nil}
use mathlib.Core.Path.{◌≡◌, refl, sym, ap, subst, subst₂, ◌∙◌}
use native.Mathlib.Decide.{ℕ_discrete}
use native.Mathlib.Nat.{le_refl, sub-zero, sub_self}
use native.Mathlib.Omega.{arith}
use lib.ListN.{length, take, get_or, set, replicate, length-set, length-append, length-replicate}
use lib.Seq.{take-length, take-suc, set_at, append_snoc, length-take-le, get_or-set_same, get_or-set_other}
use Rattle.slices.specs.Below.{Bytes}
use Rattle.fips.specs.Editions.{known}
use Rattle.dwsha2.specs.Limit.{too_long}
use Rattle.halfread.specs.State.{sound}
use Rattle.records.specs.Record.{record_of, loaded, is_record}
use Rattle.records.proofs.Records.{length-record_of, saved-loads, loaded-saves, record_of-bytes}
use Rattle.halfread.proofs.Soundness.{facts-sound}
use Rattle.slices.proofs.Tests.{holds_at}
use Rattle.bays.specs.Table.{bays_of, room_for, headed, laid_out, put_bay}
use Rattle.bays.specs.Bay.{bay_of}
use Rattle.calls.specs.Calls.{Call, lay_out, run}
use Rattle.ledger.specs.Ledger.{Entry, Fine, FineSlot, Slot, nothing, entry, opened_entry, loaded_entry, with, entry_record}
use Rattle.ledger.specs.Ledger.{slot_record, Ready, SameRecords}
use Rattle.ledger.specs.Promise.{AllPassed, said_of, slots_after}
use Rattle.ledger.specs.Records.{loads}
use Rattle.ledger.proofs.OwnRecord.{loads-agree}
use Rattle.ledger.proofs.Entries.{state_of, record-entry, state-facts, state-shaped, opened-fine, with-fine, loaded-state}
use Rattle.ledger.proofs.Entries.{loaded-fine}
use Rattle.ledger.proofs.Follows.{Follows, slot_bay, put-follows, laid-follows}
use Rattle.ledger.specs.Ends.{record_of_message}
use Rattle.ledger.proofs.Ledger.{follows-all, follows-after, laid}

-- ---- every ledger has a table

-- the slots up to k, the others still empty
abbrev up_to : List Slot → ℕ → List Slot
up_to l k = take k l ++ replicate (length l - k) nothing

one_more : (l : List Slot) (k : ℕ) → k < length l → set (up_to l k) k (get_or l k nothing) ≡ up_to l (suc k)
one_more l k h =
    let left : length l - k ≡ suc (length l - suc k) = omega arith in
    rw left
    (set_at (take k l) nothing (replicate (length l - suc k) nothing) (get_or l k nothing) k (length-take-le k l (omega arith))
    ∙ sym (append_snoc (take k l) (get_or l k nothing) (replicate (length l - suc k) nothing))
    ∙ ap (λ (x : List Slot). x ++ replicate (length l - suc k) nothing) (sym (take-suc l k nothing h)))

module _ (L : ℕ) (l : List Slot) (ready : Ready L l) where
  blank_table : List ℕ
  blank_table = replicate L 0

  room : room_for (length l) (length blank_table) ≡ true
  unfolding blank_table
  room = rw (length-replicate {A = ℕ} L 0) ready.room

  built : (k : ℕ) → k ≤ length l → (t : List ℕ) × Follows L t (up_to l k)
  unfolding blank_table
  built zero h = (
    laid_out (length l) blank_table,
    rw (sub-zero (length l))
        (subst (λ (n : ℕ). Follows n (laid_out (length l) blank_table) (replicate (length l) nothing)) (length-replicate {A = ℕ} L 0)
        (laid-follows (length l) blank_table room)),
  )
  built (suc k) h =
      let (t, f) = built k (omega arith) in
      let inside : k < length (up_to l k) =
      omega (
        arith,
        length-append (take k l) (replicate (length l - k) nothing),
        length-replicate {A = Slot}
            (length l - k) nothing,
        length-take-le k l (omega arith),
      ) in
      (put_bay t k (slot_bay (get_or l k nothing)), rw (← (one_more l k h)) (put-follows f k inside (get_or l k nothing) (ready.fine k)))

  pub table-for : (t : List ℕ) × Follows L t l
  table-for =
      let (t, f) = built (length l) (le_refl (length l)) in
      (t, subst (λ (m : List Slot). Follows L t m) whole f)
    where
      whole : up_to l (length l) ≡ l
      whole = rw (sub_self (length l), take-length l) (append-nil l)

-- ---- the same record is the same state

state-sound : (a : Entry) → Fine a → sound (state_of a) ≡ true
state-sound a f = facts-sound (state_of a) (state-shaped a f) (state-facts a f)

pub state-loads : (a : Entry) → Fine a → (loaded (entry_record a) ≡ state_of a) × (is_record (entry_record a) ≡ true)
state-loads a f = rw (record-entry a f) (saved-loads (state_of a) (state-sound a f) (state-shaped a f))

same-state : (a b : Entry) → Fine a → Fine b → entry_record a ≡ entry_record b → state_of a ≡ state_of b
same-state a b f g e =
    sym (state-loads a f).0 ∙ ap loaded e ∙ (state-loads b g).0

-- a record has some bytes
some_bytes : (a : Entry) → Fine a → [] ≡ entry_record a → ⊥
some_bytes a f e = omega (arith, ap length (e ∙ record-entry a f) ∙ length-record_of (state_of a) (state-shaped a f))

same-bay : (r s : Slot) → FineSlot r → FineSlot s → slot_record r ≡ slot_record s → slot_bay r ≡ slot_bay s
same-bay nothing nothing f g e = refl
same-bay nothing (entry b) f g e = absurd (some_bytes b g e)
same-bay (entry a) nothing f g e = absurd (some_bytes a f (sym e))
same-bay (entry a) (entry b) f g e = ap bay_of (same-state a b f g e)

-- a table follows every ledger with the records of one that it follows
follows-other : {L : ℕ} {t : List ℕ} {l m : List Slot} → Follows L t l → Ready L m → SameRecords l m → Follows L t m
follows-other {L} {t} {l} {m} f r s =
    record {
      long = f.long;
      header = f.header;
      count = f.count ∙ s.bays;
      bays = λ i h.
          f.bays i (omega (arith, s.bays)) ∙ same-bay (get_or l i nothing) (get_or m i nothing) (f.fine i) (r.fine i) (s.records i);
      fine = r.fine;
    }

pub alike : (L : ℕ) (l m : List Slot) → Ready L l → Ready L m → SameRecords l m → (calls : List Call) → AllPassed calls →
    said_of L l calls ≡ said_of L m calls
alike L l m a b s calls g =
    let (t, f) = table-for L l a in
    sym (follows-all f calls g) ∙ follows-all (follows-other f b s) calls g

headed-fits : (t : List ℕ) → headed t ≡ true → room_for (bays_of t) (length t) ≡ true
unfolding headed
headed-fits t e = holds_at _ e 0

-- a ledger that a table follows has room in it, and its entries are fine
pub follows-ready : {L : ℕ} {t : List ℕ} {l : List Slot} → Follows L t l → Ready L l
follows-ready {L} {t} {l} f =
    record { room = subst₂ (λ (n k : ℕ). room_for n k ≡ true) f.count f.long (headed-fits t f.header); fine = f.fine }

-- ---- a message's record loaded is as good as the message

-- one slot anew
set-ready : (L : ℕ) (l : List Slot) (i : ℕ) (s : Slot) → Ready L l → FineSlot s → i < length l → Ready L (set l i s)
set-ready L l i s r f h = record { room = rw (length-set l i s) r.room; fine = fines }
  where
    fines : (j : ℕ) → FineSlot (get_or (set l i s) j nothing)
    fines j = go (ℕ_discrete j i)
      where
        go : Dec (j ≡ i) → FineSlot (get_or (set l i s) j nothing)
        go (yes e) = rw (e, get_or-set_same l i s nothing h) f
        go (no d) = rw (get_or-set_other l i j s nothing d) (r.fine j)

set-records : (l : List Slot) (i : ℕ) (r s : Slot) → i < length l → slot_record r ≡ slot_record s → SameRecords (set l i r) (set l i s)
set-records l i r s h e = record { bays = length-set l i r ∙ sym (length-set l i s); records = each }
  where
    each : (j : ℕ) → slot_record (get_or (set l i r) j nothing) ≡ slot_record (get_or (set l i s) j nothing)
    each j = go (ℕ_discrete j i)
      where
        go : Dec (j ≡ i) → slot_record (get_or (set l i r) j nothing) ≡ slot_record (get_or (set l i s) j nothing)
        go (yes q) = rw (q, get_or-set_same l i r nothing h, get_or-set_same l i s nothing h) e
        go (no d) = rw (get_or-set_other l i j r nothing d, get_or-set_other l i j s nothing d)

-- the entry loaded from the record of a message, and the message itself
module _ (e : ℕ) (m : List ℕ) (k : known e ≡ true) (all : Bytes m) (short : too_long e 0 (length m) ≡ false) where
  abbrev given : Entry
  given = with (opened_entry e) m

  given-fine : Fine given
  given-fine = with-fine (opened_entry e) (opened-fine e k) m all short

  rec : List ℕ
  rec = record_of_message e m

  rec-bytes : Bytes rec
  unfolding rec
  rec-bytes = rw (record-entry given given-fine) (record_of-bytes (state_of given) (state-shaped given given-fine))

  rec-loads : is_record rec ≡ true
  unfolding rec
  rec-loads = (state-loads given given-fine).1

  pub message-loads : loads (record_of_message e m) ≡ true
  unfolding rec
  message-loads = loads-agree rec rec-bytes ∙ rec-loads

  loaded-record : slot_record (entry (loaded_entry rec)) ≡ slot_record (entry given)
  unfolding rec
  loaded-record =
      record-entry (loaded_entry rec) (loaded-fine rec rec-bytes rec-loads)
      ∙ ap record_of (loaded-state rec rec-bytes rec-loads)
      ∙ loaded-saves rec rec-loads

  module _ {L : ℕ} {l : List Slot} (r : Ready L l) (i : ℕ) (h : i < length l) where
    pub loaded-as : (calls : List Call) → AllPassed calls →
        said_of L (set l i (entry (loaded_entry (record_of_message e m)))) calls ≡ said_of L (set l i (entry given)) calls
    unfolding rec
    loaded-as calls g =
        alike L (set l i (entry (loaded_entry rec))) (set l i (entry given))
        (set-ready L l i (entry (loaded_entry rec)) r (loaded-fine rec rec-bytes rec-loads) h)
        (set-ready L l i (entry given) r given-fine h)
        (set-records l i (entry (loaded_entry rec)) (entry given) h loaded-record)
        calls g

    loaded-other : {t : List ℕ} → Follows L t (set l i (entry (loaded_entry (record_of_message e m)))) → Follows L t (set l i (entry given))
    unfolding rec
    loaded-other f =
        follows-other f (set-ready L l i (entry given) r given-fine h)
        (set-records l i (entry (loaded_entry rec)) (entry given) h loaded-record)

pub counts-as : (L : ℕ) (l : List Slot) (i e : ℕ) (m : List ℕ) → Ready L l → i < length l → known e ≡ true → Bytes m →
    too_long e 0 (length m) ≡ false → (calls : List Call) → AllPassed calls →
    said_of L (set l i (entry (loaded_entry (record_of_message e m)))) calls ≡ said_of L (set l i (entry (with (opened_entry e) m))) calls
counts-as L l i e m r h k all short calls g = loaded-as e m k all short r i h calls g

-- a table that follows the one follows the other
pub follows-loaded : {L : ℕ} {t u : List ℕ} {l : List Slot} → Follows L t l → (i : ℕ) → i < length l → (e : ℕ) (m : List ℕ) →
    known e ≡ true → Bytes m → too_long e 0 (length m) ≡ false → Follows L u (set l i (entry (loaded_entry (record_of_message e m)))) →
    Follows L u (set l i (entry (with (opened_entry e) m)))
follows-loaded f i h e m k all short g = loaded-other e m k all short (follows-ready f) i h g

-- ---- every ledger that calls reach is one that `alike` speaks of

pub reached-ready : (words : List ℕ) (n : ℕ) (calls : List Call) → AllPassed calls → (run words (lay_out n)).seen.answer ≡ 0 →
    Ready (length words) (slots_after (length words) (replicate n nothing) calls)
reached-ready words n calls g d = follows-ready (follows-after (laid words n d) calls g)
