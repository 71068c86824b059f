-- A message from its beginning to its digest or its record, among any other calls: `opened-writes`, `loaded-writes`, and of the functions
-- in src `code-opened-writes`, `code-loaded-writes`. In the ledger a bay keeps its entry, with what it is given, until a call that is done
-- ends it.
use Prim.Native.Nat.{ℕ, zero, suc, ◌<◌}
use mathlib.Core.Bool.{Bool, true, false, cond, false≢true}
use mathlib.Core.List.{List, [], ◌∷◌, ◌++◌, append_assoc, append-nil}
use mathlib.Core.Path.{◌≡◌, refl, sym, ap, subst, ◌∙◌}
use native.Mathlib.Omega.{arith}
use lib.Dec.{leb, eqb}
use lib.ListN.{length, get_or, set, length-set}
use lib.Seq.{get_or-set_same, get_or-set_other}
use borrow.Author.Tests.{eq-eqb, eqb-true, leb-false}
use Rattle.answers.specs.Judged.{first, after}
use Rattle.answers.proofs.Tests.{passed}
use Rattle.slices.specs.AtFront.{at_front}
use Rattle.fips.specs.Editions.{digest}
use Rattle.fips.specs.Message.{message}
use Rattle.calls.specs.Calls.{Call, lay_out, opening, adding, closing, saving, loading, asking, dropping, Seen}
use Rattle.ledger.specs.Ledger.{Entry, Slot, nothing, entry, opened_entry, loaded_entry, with, is_entry, slot_with, slot_digest}
use Rattle.ledger.specs.Ledger.{ledger_tests, kept, written, keep}
use Rattle.ledger.specs.Promise.{said_of, slots_after}
use Rattle.ledger.specs.Records.{loads}
use Rattle.ledger.specs.Sound.{SoundTable, ledger_of}
use Rattle.ledger.specs.Traces.{Doing, Trace}
use Rattle.ledger.specs.Code.{Did}
use Rattle.ledger.specs.Ends.{piece_for, ends_bay, given_to, Stays, record_of_message, OpenedWrites, LoadedWrites}
use Rattle.ledger.proofs.Follows.{Follows}
use Rattle.ledger.proofs.Ledger.{opened-digest}
use Rattle.ledger.proofs.Alike.{follows-loaded, message-loads}
use Rattle.ledger.proofs.Traces.{Faithful, did-seen, did-follows, did-sound, trace-seen, trace-follows, code-faithful}

-- ---- one bay in the ledger

-- bay i holds the entry, with p more
record Still (i : ℕ) (en : Entry) (l : List Slot) (p : List ℕ) : Type 0 where
  inside : i < length l
  held : get_or l i nothing ≡ entry (with en p)

more : (en : Entry) (p q : List ℕ) → with (with en p) q ≡ with en (p ++ q)
more en p q =
    ap (λ (s : List ℕ). record { edition = en.edition; start_words = en.start_words; before = en.before; since = s })
    (append_assoc en.since p q)

none_more : (en : Entry) → with en [] ≡ en
none_more en =
    ap (λ (s : List ℕ). record { edition = en.edition; start_words = en.start_words; before = en.before; since = s })
    (append-nil en.since)

module _ (L : ℕ) (l : List Slot) (i : ℕ) (h : i < length l) (en : Entry) (is : get_or l i nothing ≡ entry en) where
  same : Still i en l []
  same = record { inside = h; held = is ∙ ap entry (sym (none_more en)) }

  -- another bay put anew
  other : (j : ℕ) (s : Slot) → (i ≡ j → ⊥) → Still i en (set l j s) []
  other j s d =
      record { inside = omega (arith, length-set l j s); held = get_or-set_other l j i s nothing d ∙ same.held }

  -- a bay that is free, or has another number, is another one
  free : (j : ℕ) → is_entry (get_or l j nothing) ≡ false → i ≡ j → ⊥
  free j e q = false≢true (sym e ∙ ap (λ (k : ℕ). is_entry (get_or l k nothing)) (sym q) ∙ ap is_entry is)

  apart : (j : ℕ) → eqb j i ≡ false → i ≡ j → ⊥
  apart j e q = false≢true (sym e ∙ eq-eqb j i (sym q))

  given : (j : ℕ) (piece : List ℕ) (e : Bool) → eqb j i ≡ e → Still i en (set l j (slot_with (get_or l j nothing) piece)) (cond e piece [])
  given j piece true e =
      rw (eqb-true j i e)
      (record {
        inside = omega (arith, length-set l i (slot_with (get_or l i nothing) piece));
        held = get_or-set_same l i (slot_with (get_or l i nothing) piece) nothing h ∙ ap (λ (s : Slot). slot_with s piece) is;
      })
  given j piece false e = other j (slot_with (get_or l j nothing) piece) (apart j e)

  -- a call that is done and does not end it
  kept-still : (c : Call) → first (ledger_tests L l c) ≡ 0 → ends_bay i c ≡ false → Still i en (kept L l c) (piece_for i c)
  unfolding ledger_tests kept
  kept-still (lay_out n) z e = absurd (false≢true (sym e))
  kept-still (opening j k) z e = other j (entry (opened_entry k)) (free j (passed (ledger_tests L l (opening j k)) tt z 2))
  kept-still (adding j piece) z e = given j piece (eqb j i) refl
  kept-still (closing j x b out) z e = other j nothing (apart j e)
  kept-still (saving j out) z e = same
  kept-still (loading j bytes) z e = other j (entry (loaded_entry bytes)) (free j (passed (ledger_tests L l (loading j bytes)) tt z 2))
  kept-still (asking j) z e = same
  kept-still (dropping j) z e = other j nothing (apart j e)

  -- any call
  keep-still : (c : Call) → ((keep L l c).seen.answer ≡ 0 → ends_bay i c ≡ false) →
      Still i en (keep L l c).slots (after (keep L l c).seen.answer [] (piece_for i c))
  unfolding keep
  keep-still c stays = go (first (ledger_tests L l c)) (λ z. kept-still c z (stays z))
    where
      go : (n : ℕ) → (n ≡ 0 → Still i en (kept L l c) (piece_for i c)) → Still i en (after n l (kept L l c)) (after n [] (piece_for i c))
      go zero d = d refl
      go (suc n) d = same

  -- what closing it writes
  closing-writes : (x b : ℕ) (out : List ℕ) → (keep L l (closing i x b out)).seen.answer ≡ 0 →
      (keep L l (closing i x b out)).seen.output ≡ at_front (slot_digest (entry en) x b) out
  unfolding keep written
  closing-writes x b out z = rw (z, is)

-- a call that fills bay i and is done has put the entry there
filled : (L : ℕ) (l : List Slot) (c : Call) (i : ℕ) (s : Slot) → first (ledger_tests L l c) ≡ 0 → leb (length l) i ≡ false →
    kept L l c ≡ set l i s → (i < length l) × ((keep L l c).slots ≡ set l i s)
unfolding keep
filled L l c i s z inside e = (leb-false (length l) i inside, rw z e)

opening-puts : (L : ℕ) (l : List Slot) (i e : ℕ) → (keep L l (opening i e)).seen.answer ≡ 0 →
    (i < length l) × ((keep L l (opening i e)).slots ≡ set l i (entry (opened_entry e)))
unfolding keep ledger_tests kept
opening-puts L l i e z = filled L l (opening i e) i (entry (opened_entry e)) z (passed (ledger_tests L l (opening i e)) tt z 0) refl

loading-puts : (L : ℕ) (l : List Slot) (i : ℕ) (bytes : List ℕ) → (keep L l (loading i bytes)).seen.answer ≡ 0 →
    (i < length l) × ((keep L l (loading i bytes)).slots ≡ set l i (entry (loaded_entry bytes)))
unfolding keep ledger_tests kept
loading-puts L l i bytes z =
    filled L l (loading i bytes) i (entry (loaded_entry bytes)) z (passed (ledger_tests L l (loading i bytes)) tt z 0) refl

-- bytes that load are not refused as none
not-ten : (L : ℕ) (l : List Slot) (i : ℕ) (bytes : List ℕ) → loads bytes ≡ true → (keep L l (loading i bytes)).seen.answer ≡ 10 → ⊥
unfolding keep ledger_tests first
not-ten L l i bytes ok e = go (leb (length l) i) (is_entry (get_or l i nothing)) (rw ok at e)
  where
    go : (a b : Bool) → ◌≡◌ {A = ℕ} (cond a 2 (cond b 3 0)) 10 → ⊥
    go true b q = omega arith
    go false true q = omega arith
    go false false q = omega arith

-- any calls
all-still : (L : ℕ) (l : List Slot) (i : ℕ) → i < length l → (en : Entry) → get_or l i nothing ≡ entry en → (cs : List Call) →
    Stays i cs (said_of L l cs) → Still i en (slots_after L l cs) (given_to i cs (said_of L l cs))
unfolding said_of slots_after given_to
all-still L l i h en is [] st = same L l i h en is
all-still L l i h en is (c ∷ cs) st =
    let k = keep-still L l i h en is c st.0 in
    let p : List ℕ = after (keep L l c).seen.answer [] (piece_for i c) in
    let rest = all-still L (keep L l c).slots i k.inside (with en p) k.held cs st.1 in
    record { inside = rest.inside; held = rest.held ∙ ap entry (more en p (given_to i cs (said_of L (keep L l c).slots cs))) }

-- what closing and saving a message that was opened writes
module _ (i e : ℕ) where
  abbrev Law : Call → (List ℕ → List ℕ) → Type 0
  Law c wrote =
      (L : ℕ) (l : List Slot) (g : List ℕ) → i < length l → get_or l i nothing ≡ entry (with (opened_entry e) g) →
      (keep L l c).seen.answer ≡ 0 → (keep L l c).seen.output ≡ wrote g

  closing-law : (x b : ℕ) (out : List ℕ) → Law (closing i x b out) (λ g. at_front (digest e (message g x b)) out)
  closing-law x b out L l g h is z =
      closing-writes L l i h (with (opened_entry e) g) is x b out z ∙ ap (λ (d : List ℕ). at_front d out) (opened-digest e g x b)

  saving-law : (out : List ℕ) → Law (saving i out) (λ g. at_front (record_of_message e g) out)
  unfolding keep written
  saving-law out L l g h is z = rw (z, is)

-- ---- calls that were made

module _ (D : Doing) (faithful : Faithful D) where
  -- from a ledger in which bay i holds m bytes of a message that was opened
  ends : {L : ℕ} {t : List ℕ} {l : List Slot} → Follows L t l → (i : ℕ) → i < length l → (e : ℕ) (m : List ℕ) →
      get_or l i nothing ≡ entry (with (opened_entry e) m) → (c : Call) (wrote : List ℕ → List ℕ) → Law i e c wrote →
      (calls : List Call) (shown : List Seen) (u : List ℕ) → Trace D t calls shown u → Stays i calls shown →
      (z : Seen) (v : List ℕ) → D u c z v → z.answer ≡ 0 → z.output ≡ wrote (m ++ given_to i calls shown)
  ends {L} {t} {l} f i h e m is c wrote law calls shown u made stays z v did ok =
      let said = trace-seen D faithful f made in
      let seen = did-seen D faithful (trace-follows D faithful f made) did in
      let all : List ℕ = given_to i calls (said_of L l calls) in
      let still = all-still L l i h (with (opened_entry e) m) is calls (subst (Stays i calls) said stays) in
      ap (λ (s : Seen). s.output) seen
      ∙ law L (slots_after L l calls) (m ++ all) still.inside still.held (ap (λ (s : Seen). s.answer) (sym seen) ∙ ok)
      ∙ ap (λ (ss : List Seen). wrote (m ++ given_to i calls ss)) (sym said)

  answered : {L : ℕ} {t u : List ℕ} {l : List Slot} {c : Call} {s : Seen} → Follows L t l → D t c s u → s.answer ≡ 0 →
      (keep L l c).seen.answer ≡ 0
  answered f d z = ap (λ (y : Seen). y.answer) (sym (did-seen D faithful f d)) ∙ z

  pub opened-writes : OpenedWrites D
  opened-writes i e = (
    (λ x b out t t' s sound did z. from t t' s sound did z (closing i x b out) _ (closing-law i e x b out)),
    (λ out t t' s sound did z. from t t' s sound did z (saving i out) _ (saving-law i e out)),
  )
    where
      from : (t t' : List ℕ) (s : Seen) → SoundTable t → D t (opening i e) s t' → s.answer ≡ 0 →
          (c : Call) (wrote : List ℕ → List ℕ) → Law i e c wrote →
          (calls : List Call) (shown : List Seen) (u : List ℕ) → Trace D t' calls shown u → Stays i calls shown →
          (z : Seen) (v : List ℕ) → D u c z v → z.answer ≡ 0 → z.output ≡ wrote ([] ++ given_to i calls shown)
      from t t' s sound did z =
          let f = did-sound D faithful sound did in
          let put = opening-puts (length t) (ledger_of t) i e (answered f did z) in
          let g = subst (Follows (length t) t') put.1 (did-follows D faithful f did) in
          ends g i (omega (arith, put.0, length-set (ledger_of t) i (entry (opened_entry e)))) e []
          (get_or-set_same (ledger_of t) i (entry (opened_entry e)) nothing put.0)

  pub loaded-writes : LoadedWrites D
  loaded-writes i e m k all short = (
    (
      (λ x b out t t' s sound did z. from t t' s sound did z (closing i x b out) _ (closing-law i e x b out)),
      (λ out t t' s sound did z. from t t' s sound did z (saving i out) _ (saving-law i e out)),
    ),
    never,
  )
    where
      from : (t t' : List ℕ) (s : Seen) → SoundTable t → D t (loading i (record_of_message e m)) s t' → s.answer ≡ 0 →
          (c : Call) (wrote : List ℕ → List ℕ) → Law i e c wrote →
          (calls : List Call) (shown : List Seen) (u : List ℕ) → Trace D t' calls shown u → Stays i calls shown →
          (z : Seen) (v : List ℕ) → D u c z v → z.answer ≡ 0 → z.output ≡ wrote (m ++ given_to i calls shown)
      from t t' s sound did z =
          let f = did-sound D faithful sound did in
          let put = loading-puts (length t) (ledger_of t) i (record_of_message e m) (answered f did z) in
          let g = subst (Follows (length t) t') put.1 (did-follows D faithful f did) in
          ends (follows-loaded f i put.0 e m k all short g) i
          (omega (arith, put.0, length-set (ledger_of t) i (entry (with (opened_entry e) m)))) e m
          (get_or-set_same (ledger_of t) i (entry (with (opened_entry e) m)) nothing put.0)

      never : (t t' : List ℕ) (s : Seen) → SoundTable t → D t (loading i (record_of_message e m)) s t' → s.answer ≡ 10 → ⊥
      never t t' s sound did z =
          let f = did-sound D faithful sound did in
          not-ten (length t) (ledger_of t) i (record_of_message e m) (message-loads e m k all short)
          (ap (λ (y : Seen). y.answer) (sym (did-seen D faithful f did)) ∙ z)

pub code-opened-writes : OpenedWrites Did
code-opened-writes = opened-writes Did code-faithful

pub code-loaded-writes : LoadedWrites Did
code-loaded-writes = loaded-writes Did code-faithful
