-- Laws for a client of the calls, one for each call that changes something or writes: SPEC, "The plain ledger". A table that follows a
-- ledger still does after a call that the ledger does not refuse, by the call's own contract; after a save and a close the output is what
-- the entry gives, and after a load of an entry's record that entry is back.
use Prim.Native.Nat.{ℕ, ◌+◌, ◌%◌, ◌<◌, ◌≤◌}
use mathlib.Core.Bool.{true, false}
use mathlib.Core.List.{List, []}
use mathlib.Core.Path.{◌≡◌, sym, ap, subst, ◌∙◌}
use lib.ListN.{length, get_or, set, replicate}
use borrow.Author.Tests.{le-ltb, lt-leb}
use Rattle.answers.specs.Judged.{first, Lent, lent}
use Rattle.slices.specs.AtFront.{at_front}
use Rattle.fips.specs.Words.{block_bytes}
use Rattle.fips.specs.Editions.{known, width, digest_bytes}
use Rattle.dwsha2.specs.Limit.{too_long}
use Rattle.dwsha2.specs.Closing.{closing_fits}
use Rattle.halfread.specs.declared.HalfRead.{HalfRead}
use Rattle.records.specs.Record.{newest, tail_at, loaded, is_record}
use Rattle.records.proofs.Records.{length-record_of}
use Rattle.bays.specs.Table.{room_for, laid_out, put_bay}
use Rattle.bays.specs.Bay.{bay_of}
use Rattle.calls.specs.Calls.{Call, lay_out, opening, adding, closing, saving, loading, dropping, Lends, tests, leaves, Outcome}
use Rattle.ledger.specs.Ledger.{Entry, Fine, Slot, nothing, entry, opened_entry, with, entry_length, entry_record, entry_digest}
use Rattle.ledger.specs.Ledger.{slot_with, ledger_tests, kept, written}
use Rattle.ledger.proofs.Entries.{state_of, state-shaped, record-entry}
use Rattle.ledger.proofs.Follows.{Follows, shown, put-follows, laid-follows}
use Rattle.ledger.proofs.CallByCall.{step}
use Rattle.ledger.proofs.Alike.{state-loads}

-- a call that was made, as its contract tells it
abbrev pub Called : List ℕ → Call → ℕ → List ℕ → List ℕ → Type 0
Called t c n u o = Outcome t c n u o × Lends t c

-- a record has its tail behind the words, and as many bytes there as wait
pub record-length : (en : Entry) → Fine en →
    length (entry_record en) ≡ tail_at newest en.edition + entry_length en % block_bytes (width en.edition)
unfolding state_of
record-length en fine = ap length (record-entry en fine) ∙ length-record_of (state_of en) (state-shaped en fine)

-- a layout that fits
pub after-layout : (t : List ℕ) (n : ℕ) → room_for n (length t) ≡ true → {r : ℕ} {u : List ℕ} → Called t (lay_out n) r u [] →
    Follows (length t) u (replicate n nothing)
unfolding tests leaves first
after-layout t n room {u = u} j =
    let e : lent u [] ≡ lent (laid_out n t) [] = j.0.leaves ∙ rw room in
    subst (λ (x : Lent). Follows (length t) x.table (replicate n nothing)) (sym e) (laid-follows n t room)

module _ {L : ℕ} {t : List ℕ} {l : List Slot} (f : Follows L t l) where
  -- any call that the ledger does not refuse
  goes_on : (c : Call) {r : ℕ} {u o : List ℕ} → Called t c r u o → first (ledger_tests L l c) ≡ 0 →
      Follows L u (kept L l c) × (o ≡ written L l c)
  goes_on c {u = u} {o = o} j z =
      let s = step f c j.1.1 in
      let none : first (tests t c) ≡ 0 = s.answer ∙ z in
      let e : lent u o ≡ leaves t c = j.0.leaves ∙ rw none in
      let d = s.done none in (
        subst (λ (x : Lent). Follows L x.table (kept L l c)) (sym e) d.follows,
        ap (λ (x : Lent). x.output) e ∙ d.output,
      )

  module _ (i : ℕ) (h : i < length l) {r : ℕ} {u : List ℕ} where
    module _ (is : get_or l i nothing ≡ nothing) where
      pub after_open : (e : ℕ) → known e ≡ true → Called t (opening i e) r u [] → Follows L u (set l i (entry (opened_entry e)))
      unfolding ledger_tests kept first
      after_open e k j = (goes_on (opening i e) j (rw (lt-leb (length l) i h, k, is))).0

      pub after-load : (en : Entry) → Fine en → (bytes : List ℕ) → bytes ≡ entry_record en → Called t (loading i bytes) r u [] →
          Follows L u (set l i (entry en))
      unfolding tests leaves first
      after-load en fine bytes same j =
          let back = state-loads en fine in
          let s = shown f i h in
          let none : first (tests t (loading i bytes)) ≡ 0 =
          rw (f.header, f.count, lt-leb (length l) i h, ap is_record same ∙ back.1, s.is_sound, s.empty, is) in
          let e : lent u [] ≡ lent (put_bay t i (bay_of (state_of en))) [] =
          j.0.leaves ∙ (rw none) ∙ ap (λ (x : HalfRead). lent (put_bay t i (bay_of x)) []) (ap loaded same ∙ back.0) in
          subst (λ (x : Lent). Follows L x.table (set l i (entry en))) (sym e) (put-follows f i h (entry en) fine)

    module _ (en : Entry) (is : get_or l i nothing ≡ entry en) where
      pub after-add : (piece : List ℕ) → too_long en.edition (entry_length en) (length piece) ≡ false →
          Called t (adding i piece) r u [] → Follows L u (set l i (entry (with en piece)))
      unfolding ledger_tests kept first
      after-add piece short j =
          subst (λ (s : Slot). Follows L u (set l i (slot_with s piece))) is
          (goes_on (adding i piece) j (rw (lt-leb (length l) i h, is, short))).0

      pub after-drop : Called t (dropping i) r u [] → Follows L u (set l i nothing)
      unfolding ledger_tests kept first
      after-drop j = (goes_on (dropping i) j (rw (lt-leb (length l) i h, is))).0

      module _ (out : List ℕ) {to : List ℕ} where
        pub after-save : length (entry_record en) ≤ length out → Called t (saving i out) r u to →
            Follows L u l × (to ≡ at_front (entry_record en) out)
        unfolding ledger_tests kept written first
        after-save short j =
            let fits = le-ltb (length out) (length (entry_record en)) short in
            let o = goes_on (saving i out) j (rw (lt-leb (length l) i h, is, fits)) in
            (o.0, o.1 ∙ rw is)

        pub after-close : (x b : ℕ) → closing_fits x b ≡ true → digest_bytes en.edition ≤ length out →
            Called t (closing i x b out) r u to → Follows L u (set l i nothing) × (to ≡ at_front (entry_digest en x b) out)
        unfolding ledger_tests kept written first
        after-close x b few short j =
            let fits = le-ltb (length out) (digest_bytes en.edition) short in
            let o = goes_on (closing i x b out) j (rw (lt-leb (length l) i h, is, few, fits)) in
            (o.0, o.1 ∙ rw is)
