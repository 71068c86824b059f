-- `callers-words`: what lies past the bays stays as it is, in one call on any table and over every sequence after a layout.
use Prim.Native.Nat.{ℕ, zero, suc, ◌+◌, ◌-◌, ◌*◌, ◌≤◌, ◌<◌}
use mathlib.Core.Bool.{Bool, true, false, not, cond}
use mathlib.Core.List.{List, [], ◌∷◌, ◌++◌}
use mathlib.Core.Path.{◌≡◌, refl, sym, ap, ◌∙◌}
use native.Mathlib.Omega.{arith}
use lib.Dec.{leb}
use lib.ListN.{length, drop, length-take, length-drop, length-replicate, length-set}
use lib.Seq.{drop-drop}
use borrow.Author.Tests.{leb-false}
use Rattle.answers.specs.Judged.{Test, first, after, lent}
use Rattle.bigendian.proofs.Words.{length-to_words}
use Rattle.fips.proofs.Rules.{length-start}
use Rattle.dwsha2.proofs.Absorbed.{length-absorbed}
use Rattle.halfread.specs.declared.HalfRead.{HalfRead}
use Rattle.halfread.specs.Steps.{opened, added, waiting}
use Rattle.records.specs.Record.{word_count, read_in, loaded}
use Rattle.bays.specs.Places.{place_of, bay_words}
use Rattle.bays.specs.Table.{bays_of, headed, put_bay, laid_out}
use Rattle.bays.specs.Bay.{half_of, bay_of, empty_bay}
use Rattle.calls.specs.Calls.{Call, lay_out, opening, adding, closing, saving, loading, asking, dropping, output_of, tests, leaves, run}
use Rattle.bays.specs.Gate.{half_at, gate_tests}
use Rattle.ledger.specs.Ledger.{Slot, nothing, keep, kept, ledger_tests}
use Rattle.ledger.specs.Promise.{AllPassed, table_of, reach, LaidWithin}
use Rattle.bays.proofs.Frames.{bay-inside, length-bay_at, drop-put_bay}
use Rattle.bays.proofs.LaidOut.{laid_out-past}
use Rattle.bays.proofs.Packing.{bay_of-long}
use Rattle.ledger.proofs.Follows.{Follows}
use Rattle.ledger.proofs.Ledger.{laid, still-follows}

-- ---- one call, on any table

-- a bay call that is done passed the gate
gate-in : (t : List ℕ) (i : ℕ) (us : List Test) → first (gate_tests t i ++ us) ≡ 0 → (headed t ≡ true) × (i < bays_of t)
unfolding first
gate-in t i us e = go (headed t) refl (leb (bays_of t) i) refl e
  where
    go : (a : Bool) → headed t ≡ a → (b : Bool) → leb (bays_of t) i ≡ b → cond (not a) 1 (cond b 2 (first us)) ≡ 0 →
        (headed t ≡ true) × (i < bays_of t)
    go true p true q r = absurd (omega arith)
    go true p false q r = (p, leb-false (bays_of t) i q)
    go false p b q r = absurd (omega arith)

-- one bay put into a table that has it
put-past : (t : List ℕ) (i m : ℕ) (b : List ℕ) → length b ≡ bay_words → (headed t ≡ true) × (i < bays_of t) → bays_of t ≤ m →
    drop (place_of m) (put_bay t i b) ≡ drop (place_of m) t
put-past t i m b fits g h = drop-put_bay t i b fits (bay-inside t i g.0 g.1) (place_of m) (omega (arith, g.1))

eight-words : (t : List ℕ) (i : ℕ) → (headed t ≡ true) × (i < bays_of t) → length (half_at t i).words ≡ 8
unfolding half_of
eight-words t i g =
    simp (length-take, length-drop) (omega (arith, length-bay_at t i (bay-inside t i g.0 g.1)))

opened-eight : (e : ℕ) → length (opened e).words ≡ 8
unfolding opened
opened-eight e = length-start e

added-eight : (h : HalfRead) (piece : List ℕ) → length h.words ≡ 8 → length (added h piece).words ≡ 8
unfolding added
added-eight h piece e = length-absorbed h.edition h.words (waiting h piece) e

loaded-eight : (bytes : List ℕ) → length (loaded bytes).words ≡ 8
unfolding read_in
loaded-eight bytes = length-to_words word_count _ _

laid-past : (n m : ℕ) (t : List ℕ) → n ≤ m → drop (place_of m) (laid_out n t) ≡ drop (place_of m) t
laid-past n m t h =
    let k = bay_words * (m - n) in
    let e : place_of m ≡ place_of n + k = omega arith in
    rw e (sym (drop-drop k (place_of n) (laid_out n t)) ∙ ap (drop k) (laid_out-past n t) ∙ drop-drop k (place_of n) t)

leaves-past : (t : List ℕ) (c : Call) (m : ℕ) → reach t c ≤ m → first (tests t c) ≡ 0 →
    drop (place_of m) (leaves t c).table ≡ drop (place_of m) t
unfolding tests leaves
leaves-past t (lay_out n) m h e = laid-past n m t h
leaves-past t (opening i k) m h e = put-past t i m (bay_of (opened k)) (bay_of-long (opened k) (opened-eight k)) (gate-in t i _ e) h
leaves-past t (adding i piece) m h e =
    let g = gate-in t i _ e in
    put-past t i m _ (bay_of-long _ (added-eight (half_at t i) piece (eight-words t i g))) g h
leaves-past t (closing i x b out) m h e = put-past t i m empty_bay refl (gate-in t i _ e) h
leaves-past t (saving i out) m h e = refl
leaves-past t (loading i bytes) m h e = put-past t i m (bay_of (loaded bytes)) (bay_of-long (loaded bytes) (loaded-eight bytes))
    (gate-in t i _ e) h
leaves-past t (asking i) m h e = refl
leaves-past t (dropping i) m h e = put-past t i m empty_bay refl (gate-in t i _ e) h

-- a call keeps what lies past the bays that it reaches: the table's, or those that it lays out
pub callers-words : (t : List ℕ) (c : Call) (m : ℕ) → reach t c ≤ m → drop (place_of m) (run t c).table ≡ drop (place_of m) t
unfolding run
callers-words t c m h = go (first (tests t c)) (leaves-past t c m h)
  where
    go : (n : ℕ) → (n ≡ 0 → drop (place_of m) (leaves t c).table ≡ drop (place_of m) t) →
        drop (place_of m) (after n (lent t (output_of c)) (leaves t c)).table ≡ drop (place_of m) t
    go zero d = d refl
    go (suc n) d = refl

-- ---- every sequence after a layout

-- how many bays a ledger keeps after a call
kept-within : (L : ℕ) (l : List Slot) (c : Call) (m : ℕ) → length l ≤ m → reach (m ∷ []) c ≤ m → length (kept L l c) ≤ m
unfolding kept
kept-within L l (lay_out n) m h r = rw (length-replicate n nothing) r
kept-within L l (opening i e) m h r = simp length-set h
kept-within L l (adding i piece) m h r = simp length-set h
kept-within L l (closing i x b out) m h r = simp length-set h
kept-within L l (saving i out) m h r = h
kept-within L l (loading i bytes) m h r = simp length-set h
kept-within L l (asking i) m h r = h
kept-within L l (dropping i) m h r = simp length-set h

slots-within : (L : ℕ) (l : List Slot) (c : Call) (m : ℕ) → length l ≤ m → reach (m ∷ []) c ≤ m → length (keep L l c).slots ≤ m
unfolding keep
slots-within L l c m h r = go (first (ledger_tests L l c))
  where
    go : (n : ℕ) → length (after n l (kept L l c)) ≤ m
    go zero = kept-within L l c m h r
    go (suc n) = h

reached : (t : List ℕ) (c : Call) (m : ℕ) → bays_of t ≤ m → reach (m ∷ []) c ≤ m → reach t c ≤ m
reached t (lay_out n) m h r = r
reached t (opening i e) m h r = h
reached t (adding i piece) m h r = h
reached t (closing i x b out) m h r = h
reached t (saving i out) m h r = h
reached t (loading i bytes) m h r = h
reached t (asking i) m h r = h
reached t (dropping i) m h r = h

past_all : {L : ℕ} {t : List ℕ} {l : List Slot} → Follows L t l → (m : ℕ) → length l ≤ m → (calls : List Call) → AllPassed calls →
    LaidWithin m calls →
    drop (place_of m) (table_of t calls) ≡ drop (place_of m) t
unfolding table_of
past_all f m h [] g w = refl
past_all {L} {t} {l} f m h (c ∷ cs) g w =
    past_all {t = (run t c).table} (still-follows f c g.0) m (slots-within L l c m h w.0) cs g.1 w.1
    ∙ callers-words t c m (reached t c m (rw f.count h) w.0)

-- the words past the most bays that were laid out are at the end what they were at the beginning
pub callers-words-all : (words : List ℕ) (n m : ℕ) (calls : List Call) → AllPassed calls → (run words (lay_out n)).seen.answer ≡ 0 →
    n ≤ m → LaidWithin m calls → drop (place_of m) (table_of (run words (lay_out n)).table calls) ≡ drop (place_of m) words
callers-words-all words n m calls g d h w =
    past_all (laid words n d) m (rw (length-replicate n nothing) h) calls g w ∙ callers-words words (lay_out n) m h
