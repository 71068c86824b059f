-- The C names keep the ledger's promise: `c-ledger` after a layout, `c-ledger-sound` from any sound table, `c-opened-writes` and
-- `c-loaded-writes` from a message's beginning to its digest, each over the C functions' own contracts; and there are such calls,
-- `c-traced`.
use Prim.Native.Nat.{ℕ, ◌^◌}
use mathlib.Core.List.{List, []}
use mathlib.Core.Path.{refl}
use denote.Ref.{MutBor}
use Rattle.answers.specs.Numbers.{number_of}
use Rattle.slices.specs.Below.{Below}
use Rattle.calls.specs.Calls.{Call, lay_out, opening, adding, closing, saving, loading, asking, dropping, Lends, leaves, tells, Seen}
use Rattle.ledger.specs.Promise.{AllPassed}
use Rattle.ledger.specs.Traces.{FromSound, FromLayout, StaySound, LaySound, RefusedKeeps, CallersKept}
use Rattle.ledger.specs.Ends.{OpenedWrites, LoadedWrites}
use Rattle.ledger.proofs.Traces.{Faith, Faithful, outcome-faith, ask-faith, from-sound, from-layout, stays-sound, lays_sound}
use Rattle.ledger.proofs.Kept.{refused-keeps, callers-kept}
use Rattle.ledger.proofs.Ends.{opened-writes, loaded-writes}
use Rattle.ledger.proofs.Traced.{Some, some, call, Traced, answered, left, says, both, alone, kept, asked, slice, lent_slice, traced}
use Rattle.cledger.specs.Code.{Did, lay-out-did, open-did, add-did, close-did, save-did, load-did, ask-did, drop-did}

c-faith : {t u : List ℕ} {c : Call} {s : Seen} → Did t c s u → Faith t c s u
unfolding tells
c-faith (lay-out-did m) = outcome-faith refl m.learnt
c-faith (open-did m) = outcome-faith refl m.learnt
c-faith (add-did m) = outcome-faith refl m.learnt
c-faith (close-did m) = outcome-faith refl m.learnt
c-faith (save-did m) = outcome-faith refl m.learnt
c-faith (load-did m) = outcome-faith refl m.learnt
c-faith (ask-did m) = ask-faith m.learnt
c-faith (drop-did m) = outcome-faith refl m.learnt

pub c-faithful : Faithful Did
c-faithful t c s u d = c-faith d

pub c-ledger : FromLayout Did
c-ledger = from-layout Did c-faithful

pub c-ledger-sound : FromSound Did
c-ledger-sound = from-sound Did c-faithful

pub c-stays-sound : StaySound Did
c-stays-sound = stays-sound Did c-faithful

pub c-lays-sound : LaySound Did
c-lays-sound = lays_sound Did c-faithful

pub c-refused-keeps : RefusedKeeps Did
c-refused-keeps = refused-keeps Did c-faithful

pub c-callers-kept : CallersKept Did
c-callers-kept = callers-kept Did c-faithful

pub c-opened-writes : OpenedWrites Did
c-opened-writes = opened-writes Did c-faithful

pub c-loaded-writes : LoadedWrites Did
c-loaded-writes = loaded-writes Did c-faithful

-- ---- there are such calls

abbrev word : ℕ → MutBor ℕ
word n = record { ref_ptr = (0, 0); ghost_name = 0; now = n }

c-some : (t : List ℕ) (c : Call) → Lends t c → Some Did t c
unfolding leaves
c-some t (lay_out n) l =
    let c = lay_out n in
    some Did (lay-out-did (call ([], tt) (lent_slice t, (n, tt)) (number_of (answered t c)) ((left t c).table, (tt, tt))
    (alone t c refl refl, l)))
c-some t (opening i e) l =
    let c = opening i e in
    some Did (open-did
    (call ([], tt) (lent_slice t, (i, (e, tt))) (number_of (answered t c))
    ((left t c).table, (tt, (tt, tt))) (alone t c refl refl, l)))
c-some t (adding i piece) l =
    let c = adding i piece in
    some Did (add-did
    (call ([], ([], tt)) (lent_slice t, (i, (slice piece, tt))) (number_of (answered t c))
    ((left t c).table, (tt, (tt, tt))) (alone t c refl refl, l)))
c-some t (closing i x b out) l =
    let c = closing i x b out in
    some Did (close-did
    (call ([], ([], tt)) (lent_slice t, (i, (x, (b, (lent_slice out, tt))))) (number_of (answered t c))
    ((left t c).table, (tt, (tt, (tt, ((left t c).output, tt))))) (both t c, l)))
c-some t (saving i out) l =
    let c = saving i out in
    some Did (save-did
    (call ([], ([], tt)) (slice t, (i, (lent_slice out, tt))) (number_of (answered t c))
    (tt, (tt, ((left t c).output, tt))) (kept t c refl, l)))
c-some t (loading i bytes) l =
    let c = loading i bytes in
    some Did (load-did
    (call ([], ([], tt)) (lent_slice t, (i, (slice bytes, tt))) (number_of (answered t c))
    ((left t c).table, (tt, (tt, tt))) (alone t c refl refl, l)))
c-some t (asking i) l =
    let c = asking i in
    some Did (ask-did
    (call ([], ([], ([], tt))) (slice t, (i, (word 0, (word 0, tt)))) (number_of (answered t c))
    (tt, (tt, ((says t c).edition, ((says t c).count, tt)))) (asked t i, l)))
c-some t (dropping i) l =
    let c = dropping i in
    some Did (drop-did (call ([], tt) (lent_slice t, (i, tt)) (number_of (answered t c)) ((left t c).table, (tt, tt))
    (alone t c refl refl, l)))

pub c-traced : (t : List ℕ) → Below (2 ^ 64) t → (calls : List Call) → AllPassed calls → Traced Did t calls
c-traced = traced Did c-faithful c-some
