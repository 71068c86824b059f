-- The night step by step, by what the contracts of its calls say: what the bays hold after each step. `laid-held` and `saved-half` lead to
-- the record of the half-read file; `taken-up`, `gone-on` and `closed_all` from that record to the standard's digests.
use Prim.Native.Nat.{ℕ, ◌≤◌}
use mathlib.Core.Bool.{true, false}
use mathlib.Core.List.{List, [], ◌∷◌, ◌++◌}
use mathlib.Core.Path.{◌≡◌, refl, sym, ap, ap₂, subst, ◌∙◌}
use native.Mathlib.Nat.{zero-add}
use native.Mathlib.Omega.{arith}
use lib.ListN.{length, take, drop, length-append, length-take, length-drop, take-append-drop}
use lib.Seq.{take_all, take_at}
use Rattle.slices.specs.AtFront.{at_front}
use Rattle.slices.specs.Below.{Bytes}
use Rattle.slices.specs.Parts.{part}
use Rattle.slices.proofs.AtFront.{at_front-room}
use Rattle.slices.proofs.Below.{below-take}
use Rattle.fips.specs.Editions.{known}
use Rattle.dwsha2.specs.Limit.{too_long}
use Rattle.dwsha2.specs.Closing.{closing_fits}
use Rattle.dwsha2.proofs.Limits.{same_sum, shorter}
use Rattle.bays.specs.Table.{room_for}
use Rattle.calls.specs.Calls.{lay_out, opening, adding, closing, saving, loading}
use Rattle.ledger.specs.Ledger.{Fine, Slot, nothing, opened_entry, with, entry_length, entry_digest}
use Rattle.ledger.specs.Ends.{record_of_message}
use Rattle.ledger.proofs.Entries.{with-fine, opened-fine}
use Rattle.ledger.proofs.Follows.{Follows}
use Rattle.ledger.proofs.Ledger.{opened-digest}
use Rattle.ledger.proofs.Client.{Called, record-length, after-layout, after_open, after-add, after-save, after-load, after-close}
use Rattle.night.specs.Night.{digests, record_room, digest_at_front, file_digests}
use Rattle.night.specs.Code.Held.{holding, Held, Fitting, Roomy}

here : {L : ℕ} {t : List ℕ} {l : List Slot} → Follows L t l → Follows (length t) t l
here {t = t} {l = l} f = subst (λ (k : ℕ). Follows k t l) (sym f.long) f

-- ---- a message in two pieces

two-pieces : (m x y : List ℕ) (cut : ℕ) → x ≡ part m 0 cut → y ≡ part m cut (length m) → x ++ y ≡ m
two-pieces m x y cut p q =
    ap₂ (λ (u v : List ℕ). u ++ v) p (q ∙ take_all (length m) (drop cut m) (omega (arith, length-drop cut m))) ∙ take-append-drop cut m

module _ (e : ℕ) where
  -- the first piece is not too long
  piece-short : (m x : List ℕ) (cut : ℕ) → x ≡ part m 0 cut → too_long e 0 (length m) ≡ false → too_long e 0 (length x) ≡ false
  piece-short m x cut is short =
      shorter e 0 (length m) short (length x) (omega (arith, ap (length {A = ℕ}) is, length-take cut m))

  -- nor is the second behind it
  fits-behind : (m x y : List ℕ) → x ++ y ≡ m → too_long e 0 (length m) ≡ false →
      too_long e (entry_length (with (opened_entry e) x)) (length y) ≡ false
  fits-behind m x y whole short =
      same_sum e (entry_length (with (opened_entry e) x)) (length y) 0 (length m)
      (omega (arith, length-append x y, ap (length {A = ℕ}) whole))
      ∙ short

  pieces-fit : {a b c x y z : List ℕ} (cut : ℕ) → Fitting e a b c → x ≡ part a 0 cut → y ≡ part b 0 cut → z ≡ part c 0 cut →
      Fitting e x y z
  pieces-fit {a} {b} {c} {x} {y} {z} cut fit p q r =
      record {
        is_known = fit.is_known;
        short_a = piece-short a x cut p fit.short_a;
        short_b = piece-short b y cut q fit.short_b;
        short_c = piece-short c z cut r fit.short_c;
      }

-- ---- the evening

pub laid-held : {t0 t1 t2 t3 : List ℕ} {r0 r1 r2 : ℕ} (e : ℕ) →
    Called t0 (lay_out 3) r0 t1 [] → Called t1 (opening 1 e) r1 t2 [] → Called t2 (opening 2 e) r2 t3 [] →
    room_for 3 (length t0) ≡ true → known e ≡ true → Held t3 nothing (holding e []) (holding e [])
laid-held {t0} e o0 o1 o2 room k =
    let f1 = after-layout t0 3 room o0 in
    let f2 = after_open f1 1 (omega arith) refl e k o1 in
    here (after_open f2 2 (omega arith) refl e k o2)

-- the front of what was saved is the record
front-saved : (bytes out : List ℕ) (n : ℕ) → length bytes ≡ n → n ≤ length out → take n (at_front bytes out) ≡ bytes
front-saved bytes out n e h = rw (at_front-room bytes out (omega arith)) (take_at bytes (drop (length bytes) out) n e)

-- whatever came into the other bays, the record is of what came into the first
saved-first : {t0 t1 t2 t3 t4 t5 to : List ℕ} {r0 r1 r2 r3 r4 : ℕ} (e : ℕ) (a b c saved : List ℕ) → Fitting e a b c →
    Held t0 nothing (holding e []) (holding e []) →
    Called t0 (opening 0 e) r0 t1 [] → Called t1 (adding 1 b) r1 t2 [] → Called t2 (adding 0 a) r2 t3 [] →
    Called t3 (adding 2 c) r3 t4 [] → Called t4 (saving 0 saved) r4 t5 to →
    record_room e (length a) ≤ length saved → take (record_room e (length a)) to ≡ record_of_message e a
saved-first e a b c saved fit f0 o0 o1 o2 o3 o4 room =
    let f1 = after_open f0 0 (omega arith) refl e fit.is_known o0 in
    let f2 = after-add f1 1 (omega arith) (opened_entry e) refl b fit.short_b o1 in
    let f3 = after-add f2 0 (omega arith) (opened_entry e) refl a fit.short_a o2 in
    let f4 = after-add f3 2 (omega arith) (opened_entry e) refl c fit.short_c o3 in
    let en = with (opened_entry e) a in
    let size : length (record_of_message e a) ≡ record_room e (length a) =
    record-length en (f4.fine 0) ∙ ap (record_room e) (zero-add (length a)) in
    ap (take (record_room e (length a))) (after-save f4 0 (omega arith) en refl saved (omega arith) o4).1
    ∙ front-saved (record_of_message e a) saved (record_room e (length a)) size room

-- so it is of the first bytes of the first file
pub saved-half : {t0 t1 t2 t3 t4 t5 to : List ℕ} {r0 r1 r2 r3 r4 : ℕ} (e cut : ℕ) (a b c x y z saved : List ℕ) →
    x ≡ part a 0 cut → y ≡ part b 0 cut → z ≡ part c 0 cut → Fitting e a b c → Held t0 nothing (holding e []) (holding e []) →
    Called t0 (opening 0 e) r0 t1 [] → Called t1 (adding 1 y) r1 t2 [] → Called t2 (adding 0 x) r2 t3 [] →
    Called t3 (adding 2 z) r3 t4 [] → Called t4 (saving 0 saved) r4 t5 to →
    record_room e (length (take cut a)) ≤ length saved →
    take (record_room e (length (take cut a))) to ≡ record_of_message e (take cut a)
saved-half {to = to} e cut a b c x y z saved is_x is_y is_z fit f o0 o1 o2 o3 o4 =
    subst (λ (m : List ℕ). record_room e (length m) ≤ length saved → take (record_room e (length m)) to ≡ record_of_message e m) is_x
    (saved-first e x y z saved (pieces-fit e cut fit is_x is_y is_z) f o0 o1 o2 o3 o4)

-- ---- the morning

pub taken-up : {t0 t1 : List ℕ} {r : ℕ} (e cut : ℕ) (a b c saved : List ℕ) → Bytes a → Fitting e a b c →
    Held t0 nothing (holding e []) (holding e []) → saved ≡ record_of_message e (take cut a) → Called t0 (loading 0 saved) r t1 [] →
    Held t1 (holding e (take cut a)) (holding e []) (holding e [])
taken-up e cut a b c saved all fit f same o =
    let half : List ℕ = take cut a in
    let fine : Fine (with (opened_entry e) half) =
    with-fine (opened_entry e) (opened-fine e fit.is_known) half (below-take cut a all) (piece-short e a half cut refl fit.short_a) in
    here (after-load f 0 (omega arith) refl (with (opened_entry e) half) fine saved same o)

pub gone-on : {t0 t1 t2 t3 t4 t5 : List ℕ} {r1 r2 r3 r4 r5 : ℕ} (e cut : ℕ) (a b c a2 b1 b2 c1 c2 : List ℕ) →
    a2 ≡ part a cut (length a) → b1 ≡ part b 0 cut → b2 ≡ part b cut (length b) → c1 ≡ part c 0 cut → c2 ≡ part c cut (length c) →
    Fitting e a b c → Held t0 (holding e (take cut a)) (holding e []) (holding e []) →
    Called t0 (adding 1 b1) r1 t1 [] → Called t1 (adding 0 a2) r2 t2 [] → Called t2 (adding 2 c1) r3 t3 [] →
    Called t3 (adding 1 b2) r4 t4 [] → Called t4 (adding 2 c2) r5 t5 [] → Held t5 (holding e a) (holding e b) (holding e c)
gone-on {t5 = t5} e cut a b c a2 b1 b2 c1 c2 is_a2 is_b1 is_b2 is_c1 is_c2 fit f0 o1 o2 o3 o4 o5 =
    let a1 : List ℕ = take cut a in
    let whole_a = two-pieces a a1 a2 cut refl is_a2 in
    let whole_b = two-pieces b b1 b2 cut is_b1 is_b2 in
    let whole_c = two-pieces c c1 c2 cut is_c1 is_c2 in
    let f1 = after-add f0 1 (omega arith) (opened_entry e) refl b1 (piece-short e b b1 cut is_b1 fit.short_b) o1 in
    let f2 = after-add f1 0 (omega arith) (with (opened_entry e) a1) refl a2 (fits-behind e a a1 a2 whole_a fit.short_a) o2 in
    let f3 = after-add f2 2 (omega arith) (opened_entry e) refl c1 (piece-short e c c1 cut is_c1 fit.short_c) o3 in
    let f4 = after-add f3 1 (omega arith) (with (opened_entry e) b1) refl b2 (fits-behind e b b1 b2 whole_b fit.short_b) o4 in
    let f5 = after-add f4 2 (omega arith) (with (opened_entry e) c1) refl c2 (fits-behind e c c1 c2 whole_c fit.short_c) o5 in
    let slots : ◌≡◌ {A = List Slot} (holding e (a1 ++ a2) ∷ holding e (b1 ++ b2) ∷ holding e (c1 ++ c2) ∷ [])
    (holding e a ∷ holding e b ∷ holding e c ∷ []) = λ i. holding e (whole_a i) ∷ holding e (whole_b i) ∷ holding e (whole_c i) ∷ [] in
    subst (Follows (length t5) t5) slots (here f5)

no_bits : closing_fits 0 0 ≡ true
unfolding closing_fits
no_bits = refl

pub closed_all : {t0 t1 t2 t3 to1 to2 to3 : List ℕ} {r1 r2 r3 : ℕ} (e : ℕ) (a b c out1 out2 out3 : List ℕ) →
    Held t0 (holding e a) (holding e b) (holding e c) → Roomy e (digests out1 out2 out3) →
    Called t0 (closing 0 0 0 out1) r1 t1 to1 → Called t1 (closing 1 0 0 out2) r2 t2 to2 → Called t2 (closing 2 0 0 out3) r3 t3 to3 →
    digests to1 to2 to3 ≡ file_digests e a b c (digests out1 out2 out3)
unfolding file_digests
closed_all e a b c out1 out2 out3 f room o1 o2 o3 =
    let k1 = after-close f 0 (omega arith) (with (opened_entry e) a) refl out1 0 0 no_bits room.room_a o1 in
    let k2 = after-close k1.0 1 (omega arith) (with (opened_entry e) b) refl out2 0 0 no_bits room.room_b o2 in
    let k3 = after-close k2.0 2 (omega arith) (with (opened_entry e) c) refl out3 0 0 no_bits room.room_c o3 in
    let d1 = k1.1 ∙ standard a out1 in
    let d2 = k2.1 ∙ standard b out2 in
    let d3 = k3.1 ∙ standard c out3 in
    λ i. digests (d1 i) (d2 i) (d3 i)
  where
    -- an entry that was given the file has the standard's digest of it
    standard : (file out : List ℕ) → at_front (entry_digest (with (opened_entry e) file) 0 0) out ≡ digest_at_front e file out
    standard file out = ap (λ (d : List ℕ). at_front d out) (opened-digest e file 0 0)
