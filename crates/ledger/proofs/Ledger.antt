-- `ledger`: demand 3 of SPEC, "How much each call says". A table laid out over any words gives, over every sequence of calls, what the
-- plain ledger gives. Corollaries: `undamaged`, no answer is 1 or 6; `opened-digest`, an opened entry gives the standard's digest.
use Prim.Native.Nat.{ℕ, zero, suc, ◌*◌, ◌<◌}
use mathlib.Core.Bool.{Bool, true, false, not, cond, ◌&&◌}
use mathlib.Core.List.{List, [], ◌∷◌, ◌++◌}
use mathlib.Core.Path.{◌≡◌, refl, ap, ap₂, subst, ◌∙◌}
use native.Mathlib.Nat.{zero-add}
use native.Mathlib.Omega.{arith}
use lib.Dec.{T, eqb, T_not, eqb_refl}
use lib.ListN.{length, take, replicate}
use Rattle.answers.specs.Judged.{Test, first, after, Lent, lent}
use Rattle.bigendian.specs.Words.{from_words}
use Rattle.fips.specs.Bits.{bits}
use Rattle.fips.specs.Words.{word}
use Rattle.fips.specs.Padding.{zeros, pad, parse}
use Rattle.fips.specs.Constants.{chain, hash_from}
use Rattle.fips.specs.Editions.{width, digest_bytes, start, digest}
use Rattle.fips.specs.Message.{message}
use Rattle.bays.specs.Table.{room_for}
use Rattle.bays.proofs.Frames.{below-bay_at}
use Rattle.calls.specs.Calls.{Call, lay_out, opening, adding, closing, saving, loading, asking, dropping, output_of, tests, leaves, Seen}
use Rattle.calls.specs.Calls.{run, nothing_told, Passed}
use Rattle.ledger.specs.Ledger.{Slot, nothing, opened_entry, with, closed_bits, entry_digest, ledger_tests, keep}
use Rattle.ledger.specs.Promise.{AllPassed, seen_of, table_of, said_of, slots_after, Promise, SoundPromise, Undamaged}
use Rattle.ledger.proofs.Follows.{Follows, sound-follows, laid-follows}
use Rattle.ledger.proofs.CallByCall.{Step, step, fits}

-- ---- one call

seen-eq : {a b : Seen} → a.answer ≡ b.answer → a.says ≡ b.says → a.output ≡ b.output → a ≡ b
seen-eq p q r = λ i. record { answer = p i; says = q i; output = r i }

-- what is left by two calls of the same number, where what they leave when done is the same
after-eq : {A : Type 0} {n m : ℕ} (o : A) {a b : A} → n ≡ m → (n ≡ 0 → a ≡ b) → after n o a ≡ after m o b
after-eq {A} {n} {m} o {a} {b} e d = subst (λ (k : ℕ). after n o a ≡ after k o b) e (go n d)
  where
    go : (k : ℕ) → (k ≡ 0 → a ≡ b) → after k o a ≡ after k o b
    go zero d = d refl
    go (suc k) d = refl

after-output : (n : ℕ) (t o : List ℕ) (x : Lent) → (after n (lent t o) x).output ≡ after n o x.output
after-output zero t o x = refl
after-output (suc n) t o x = refl

after_table : (n : ℕ) (t o : List ℕ) (x : Lent) → (after n (lent t o) x).table ≡ after n t x.table
after_table zero t o x = refl
after_table (suc n) t o x = refl

after-follows : {L n m : ℕ} {t u : List ℕ} {l k : List Slot} → n ≡ m → Follows L t l → (n ≡ 0 → Follows L u k) →
    Follows L (after n t u) (after m l k)
after-follows {L} {n} {m} {t} {u} {l} {k} e f d = subst (λ (j : ℕ). Follows L (after n t u) (after j l k)) e (go n d)
  where
    go : (j : ℕ) → (j ≡ 0 → Follows L u k) → Follows L (after j t u) (after j l k)
    go zero d = d refl
    go (suc j) d = f

module _ {L : ℕ} {t : List ℕ} {l : List Slot} (f : Follows L t l) (c : Call) (g : Passed c) where
  both : Step L t l c
  both = step f c g

  pub same_seen : (run t c).seen ≡ (keep L l c).seen
  unfolding run keep
  same_seen =
      seen-eq both.answer
      (after-eq nothing_told both.answer (λ z. (both.done z).says))
      (after-output (first (tests t c)) t (output_of c) (leaves t c) ∙ after-eq (output_of c) both.answer (λ z. (both.done z).output))

  pub still-follows : Follows L (run t c).table (keep L l c).slots
  unfolding run keep
  still-follows =
      rw (after_table (first (tests t c)) t (output_of c) (leaves t c)) (after-follows both.answer f (λ z. (both.done z).follows))

-- ---- every sequence

pub follows-all : {L : ℕ} {t : List ℕ} {l : List Slot} → Follows L t l → (calls : List Call) → AllPassed calls →
    seen_of t calls ≡ said_of L l calls
unfolding seen_of said_of
follows-all f [] g = refl
follows-all {L = L} {t = t} {l = l} f (c ∷ cs) g =
    ap₂ (λ (s : Seen) (ss : List Seen). s ∷ ss) (same_seen f c g.0)
    (follows-all {t = (run t c).table} (still-follows f c g.0) cs g.1)

pub follows-after : {L : ℕ} {t : List ℕ} {l : List Slot} → Follows L t l → (calls : List Call) → AllPassed calls →
    Follows L (table_of t calls) (slots_after L l calls)
unfolding table_of slots_after
follows-after f [] g = f
follows-after {L = L} {t = t} {l = l} f (c ∷ cs) g = follows-after {t = (run t c).table} (still-follows f c g.0) cs g.1

pub laid : (words : List ℕ) (n : ℕ) → (run words (lay_out n)).seen.answer ≡ 0 →
    Follows (length words) (run words (lay_out n)).table (replicate n nothing)
unfolding run tests leaves first
laid words n d =
    let r = fits (room_for n (length words)) d in
    rw r (laid-follows n words r)

-- from every table with a right header and sound bays
pub ledger-sound : SoundPromise
ledger-sound t calls sound words g = follows-all (sound-follows t sound (λ i h. below-bay_at t i words)) calls g

-- and so after a layout
pub ledger : Promise
ledger words n calls g d = follows-all (laid words n d) calls g

-- ---- corollaries

-- no test of the list has the number k
without : ℕ → List Test → Bool
without k [] = true
without k (t ∷ ts) = not (eqb t.number k) && without k ts

split : (a b : Bool) → T (a && b) → T a × T b
split true b h = (tt, h)
split false b h = absurd h

differs : (m k : ℕ) → T (not (eqb m k)) → m ≡ k → ⊥
differs m k h q = T_not (eqb m k) h (subst (λ (j : ℕ). T (eqb m j)) q (eqb_refl m))

choice : (b : Bool) {n m k : ℕ} → (n ≡ k → ⊥) → (m ≡ k → ⊥) → cond b n m ≡ k → ⊥
choice true p q e = p e
choice false p q e = q e

first-without : (k : ℕ) (ts : List Test) → 0 < k → T (without k ts) → first ts ≡ k → ⊥
unfolding first without
first-without k [] p w e = omega arith
first-without k (t ∷ ts) p w e =
    let s = split (not (eqb t.number k)) (without k ts) w in
    choice t.applies (differs t.number k s.0) (first-without k ts p s.1) e

-- 1 and 6 are no answers of the ledger: its lists have no such test
no-damage : (L : ℕ) (l : List Slot) (c : Call) → T (without 1 (ledger_tests L l c) && without 6 (ledger_tests L l c))
unfolding ledger_tests without
no-damage L l (lay_out n) = tt
no-damage L l (opening i e) = tt
no-damage L l (adding i piece) = tt
no-damage L l (closing i x b out) = tt
no-damage L l (saving i out) = tt
no-damage L l (loading i bytes) = tt
no-damage L l (asking i) = tt
no-damage L l (dropping i) = tt

pub said-undamaged : (L : ℕ) (l : List Slot) (calls : List Call) → Undamaged (said_of L l calls)
unfolding said_of keep
said-undamaged L l [] = tt
said-undamaged L l (c ∷ cs) =
    let ts = ledger_tests L l c in
    let w = split (without 1 ts) (without 6 ts) (no-damage L l c) in
    (first-without 1 ts (omega arith) w.0, first-without 6 ts (omega arith) w.1, said-undamaged L (keep L l c).slots cs)

-- no call is ever told that a bay is damaged
pub undamaged : (words : List ℕ) (n : ℕ) (calls : List Call) → AllPassed calls → (run words (lay_out n)).seen.answer ≡ 0 →
    Undamaged (seen_of (run words (lay_out n)).table calls)
undamaged words n calls g d = rw (ledger words n calls g d) (said-undamaged (length words) (replicate n nothing) calls)

-- open an entry, give it a message, close with b bits: that is the standard's digest
pub opened-digest : (e : ℕ) (m : List ℕ) (x b : ℕ) → entry_digest (with (opened_entry e) m) x b ≡ digest e (message m x b)
unfolding entry_digest closed_bits digest hash_from pad
opened-digest e m x b =
    let p = width e in
    let n : ℕ = length (message m x b) in
    ap (λ (l : ℕ). take (digest_bytes e) (from_words p.bytes (chain p (start e) (parse p
    (message m x b ++ (true ∷ replicate (zeros (word p) l) false) ++ bits (2 * word p) l)))))
    (zero-add n)
