-- Writing at the front of an output: laws of `at_front`. As many as both have, copied over the front, are it (`front-copied`). What is
-- behind stays (`drop-front`), so that of two writings of one length the later counts (`front-again`).
use Prim.Native.Nat.{ℕ, zero, suc, ◌+◌, ◌-◌, ◌≤◌, ◌<◌, min}
use mathlib.Core.Bool.{Bool, true, false}
use mathlib.Core.List.{List, [], ◌∷◌, ◌++◌, append-nil}
use mathlib.Core.Path.{◌≡◌, refl, sym, ap, ap₂, ◌∙◌}
use native.Mathlib.Nat.{not-suc-le-zero, le_of_suc-le-suc, sub-zero, zero-sub, suc-sub-suc}
use native.Mathlib.Omega.{arith}
use borrow.Author.Tests.{leb-true, leb-false}
use lib.Dec.{leb}
use lib.ListN.{length, take, drop, set, get_or, length-append, length-take, length-drop, replicate, drop_of_length-le}
use lib.Seq.{take_all, take-length, drop-length, drop_at, take-suc, drop-cons, set_at, append_snoc, length-take-le}
use Rattle.slices.specs.AtFront.{at_front}
use Rattle.slices.specs.Below.{Below}
use Rattle.slices.proofs.Below.{below-append, below-take, below-drop}

-- one element more is copied
pub one-copied : {A : Type 0} (new out : List A) (i : ℕ) (x : A) → i < length out → i < length new → x ≡ get_or new i x →
    set (take i new ++ drop i out) i x ≡ take (suc i) new ++ drop (suc i) out
one-copied new out i x h k e =
    rw (drop-cons out i x h)
    (set_at (take i new) (get_or out i x) (drop (suc i) out) x i (length-take-le i new (omega arith))
    ∙ sym (append_snoc (take i new) x (drop (suc i) out))
    ∙ ap (λ l. l ++ drop (suc i) out) (ap (λ y. take i new ++ (y ∷ [])) e ∙ sym (take-suc new i x k)))

-- as many as both have, copied over the front
pub front-copied : {A : Type 0} (n : ℕ) (new out : List A) → n ≡ min (length out) (length new) →
    take n new ++ drop n out ≡ at_front new out
unfolding at_front
front-copied n new out e = go (leb (length new) (length out)) refl
  where
    go : (b : Bool) → leb (length new) (length out) ≡ b → take n new ++ drop n out ≡ at_front new out
    go true h =
        let fits = leb-true (length new) (length out) h in
        let k : n ≡ length new = omega arith in
        rw (k, take-length new, take_all (length out) new fits)
    go false h =
        let short = leb-false (length new) (length out) h in
        let k : n ≡ length out = omega arith in
        rw (k, drop-length out, drop_of_length-le out {i = length new} (omega arith))

pub length-at_front : (bytes out : List ℕ) → length (at_front bytes out) ≡ length out
unfolding at_front
length-at_front bytes out =
    length-append (take (length out) bytes) (drop (length bytes) out)
    ∙ ap₂ ◌+◌ (length-take (length out) bytes) (length-drop (length bytes) out)
    ∙ omega arith

pub at_front-room : (bytes out : List ℕ) → length bytes ≤ length out → at_front bytes out ≡ bytes ++ drop (length bytes) out
unfolding at_front
at_front-room bytes out h = rw (take_all (length out) bytes h)

-- as many as there is room for fill it whole
pub at_front-all : (new out : List ℕ) → length out ≡ length new → at_front new out ≡ new
at_front-all new out e =
    at_front-room new out (omega arith)
    ∙ ap (λ (l : List ℕ). new ++ l) (drop_of_length-le out {i = length new} (omega arith))
    ∙ append-nil new

-- what lies behind so many stays
pub drop-front : (new out : List ℕ) (k : ℕ) → length new ≡ k → drop k (at_front new out) ≡ drop k out
drop-front new out k e = go (leb k (length out)) refl
  where
    go : (b : Bool) → leb k (length out) ≡ b → drop k (at_front new out) ≡ drop k out
    go true h =
        let fits = leb-true k (length out) h in
        ap (drop k) (at_front-room new out (omega arith)) ∙ drop_at new (drop (length new) out) k e ∙ ap (λ (n : ℕ). drop n out) e
    go false h =
        let short = leb-false k (length out) h in
        drop_of_length-le (at_front new out) {i = k} (omega (arith, length-at_front new out))
        ∙ sym (drop_of_length-le out {i = k} (omega arith))

-- and what is written over is gone
pub front-again : (new old out : List ℕ) → length old ≡ length new → at_front new (at_front old out) ≡ at_front new out
unfolding at_front
front-again new old out e =
    ap₂ (λ (n : ℕ) (l : List ℕ). take n new ++ l) (length-at_front old out) (drop-front old out (length new) e)

pub below-front : {m : ℕ} (new out : List ℕ) → Below m new → Below m out → Below m (at_front new out)
unfolding at_front
below-front new out h g =
    below-append (take (length out) new) (drop (length new) out) (below-take (length out) new h) (below-drop (length new) out g)

-- ---- copies of one element, as a buffer is before anything is written

pub take-copies : (k m x : ℕ) → k ≤ m → take k (replicate m x) ≡ replicate k x
take-copies zero m x h = refl
take-copies (suc k) zero x h = absurd (not-suc-le-zero h)
take-copies (suc k) (suc m) x h = ap (λ (l : List ℕ). x ∷ l) (take-copies k m x (le_of_suc-le-suc h))

pub drop-copies : (k m x : ℕ) → drop k (replicate m x) ≡ replicate (m - k) x
drop-copies zero m x = ap (λ (n : ℕ). replicate n x) (sym (sub-zero m))
drop-copies (suc k) zero x = ap (λ (n : ℕ). replicate n x) (sym (zero-sub (suc k)))
drop-copies (suc k) (suc m) x = drop-copies k m x ∙ ap (λ (n : ℕ). replicate n x) (sym (suc-sub-suc m k))
