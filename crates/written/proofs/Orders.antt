-- The same pairs in another order: `Reordered` is an equivalence, one more pair on both sides keeps it, `reordered-add`, and what is asked
-- of every pair, how many there are and how long their names are do not depend on the order.
-- In ascending order of names there is only one, `ascending-unique`, and in it no name comes twice: `not_listed`.
use mathlib.Core.Bool.{Bool, true, false, cond, false≢true}
use mathlib.Core.List.{List, [], ◌∷◌, ◌++◌}
use mathlib.Core.Path.{◌≡◌, refl, sym, ap, subst, ◌∙◌}
use Prim.Native.Nat.{ℕ, suc, ◌+◌}
use lib.ListN.{length, length-append}
use Rattle.slices.specs.Tests.{every, same}
use Rattle.slices.proofs.Tests.{cond_both, same-eq}
use Rattle.lists.specs.Calls.{listed}
use Rattle.lists.specs.Layout.{name_run}
use Rattle.lists.specs.Lists.{Pair, ascending}
use Rattle.lists.specs.Order.{before}
use Rattle.lists.proofs.Ascending.{before-not-self, before-trans}
use Rattle.writer.specs.Writing.{inserted}
use Rattle.written.specs.Written.{Reordered}
use Rattle.writer.proofs.Inserted.{refuted, Among, here, later, among-length, among-names, among-every, among-cut, cut-among}
use Rattle.writer.proofs.Inserted.{inserted-one}

-- ---- two pairs more

-- first q, then p, is first p, then q
among-swap : {p q : Pair} {xs ys zs : List Pair} → Among q xs ys → Among p ys zs → (ws : List Pair) × (Among p xs ws) × (Among q ws zs)
among-swap {p = p} (here {ps = xs}) here = (p ∷ xs, here, later here)
among-swap here (later {qs = rs} b) = (rs, b, here)
among-swap {p = p} (later {q = x} {ps = xs} a) here = (p ∷ (x ∷ xs), here, later (later a))
among-swap (later {q = x} a) (later b) =
    let s = among-swap a b in
    (x ∷ s.0, later s.1, later s.2)

-- ---- one pair more on both sides

pub reordered-first : (p : Pair) (ps qs : List Pair) → Reordered (p ∷ ps) qs → (xs : List Pair) × (Among p xs qs) × Reordered ps xs
reordered-first p ps qs r =
    let here = subst (λ (l : List Pair). Among p (r.0 ++ r.1) l) (sym r.2) (cut-among r.0 r.1) in
    (r.0 ++ r.1, here, r.3)

pub reordered-next : {p : Pair} {xs qs : List Pair} (ps : List Pair) → Among p xs qs → Reordered ps xs → Reordered (p ∷ ps) qs
reordered-next ps a r =
    let c = among-cut a in
    (c.0, c.1, c.2, subst (λ (l : List Pair). Reordered ps l) c.3 r)

pub reordered-add : {p : Pair} {ps qs xs ys : List Pair} → Among p ps xs → Among p qs ys → Reordered ps qs → Reordered xs ys
reordered-add (here {ps = ps}) b r = reordered-next ps b r
reordered-add {qs = qs} (later {q = q} {ps = ps} {qs = xs} a) b r =
    let f = reordered-first q ps qs r in
    let s = among-swap f.1 b in
    reordered-next xs s.2 (reordered-add a s.1 f.2)

pub inserted-first : (p : Pair) (ps qs : List Pair) → Reordered ps qs → Reordered (p ∷ ps) (inserted p qs)
inserted-first p ps qs r = reordered-next ps (inserted-one p qs) r

among-last : (p : Pair) (ps : List Pair) → Among p ps (ps ++ (p ∷ []))
among-last p [] = here
among-last p (q ∷ ps) = later (among-last p ps)

pub inserted-last : (p : Pair) (ps qs : List Pair) → Reordered ps qs → Reordered (ps ++ (p ∷ [])) (inserted p qs)
inserted-last p ps qs r = reordered-add (among-last p ps) (inserted-one p qs) r

-- ---- an equivalence

pub reordered-refl : (ps : List Pair) → Reordered ps ps
reordered-refl [] = refl
reordered-refl (p ∷ ps) = reordered-next ps here (reordered-refl ps)

pub reordered-sym : (ps qs : List Pair) → Reordered ps qs → Reordered qs ps
reordered-sym [] qs r = subst (λ (l : List Pair). Reordered l []) (sym r) refl
reordered-sym (p ∷ ps) qs r =
    let f = reordered-first p ps qs r in
    reordered-add f.1 here (reordered-sym ps f.0 f.2)

-- a pair of the one side stands on the other
pub reordered-among : {p : Pair} {xs ps : List Pair} (qs : List Pair) → Among p xs ps → Reordered ps qs →
    (ys : List Pair) × (Among p ys qs) × Reordered xs ys
reordered-among {p = p} qs (here {ps = ps}) r = reordered-first p ps qs r
reordered-among qs (later {q = q} {ps = xs} {qs = ps} a) r =
    let f = reordered-first q ps qs r in
    let g = reordered-among f.0 a f.2 in
    let s = among-swap g.1 f.1 in
    (s.0, s.2, reordered-next xs s.1 g.2)

pub reordered-trans : (ps qs rs : List Pair) → Reordered ps qs → Reordered qs rs → Reordered ps rs
reordered-trans [] qs rs r s = subst (λ (l : List Pair). Reordered l rs) r s
reordered-trans (p ∷ ps) qs rs r s =
    let f = reordered-first p ps qs r in
    let g = reordered-among rs f.1 s in
    reordered-next ps g.1 (reordered-trans ps f.0 g.0 f.2 g.2)

-- ---- what does not depend on the order

pub reordered-length : (ps qs : List Pair) → Reordered ps qs → length qs ≡ length ps
reordered-length [] qs r = ap length r
reordered-length (p ∷ ps) qs r =
    let f = reordered-first p ps qs r in
    among-length f.1 ∙ ap suc (reordered-length ps f.0 f.2)

pub reordered-names : (ps qs : List Pair) → Reordered ps qs → length (name_run qs) ≡ length (name_run ps)
unfolding name_run
reordered-names [] qs r = ap (λ (l : List Pair). length (name_run l)) r
reordered-names (p ∷ ps) qs r =
    let f = reordered-first p ps qs r in
    among-names f.1
    ∙ ap (λ (n : ℕ). length p.name + n) (reordered-names ps f.0 f.2)
    ∙ sym (length-append p.name (name_run ps))

pub reordered-every : (t : Pair → Bool) (ps qs : List Pair) → Reordered ps qs → every t ps ≡ true → every t qs ≡ true
unfolding every
reordered-every t [] qs r e = ap (every t) r
reordered-every t (p ∷ ps) qs r e =
    let f = reordered-first p ps qs r in
    let both = cond_both (t p) (every t ps) e in
    among-every t f.1 both.0 (reordered-every t ps f.0 f.2 both.1)

-- ---- the one ascending order

pub ascending-among : {p : Pair} {ps qs : List Pair} (a : List ℕ) → Among p ps qs → ascending a qs ≡ true → before a p.name ≡ true
unfolding ascending
ascending-among {p = p} a (here {ps = ps}) e = (cond_both (before a p.name) (ascending p.name ps) e).0
ascending-among {p = p} a (later {q = q} {qs = qs} m) e =
    let t = cond_both (before a q.name) (ascending q.name qs) e in
    before-trans a q.name p.name t.0 (ascending-among q.name m t.1)

pub before-both : (xs ys : List ℕ) → before xs ys ≡ true → before ys xs ≡ true → ⊥
before-both xs ys e h = false≢true (sym (before-not-self xs) ∙ before-trans xs ys xs e h)

-- the first of the one side is the first of the other: no pair of it can come before
ascending-step : (a : List ℕ) (p : Pair) (ps : List Pair) {xs qs : List Pair} → ascending p.name ps ≡ true →
    ascending a qs ≡ true → Among p xs qs → Reordered ps xs → (ascending p.name xs ≡ true → ps ≡ xs) → p ∷ ps ≡ qs
unfolding ascending
ascending-step a p ps e h (here {ps = xs}) r rest =
    ap (λ (l : List Pair). p ∷ l) (rest (cond_both (before a p.name) (ascending p.name xs) h).1)
ascending-step a p ps e h (later {q = q} {ps = xs} {qs = qs} m) r rest =
    let u = cond_both (before a q.name) (ascending q.name qs) h in
    let g = reordered-first q xs ps (reordered-sym ps (q ∷ xs) r) in
    absurd (before-both q.name p.name (ascending-among q.name m u.1) (ascending-among p.name g.1 e))

pub ascending-unique : (a : List ℕ) (ps qs : List Pair) → ascending a ps ≡ true → ascending a qs ≡ true → Reordered ps qs → ps ≡ qs
unfolding ascending
ascending-unique a [] qs e h r = sym r
ascending-unique a (p ∷ ps) qs e h r =
    let f = reordered-first p ps qs r in
    let t = cond_both (before a p.name) (ascending p.name ps) e in
    ascending-step a p ps t.1 h f.1 f.2 (λ u. ascending-unique p.name ps f.0 t.1 u f.2)

-- ---- pairs that are still to come

pub every-among : {p : Pair} {ps qs : List Pair} (t : Pair → Bool) → Among p ps qs → every t qs ≡ true → t p ≡ true
unfolding every
every-among {p = p} t (here {ps = ps}) e = (cond_both (t p) (every t ps) e).0
every-among t (later {q = q} {qs = qs} a) e = every-among t a (cond_both (t q) (every t qs) e).1

among-append : {p : Pair} {ps qs : List Pair} (rest : List Pair) → Among p ps qs → Among p (ps ++ rest) (qs ++ rest)
among-append rest here = here
among-append rest (later a) = later (among-append rest a)

listed-among : (name : List ℕ) (ps : List Pair) → listed name ps ≡ true →
    (q : Pair) × (xs : List Pair) × (Among q xs ps) × (q.name ≡ name)
unfolding listed
listed-among name [] e = absurd (false≢true e)
listed-among name (p ∷ ps) e = go (same p.name name) refl e (listed-among name ps)
  where
    go : (b : Bool) → same p.name name ≡ b → cond b true (listed name ps) ≡ true →
        (listed name ps ≡ true → (q : Pair) × (xs : List Pair) × (Among q xs ps) × (q.name ≡ name)) →
        (q : Pair) × (xs : List Pair) × (Among q xs (p ∷ ps)) × (q.name ≡ name)
    go true s e rest = (p, ps, here, same-eq p.name name s)
    go false s e rest =
        let r = rest e in
        (r.0, p ∷ r.1, later r.2, r.3)

before-apart : (xs ys : List ℕ) → before xs ys ≡ true → xs ≡ ys → ⊥
before-apart xs ys e s = false≢true (sym (before-not-self xs) ∙ ap (before xs) s ∙ e)

-- two pairs in ascending order have two names
ascending-apart : {p q : Pair} {xs ys zs : List Pair} (a : List ℕ) → Among q ys zs → Among p xs ys → ascending a zs ≡ true →
    q.name ≡ p.name → ⊥
unfolding ascending
ascending-apart {p = p} {q = q} a (here {ps = ys}) m e s =
    let t = cond_both (before a q.name) (ascending q.name ys) e in
    before-apart q.name p.name (ascending-among q.name m t.1) s
ascending-apart {p = p} {q = q} a (later {qs = zs} k) here e s =
    let t = cond_both (before a p.name) (ascending p.name zs) e in
    before-apart p.name q.name (ascending-among p.name k t.1) (sym s)
ascending-apart a (later {q = x} {qs = zs} k) (later m) e s =
    ascending-apart x.name k m (cond_both (before a x.name) (ascending x.name zs) e).1 s

-- of pairs with ascending names some were put, and the name of another is not listed among them
pub not_listed : (a : List ℕ) (all put now rest : List Pair) (p : Pair) → ascending a all ≡ true → Reordered (put ++ (p ∷ rest)) all →
    Reordered put now → listed p.name now ≡ false
not_listed a all put now rest p e r s = refuted (listed p.name now) apart
  where
    apart : listed p.name now ≡ true → ⊥
    apart h =
        let l = listed-among p.name now h in
        let old = reordered-among put l.2 (reordered-sym put now s) in
        let first = reordered-among all (among-append (p ∷ rest) old.1) r in
        let second = reordered-among first.0 (cut-among old.0 rest) first.2 in
        ascending-apart a first.1 second.1 e l.3
