-- A pair put in its place among others: laws of `inserted`, and of `with_pair`, a list with one pair more.
-- `Among` says of two lists of pairs that the second has one pair more; where it is inserted: `inserted-among`. Pairs stay allowed and
-- names ascending, `inserted-allowed`, `inserted-ascends`, so that a valid list stays one, `inserted-valid`; how much longer it is:
-- `whole-inserted`.
use mathlib.Core.Bool.{Bool, true, false, cond, true≢false, false≢true}
use mathlib.Core.List.{List, [], ◌∷◌, ◌++◌}
use mathlib.Core.Path.{◌≡◌, refl, ap}
use Prim.Native.Nat.{ℕ, suc, ◌+◌, ◌<◌, ◌≤◌}
use native.Mathlib.Nat.{suc-mul}
use native.Mathlib.Omega.{arith}
use borrow.Author.Tests.{le-leb}
use lib.ListN.{length, length-append}
use Rattle.fips.specs.Editions.{digest_bytes}
use Rattle.slices.specs.Tests.{holds, every, same}
use Rattle.slices.proofs.Tests.{cond_both, tests_agree}
use Rattle.lists.specs.Calls.{listed}
use Rattle.lists.specs.Layout.{entry_size, name_run, whole_length}
use Rattle.lists.specs.Lists.{Pair, DigestList, most_entries, pair_allowed, ascending, valid}
use Rattle.lists.specs.Order.{before}
use Rattle.lists.proofs.Allowed.{name-some}
use Rattle.lists.proofs.Ascending.{before-or}
use Rattle.lists.proofs.Written.{allowed-pair, ValidList, valid-list}
use Rattle.writer.specs.Writing.{inserted, with_pair}

-- what holds of both choices
cond-case : {A : Type 0} (P : A → Type 0) (b : Bool) {x y : A} → (b ≡ true → P x) → (b ≡ false → P y) → P (cond b x y)
cond-case P true f g = f refl
cond-case P false f g = g refl

cond-neither : (a b : Bool) → cond a true b ≡ false → (a ≡ false) × (b ≡ false)
cond-neither true b e = absurd (true≢false e)
cond-neither false b e = (refl, e)

pub refuted : (b : Bool) → (b ≡ true → ⊥) → b ≡ false
refuted b h = tests_agree b false (λ e. absurd (h e)) (λ e. absurd (false≢true e))

-- ---- one pair more

-- qs has p and else the pairs of ps, in their order
pub data Among (p : Pair) : List Pair → List Pair → Type 0 where
  here : {ps : List Pair} → Among p ps (p ∷ ps)
  later : {q : Pair} {ps qs : List Pair} → Among p ps qs → Among p (q ∷ ps) (q ∷ qs)

pub among-length : {p : Pair} {ps qs : List Pair} → Among p ps qs → length qs ≡ suc (length ps)
among-length here = refl
among-length (later a) = ap suc (among-length a)

pub among-names : {p : Pair} {ps qs : List Pair} → Among p ps qs → length (name_run qs) ≡ length p.name + length (name_run ps)
unfolding name_run
among-names {p = p} (here {ps = ps}) = length-append p.name (name_run ps)
among-names (later a) = simp length-append (omega (arith, among-names a))

pub among-every : {p : Pair} {ps qs : List Pair} (f : Pair → Bool) → Among p ps qs → f p ≡ true → every f ps ≡ true → every f qs ≡ true
unfolding every
among-every f here h e = rw h e
among-every f (later {q = q} {ps = ps} a) h e =
    let t = cond_both (f q) (every f ps) e in
    rw t.0 (among-every f a h t.1)

-- the same as a cut in two, with the pair between the parts
abbrev pub Cut : Pair → List Pair → List Pair → Type 0
Cut p ps qs = (front : List Pair) × (back : List Pair) × (qs ≡ front ++ (p ∷ back)) × (ps ≡ front ++ back)

pub among-cut : {p : Pair} {ps qs : List Pair} → Among p ps qs → Cut p ps qs
among-cut (here {ps = ps}) = ([], ps, refl, refl)
among-cut (later {q = q} a) =
    let c = among-cut a in
    (q ∷ c.0, c.1, ap (λ (l : List Pair). q ∷ l) c.2, ap (λ (l : List Pair). q ∷ l) c.3)

pub cut-among : {p : Pair} (front back : List Pair) → Among p (front ++ back) (front ++ (p ∷ back))
cut-among [] back = here
cut-among (q ∷ front) back = later (cut-among front back)

-- ---- where it is inserted

pub inserted-one : (p : Pair) (ps : List Pair) → Among p ps (inserted p ps)
unfolding inserted
inserted-one p [] = here
inserted-one p (q ∷ qs) =
    cond-case (λ (l : List Pair). Among p (q ∷ qs) l) (before q.name p.name) (λ _. later (inserted-one p qs)) (λ _. here)

pub inserted-among : (p : Pair) (ps : List Pair) →
    (front : List Pair) × (back : List Pair) × (inserted p ps ≡ front ++ (p ∷ back)) × (ps ≡ front ++ back)
inserted-among p ps = among-cut (inserted-one p ps)

pub inserted-allowed : (d : ℕ) (p : Pair) (ps : List Pair) → every (pair_allowed d) ps ≡ true → pair_allowed d p ≡ true →
    every (pair_allowed d) (inserted p ps) ≡ true
inserted-allowed d p ps e h = among-every (pair_allowed d) (inserted-one p ps) h e

pub length_inserted : (p : Pair) (ps : List Pair) → length (inserted p ps) ≡ suc (length ps)
length_inserted p ps = among-length (inserted-one p ps)

pub names-inserted : (p : Pair) (ps : List Pair) → length (name_run (inserted p ps)) ≡ length p.name + length (name_run ps)
names-inserted p ps = among-names (inserted-one p ps)

-- ---- the order of names

pub inserted-ascends : (a : List ℕ) (p : Pair) (ps : List Pair) → ascending a ps ≡ true → before a p.name ≡ true →
    listed p.name ps ≡ false → ascending a (inserted p ps) ≡ true
unfolding inserted ascending listed
inserted-ascends a p [] e h new = rw h
inserted-ascends a p (q ∷ qs) e h new =
    let t = cond_both (before a q.name) (ascending q.name qs) e in
    let n = cond-neither (same q.name p.name) (listed p.name qs) new in
    cond-case (λ (l : List Pair). ascending a l ≡ true) (before q.name p.name)
    (λ b. rw t.0 (inserted-ascends q.name p qs t.1 b n.1))
    (λ b. rw (h, before-or q.name p.name n.0 b) t.1)

-- the empty name comes before every other
nothing-before : (name : List ℕ) → 1 ≤ length name → before [] name ≡ true
unfolding before
nothing-before [] h = absurd (omega arith)
nothing-before (x ∷ xs) h = refl

-- ---- a list with one pair more

pub list-valid : (l : DigestList) → ValidList l → valid l ≡ true
unfolding valid holds
list-valid l v = rw (v.edition-known, le-leb (length l.pairs) most_entries v.few, v.allowed, v.ascends)

module _ (p : Pair) (l : DigestList) where
  pub inserted-valid : valid l ≡ true → pair_allowed (digest_bytes l.edition) p ≡ true → listed p.name l.pairs ≡ false →
      length l.pairs < most_entries → valid (with_pair p l) ≡ true
  inserted-valid e h new few =
      let v = valid-list l e in
      let first = nothing-before p.name (name-some p.name (allowed-pair (digest_bytes l.edition) p h).named) in
      list-valid (with_pair p l) (record {
        edition-known = v.edition-known;
        few = rw (length_inserted p l.pairs) few;
        allowed = inserted-allowed (digest_bytes l.edition) p l.pairs v.allowed h;
        ascends = inserted-ascends [] p l.pairs v.ascends first new;
      })

  pub whole-inserted : whole_length (with_pair p l) ≡ whole_length l + (entry_size (digest_bytes l.edition) + length p.name)
  whole-inserted =
      rw (length_inserted p l.pairs, names-inserted p l.pairs)
      (omega (arith, suc-mul (length l.pairs) (entry_size (digest_bytes l.edition))))
