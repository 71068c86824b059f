-- What is true of digest lists. The bytes accepted are those of the valid lists, `list_bytes-accepted` and `accepted-list`; each list has
-- its own, `one_list`; a name is listed once, `names-distinct`, so that looking it up gives its digest, `digest-of-name`, and where that
-- lies, `place-of-name`.
-- No list is longer than `longest_list`: `list-short`.
use mathlib.Core.Bool.{Bool, true, false, cond, false≢true}
use mathlib.Core.List.{List, [], ◌∷◌, ◌++◌}
use mathlib.Core.Path.{◌≡◌, refl, sym, ap, subst, ◌∙◌}
use Prim.Native.Nat.{ℕ, zero, suc, ◌+◌, ◌*◌, ◌<◌, ◌≤◌}
use native.Mathlib.Nat.{not-suc-le-zero, le_of_suc-le-suc, suc-mul, zero-mul}
use native.Mathlib.Omega.{arith}
use lib.ListN.{length, get_or}
use Rattle.bigendian.specs.Rows.{row_bytes}
use Rattle.bigendian.proofs.RowLaws.{row-bytes}
use Rattle.fips.specs.Editions.{digest_bytes}
use Rattle.slices.specs.Below.{Bytes}
use Rattle.slices.specs.Tests.{holds, every, same}
use Rattle.slices.proofs.Below.{below-nil, below-append}
use Rattle.slices.proofs.Tests.{holds_at, cond_both, same_refl, same-eq, same-apart, all_below-below}
use Rattle.lists.specs.Calls.{listed, digest_in, listed_digest, place_in, listed_place, place_of_digest}
use Rattle.lists.specs.Order.{before}
use Rattle.lists.specs.Layout.{longest_list, list_row, entry_row, entry_bytes, entry_run, name_run, names_of, whole_length, list_bytes}
use Rattle.lists.specs.Layout.{entry_head, entry_size, digest_size_in, entries_at, read_list, accepted}
use Rattle.lists.specs.Lists.{Pair, DigestList, pair_allowed, ascending, valid}
use Rattle.lists.proofs.Allowed.{name-bytes}
use Rattle.lists.proofs.Ascending.{before-not-self, ascending-first, ascending-later}
use Rattle.lists.proofs.Written.{allowed-pair, valid-list, read_back, whole-short, list_length}

pub list_bytes-accepted : (l : DigestList) → valid l ≡ true → accepted (list_bytes l) ≡ true
unfolding accepted holds
list_bytes-accepted l v = rw (read_back l (valid-list l v), v, same_refl (list_bytes l))

pub accepted-valid : (bs : List ℕ) → accepted bs ≡ true → valid (read_list bs) ≡ true
unfolding accepted
accepted-valid bs e = holds_at _ e 0

pub accepted-bytes : (bs : List ℕ) → accepted bs ≡ true → list_bytes (read_list bs) ≡ bs
unfolding accepted
accepted-bytes bs e = same-eq (list_bytes (read_list bs)) bs (holds_at _ e 1)

pub accepted-list : (bs : List ℕ) → accepted bs ≡ true → (l : DigestList) × (valid l ≡ true) × (list_bytes l ≡ bs)
accepted-list bs e = (read_list bs, accepted-valid bs e, accepted-bytes bs e)

pub read-list : (l : DigestList) → valid l ≡ true → read_list (list_bytes l) ≡ l
read-list l v = read_back l (valid-list l v)

pub one_list : (l m : DigestList) → valid l ≡ true → valid m ≡ true → list_bytes l ≡ list_bytes m → l ≡ m
one_list l m v w e = sym (read-list l v) ∙ ap read_list e ∙ read-list m w

-- ---- how long, and of what, the bytes are

pub valid-short : (l : DigestList) → valid l ≡ true → length (list_bytes l) ≤ longest_list
valid-short l v = rw (list_length l (valid-list l v)) (whole-short l (valid-list l v))

pub list-short : (bs : List ℕ) → accepted bs ≡ true → length bs ≤ longest_list
list-short bs e = subst (λ (l : List ℕ). length l ≤ longest_list) (accepted-bytes bs e) (valid-short (read_list bs) (accepted-valid bs e))

pub digest-is-bytes : (d : ℕ) (p : Pair) → pair_allowed d p ≡ true → Bytes p.digest
unfolding pair_allowed
digest-is-bytes d p e = all_below-below 256 p.digest (omega arith) (holds_at _ e 2)

runs-bytes : (d at : ℕ) (ps : List Pair) → every (pair_allowed d) ps ≡ true → Bytes (entry_run at ps) × Bytes (name_run ps)
unfolding every entry_run name_run entry_bytes
runs-bytes d at [] e = (below-nil 256 (omega arith), below-nil 256 (omega arith))
runs-bytes d at (p ∷ ps) e =
    let t = cond_both (pair_allowed d p) (every (pair_allowed d) ps) e in
    let r = runs-bytes d (at + length p.name) ps t.1 in
    let len = length p.name in (
      below-append (row_bytes (entry_row at len) ++ p.digest) (entry_run (at + len) ps)
          (below-append (row_bytes (entry_row at len)) p.digest (row-bytes (entry_row at len)) (digest-is-bytes d p t.0))
          r.0,
      below-append p.name (name_run ps) (name-bytes p.name (allowed-pair d p t.0).named) r.1,
    )

pub valid-bytes : (l : DigestList) → valid l ≡ true → Bytes (list_bytes l)
unfolding list_bytes
valid-bytes l v =
    let r = runs-bytes (digest_bytes l.edition) (names_of l) l.pairs (valid-list l v).allowed in
    let row = list_row l.edition (length l.pairs) (names_of l) (whole_length l) in
    below-append (row_bytes row) (entry_run (names_of l) l.pairs ++ name_run l.pairs) (row-bytes row)
    (below-append (entry_run (names_of l) l.pairs) (name_run l.pairs) r.0 r.1)

-- ---- which names are listed

pub listed-name : (name : List ℕ) (ps : List Pair) (p : Pair) → listed name ps ≡ true →
    (i : ℕ) × (i < length ps) × ((get_or ps i p).name ≡ name)
unfolding listed
listed-name name [] p e = absurd (false≢true e)
listed-name name (q ∷ ps) p e = go (same q.name name) refl e (listed-name name ps p)
  where
    go : (b : Bool) → same q.name name ≡ b → cond b true (listed name ps) ≡ true →
        (listed name ps ≡ true → (i : ℕ) × (i < length ps) × ((get_or ps i p).name ≡ name)) →
        (i : ℕ) × (i < suc (length ps)) × ((get_or (q ∷ ps) i p).name ≡ name)
    go true s e rest = (0, omega arith, same-eq q.name name s)
    go false s e rest = let r = rest e in (suc r.0, omega (arith, r.1), r.2)

pub name-listed : (ps : List Pair) (p : Pair) (i : ℕ) → i < length ps → listed (get_or ps i p).name ps ≡ true
unfolding listed
name-listed [] p i h = absurd (not-suc-le-zero h)
name-listed (q ∷ ps) p zero h = rw (same_refl q.name)
name-listed (q ∷ ps) p (suc i) h = go (same q.name (get_or ps i p).name) (name-listed ps p i (le_of_suc-le-suc h))
  where
    go : (b : Bool) → listed (get_or ps i p).name ps ≡ true → cond b true (listed (get_or ps i p).name ps) ≡ true
    go true e = refl
    go false e = e

-- ---- a name is listed once

module _ (l : DigestList) (v : valid l ≡ true) (p : Pair) where
  earlier : (i j : ℕ) → i < j → j < length l.pairs → (get_or l.pairs i p).name ≡ (get_or l.pairs j p).name → ⊥
  earlier i j h k e =
      false≢true
      (sym (before-not-self (get_or l.pairs i p).name)
      ∙ ap (before (get_or l.pairs i p).name) e
      ∙ ascending-later [] l.pairs (valid-list l v).ascends p i j h k)

  pub names-distinct : (i j : ℕ) → i < length l.pairs → j < length l.pairs →
      (get_or l.pairs i p).name ≡ (get_or l.pairs j p).name → i ≡ j
  names-distinct i j h k e =
      let x : i < j → ⊥ = λ q. earlier i j q k e in
      let y : j < i → ⊥ = λ q. earlier j i q h (sym e) in
      omega arith

pub before-differs : (xs ys : List ℕ) → before xs ys ≡ true → same xs ys ≡ false
before-differs xs ys e =
    same-apart xs ys (λ s. false≢true (sym (before-not-self xs) ∙ ap (before xs) s ∙ e))

digest-in : (a : List ℕ) (ps : List Pair) → ascending a ps ≡ true → (p : Pair) (i : ℕ) → i < length ps →
    digest_in (get_or ps i p).name ps ≡ (get_or ps i p).digest
unfolding ascending digest_in
digest-in a [] e p i h = absurd (not-suc-le-zero h)
digest-in a (q ∷ ps) e p zero h = rw (same_refl q.name)
digest-in a (q ∷ ps) e p (suc i) h =
    let t = (cond_both (before a q.name) (ascending q.name ps) e).1 in
    rw (before-differs q.name (get_or ps i p).name (ascending-first q.name ps t p i (le_of_suc-le-suc h)))
    (digest-in q.name ps t p i (le_of_suc-le-suc h))

pub digest-of-name : (l : DigestList) → valid l ≡ true → (p : Pair) (i : ℕ) → i < length l.pairs →
    listed_digest (list_bytes l) (get_or l.pairs i p).name ≡ (get_or l.pairs i p).digest
unfolding listed_digest
digest-of-name l v p i h = rw (list_bytes-accepted l v, read-list l v) (digest-in [] l.pairs (valid-list l v).ascends p i h)

place-in : (a : List ℕ) (d at : ℕ) (ps : List Pair) → ascending a ps ≡ true → (p : Pair) (i : ℕ) → i < length ps →
    place_in (get_or ps i p).name d at ps ≡ at + i * entry_size d + entry_head
unfolding ascending place_in
place-in a d at [] e p i h = absurd (not-suc-le-zero h)
place-in a d at (q ∷ ps) e p zero h = rw (same_refl q.name) (omega (arith, zero-mul (entry_size d)))
place-in a d at (q ∷ ps) e p (suc i) h =
    let t = (cond_both (before a q.name) (ascending q.name ps) e).1 in
    rw (before-differs q.name (get_or ps i p).name (ascending-first q.name ps t p i (le_of_suc-le-suc h)))
    (place-in q.name d (at + entry_size d) ps t p i (le_of_suc-le-suc h) ∙ omega (arith, suc-mul i (entry_size d)))

pub place-of-name : (l : DigestList) → valid l ≡ true → (p : Pair) (i : ℕ) → i < length l.pairs →
    listed_place (list_bytes l) (get_or l.pairs i p).name ≡ place_of_digest i (list_bytes l)
unfolding listed_place
place-of-name l v p i h =
    rw (read-list l v) (place-in [] (digest_size_in (list_bytes l)) entries_at l.pairs (valid-list l v).ascends p i h)
