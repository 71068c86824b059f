-- A walk over the entries by their place in the list: laws of `entries_right` and `read_pairs` where the entries left start at an offset.
-- `entry-field` reads a number of an entry; `entries-on` and `entries-stop` take one entry; `entry-fits` bounds its name; `place-on`
-- compares it with a name that is looked for; `one_less` counts the entries left. `Earlier` says how far counting the names that come
-- before one has gone, and `earlier_on` takes one entry.
use mathlib.Core.Bool.{Bool, true, false, cond}
use mathlib.Core.List.{List, ◌∷◌}
use mathlib.Core.Path.{◌≡◌, refl, sym, ◌∙◌}
use Prim.Native.Nat.{ℕ, zero, suc, ◌+◌, ◌-◌, ◌*◌, ◌<◌, ◌≤◌}
use native.Mathlib.Nat.{suc-mul, zero-add}
use native.Mathlib.Omega.{arith}
use lib.Dec.{eqb}
use lib.ListN.{length, drop}
use lib.Seq.{drop-drop}
use Rattle.bigendian.specs.Rows.{field_in}
use Rattle.lists.specs.Calls.{listed, place_in}
use Rattle.lists.specs.Code.Place.{earlier}
use Rattle.slices.specs.Parts.{part}
use Rattle.slices.specs.Tests.{same}
use Rattle.lists.specs.Lists.{Pair}
use borrow.Author.Tests.{eq-eqb, ne_eqb, eqb-true, eqb-false}
use Rattle.lists.specs.Layout.{entry_head, entry_size, name_length, pair_at, read_pairs}
use Rattle.lists.specs.Order.{before}
use Rattle.lists.specs.Code.Rules.{entry_right, entries_right, more_earlier}
use Rattle.slices.proofs.Tests.{cond_both}
use Rattle.lists.proofs.ByRules.{right-entry}
use Rattle.lists.proofs.Places.{found_here, not_listed, found_in}

-- a place in the entry is one in the list
pub entry-field : (bs : List ℕ) (at place n : ℕ) → field_in bs (at + place) n ≡ field_in (drop at bs) place n
entry-field bs at place n = rw (drop-drop place at bs)

pub one_less : (m i n : ℕ) → i < m → (m - i) * n ≡ (m - (i + 1)) * n + n
one_less m i n h =
    let e : m - i ≡ suc (m - (i + 1)) = omega arith in
    rw e (suc-mul (m - (i + 1)) n)

-- n entries from the one at place i on, of which there are m
module _ (m i size at next : ℕ) (last bs : List ℕ) (h : i < m) where
  pub entries-on : (len : ℕ) → len ≡ name_length (drop at bs) → entry_right last next (drop at bs) bs ≡ true →
      entries_right (m - i) size last next (drop at bs) bs
      ≡ entries_right (m - (i + 1)) size (part bs next len) (next + len) (drop (at + size) bs) bs
  unfolding entries_right
  entries-on len p e =
      let s : m - i ≡ suc (m - (i + 1)) = omega arith in
      rw (s, e, ← p, drop-drop size at bs)

  pub entries-stop : entry_right last next (drop at bs) bs ≡ false → entries_right (m - i) size last next (drop at bs) bs ≡ false
  unfolding entries_right
  entries-stop e =
      let s : m - i ≡ suc (m - (i + 1)) = omega arith in
      rw (s, e)

  pub entries-first : entries_right (m - i) size last next (drop at bs) bs ≡ true → entry_right last next (drop at bs) bs ≡ true
  unfolding entries_right
  entries-first e =
      let s : m - i ≡ suc (m - (i + 1)) = omega arith in
      (cond_both (entry_right last next (drop at bs) bs) _ (rw s at e)).0

pub entry-fits : (at next : ℕ) (last bs : List ℕ) (len : ℕ) → len ≡ name_length (drop at bs) → entry_right last next (drop at bs) bs ≡ true
    →
    len ≤ length bs - next
entry-fits at next last bs len p e = rw p (right-entry last next (drop at bs) bs e).within

here_or_on : (s l : Bool) (here further d : ℕ) →
    cond (cond s true l) (found_here (cond s here further) d) not_listed
    ≡ cond s (found_here here d) (cond l (found_here further d) not_listed)
here_or_on true l here further d = refl
here_or_on false l here further d = refl

-- the first of the pairs left is the one whose name stands at `next`
pub place-on : (m i d at next : ℕ) (name last bs : List ℕ) → i < m → (len : ℕ) → len ≡ name_length (drop at bs) →
    entry_right last next (drop at bs) bs ≡ true →
    found_in name d at (read_pairs (m - i) d (drop at bs) bs)
    ≡ cond (same (part bs next len) name) (found_here (at + entry_head) d)
    (found_in name d (at + entry_size d) (read_pairs (m - (i + 1)) d (drop (at + entry_size d) bs) bs))
unfolding listed place_in read_pairs
place-on m i d at next name last bs h len p e =
    let s : m - i ≡ suc (m - (i + 1)) = omega arith in
    let rest : List Pair = read_pairs (m - (i + 1)) d (drop (at + entry_size d) bs) bs in
    rw (s, (right-entry last next (drop at bs) bs e).offset, ← p, drop-drop (entry_size d) at bs)
    (here_or_on (same (part bs next len) name) (listed name rest) (at + entry_head) (place_in name d (at + entry_size d) rest) d)

pub place-over : (m i d at : ℕ) (name bs : List ℕ) → m ≤ i → found_in name d at (read_pairs (m - i) d (drop at bs) bs) ≡ not_listed
unfolding listed place_in read_pairs
place-over m i d at name bs h =
    let s : m - i ≡ 0 = omega arith in
    rw s

-- ---- names that come before one

-- n of the first i names come before the name: all of them, and then those left decide, or it is settled
pub record Earlier (name : List ℕ) (all : List Pair) (n i : ℕ) (left : List Pair) : Type 0 where
  pub within : n ≤ i
  pub counts : earlier name all ≡ n + cond (eqb n i) (earlier name left) 0

pub earlier-start : (name : List ℕ) (ps : List Pair) → Earlier name ps 0 0 ps
earlier-start name ps = record { within = omega arith; counts = sym (zero-add (earlier name ps)) }

module _ (name : List ℕ) (all : List Pair) (n i : ℕ) where
  one_earlier : (p : Pair) (left : List Pair) → Earlier name all n i (p ∷ left) →
      Earlier name all (more_earlier n i (before p.name name)) (i + 1) left
  unfolding earlier more_earlier
  one_earlier p left f = go (eqb n i) refl (before p.name name) f.counts
    where
      go : (s : Bool) → eqb n i ≡ s → (b : Bool) → earlier name all ≡ n + cond s (cond b (suc (earlier name left)) 0) 0 →
          Earlier name all (cond s (cond b (suc n) n) n) (i + 1) left
      go true q true e =
          let same = eqb-true n i q in
          record { within = omega arith; counts = e ∙ rw (eq-eqb (suc n) (i + 1) (omega arith)) (omega arith) }
      go true q false e =
          let same = eqb-true n i q in
          record { within = omega arith; counts = e ∙ rw (ne_eqb n (i + 1) (λ r. omega arith)) }
      go false q b e =
          let apart = eqb-false n i q in
          record { within = omega (arith, f.within); counts = e ∙ rw (ne_eqb n (i + 1) (λ r. omega (arith, f.within))) }

pub earlier_on : (m i d at next : ℕ) (name last bs : List ℕ) → i < m → (len : ℕ) → len ≡ name_length (drop at bs) →
    entry_right last next (drop at bs) bs ≡ true →
    (all : List Pair) (n : ℕ) (s : List ℕ) → s ≡ part bs next len →
    Earlier name all n i (read_pairs (m - i) d (drop at bs) bs) →
    Earlier name all (more_earlier n i (before s name)) (i + 1) (read_pairs (m - (i + 1)) d (drop (at + entry_size d) bs) bs)
unfolding read_pairs
earlier_on m i d at next name last bs h len p e all n s q f =
    let less : m - i ≡ suc (m - (i + 1)) = omega arith in
    let named : s ≡ (pair_at d (drop at bs) bs).name = q ∙ rw ((right-entry last next (drop at bs) bs e).offset, p) in
    rw (named, ← drop-drop (entry_size d) at bs)
    (one_earlier name all n i (pair_at d (drop at bs) bs) (read_pairs (m - (i + 1)) d (drop (entry_size d) (drop at bs)) bs) (rw less at f))

pub earlier-over : (name : List ℕ) (all : List Pair) (n i d : ℕ) (es bs : List ℕ) → Earlier name all n i (read_pairs zero d es bs) →
    n ≡ earlier name all
unfolding read_pairs earlier
earlier-over name all n i d es bs f = sym (f.counts ∙ go (eqb n i))
  where
    go : (b : Bool) → n + cond b 0 0 ≡ n
    go true = omega arith
    go false = omega arith
