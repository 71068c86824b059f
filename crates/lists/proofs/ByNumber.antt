-- Entries by number: `pair-at`, where the bytes of the i-th pair stand, by `name-place` and `digest-place`, and `no-pair`, that there is
-- none behind the last.
use mathlib.Core.List.{List, []}
use mathlib.Core.Path.{◌≡◌, refl, sym, ap, ◌∙◌}
use Prim.Native.Nat.{ℕ, zero, suc, ◌+◌, ◌*◌, ◌^◌, ◌<◌, ◌≤◌}
use native.Mathlib.Nat.{suc-mul, zero-mul, mul-le-mul}
use native.Mathlib.Omega.{arith}
use lib.ListN.{drop, get_or}
use lib.Seq.{drop-drop}
use Rattle.bigendian.proofs.RowLaws.{field_lt}
use Rattle.fips.proofs.Editions.{digest-short}
use Rattle.slices.specs.Below.{Bytes}
use Rattle.slices.specs.Parts.{part}
use Rattle.lists.specs.Calls.{pair_in, place_of_entry, place_of_name, place_of_digest}
use Rattle.lists.specs.Layout.{number_size, count_at, entries_at, entry_head, entry_size, edition_in, count_in, digest_size_in}
use Rattle.lists.specs.Layout.{name_offset, name_length, pair_at, read_pairs, read_list}
use Rattle.lists.specs.Lists.{Pair}

-- behind the last there is none
none-on : (n d i : ℕ) (entries bs : List ℕ) (p : Pair) → n ≤ i → get_or (read_pairs n d entries bs) i p ≡ p
unfolding read_pairs
none-on zero d i entries bs p h = refl
none-on (suc n) d zero entries bs p h = absurd (omega arith)
none-on (suc n) d (suc i) entries bs p h = none-on n d i (drop (entry_size d) entries) bs p (omega arith)

pair-on : (n d i : ℕ) (entries bs : List ℕ) (p : Pair) → i < n →
    get_or (read_pairs n d entries bs) i p ≡ pair_at d (drop (i * entry_size d) entries) bs
unfolding read_pairs
pair-on zero d i entries bs p h = absurd (omega arith)
pair-on (suc n) d zero entries bs p h = rw (zero-mul (entry_size d))
pair-on (suc n) d (suc i) entries bs p h =
    let further : entry_size d + i * entry_size d ≡ suc i * entry_size d = omega (arith, suc-mul i (entry_size d)) in
    pair-on n d i (drop (entry_size d) entries) bs p (omega arith)
    ∙ ap (λ (l : List ℕ). pair_at d l bs)
    (drop-drop (i * entry_size d) (entry_size d) entries ∙ ap (λ (k : ℕ). drop k entries) further)

pub no-pair : (i : ℕ) (bs : List ℕ) → count_in bs ≤ i → pair_in i bs ≡ record { name = []; digest = [] }
unfolding pair_in read_list
no-pair i bs h = none-on (count_in bs) (digest_size_in bs) i (drop entries_at bs) bs (record { name = []; digest = [] }) h

pub pair-at : (i : ℕ) (bs : List ℕ) → i < count_in bs →
    pair_in i bs ≡ pair_at (digest_size_in bs) (drop (place_of_entry i bs) bs) bs
unfolding pair_in read_list
pair-at i bs h =
    let d = digest_size_in bs in
    pair-on (count_in bs) d i (drop entries_at bs) bs (record { name = []; digest = [] }) h
    ∙ ap (λ (l : List ℕ). pair_at d l bs) (drop-drop (i * entry_size d) entries_at bs)

pub no_name : (i : ℕ) (bs : List ℕ) → count_in bs ≤ i → [] ≡ (pair_in i bs).name
no_name i bs h = ap (λ (p : Pair). p.name) (sym (no-pair i bs h))

pub no-digest : (i : ℕ) (bs : List ℕ) → count_in bs ≤ i → [] ≡ (pair_in i bs).digest
no-digest i bs h = ap (λ (p : Pair). p.digest) (sym (no-pair i bs h))

-- where the i-th entry stands
module _ (bs : List ℕ) (i : ℕ) (h : i < count_in bs) where
  -- a count is a number of two bytes, so this is where a machine can count
  pub entry-far : Bytes bs → i * entry_size (digest_size_in bs) ≤ 256 ^ number_size * entry_size 64
  entry-far b =
      mul-le-mul {n₂ = 256 ^ number_size} {m₂ = entry_size 64} (omega (arith, field_lt bs count_at number_size b))
      (omega (arith, digest-short (edition_in bs)))

  module _ (at : ℕ) (e : at ≡ place_of_entry i bs) where
    here : pair_in i bs ≡ pair_at (digest_size_in bs) (drop at bs) bs
    here = rw e (pair-at i bs h)

    pub name-at : (p : List ℕ) (from len : ℕ) → from ≡ name_offset (drop at bs) → len ≡ name_length (drop at bs) → p ≡ part bs from len →
        p ≡ (pair_in i bs).name
    name-at p from len pf pl q = q ∙ rw (pf, pl) (sym (ap (λ (r : Pair). r.name) here))

    pub name-place : (from : ℕ) → from ≡ name_offset (drop at bs) → from ≡ place_of_name i bs
    name-place from pf = pf ∙ ap (λ (k : ℕ). name_offset (drop k bs)) e

    pub digest-place : at + entry_head ≡ place_of_digest i bs
    digest-place = ap (λ (k : ℕ). k + entry_head) e

    pub digest-at : (p : List ℕ) (d : ℕ) → d ≡ digest_size_in bs → p ≡ part bs (at + entry_head) d → p ≡ (pair_in i bs).digest
    digest-at p d pd q = q ∙ rw (pd, ← drop-drop entry_head at bs) (sym (ap (λ (r : Pair). r.digest) here))
