-- A valid list as bytes: how long they are, `list_length`, and that they are read as the list, `read_back`.
-- What an entry holds that was laid out: `entry-reads`; what the header holds: `list-reads`.
use mathlib.Core.Bool.{true}
use mathlib.Core.List.{List, [], ◌∷◌, ◌++◌, append_assoc}
use mathlib.Core.Path.{◌≡◌, refl, sym, ap, ◌∙◌}
use Prim.Native.Nat.{ℕ, ◌+◌, ◌*◌, ◌^◌, ◌<◌, ◌≤◌}
use native.Mathlib.Nat.{zero-mul, suc-mul, add_comm, mul-le-mul}
use native.Mathlib.Omega.{arith}
use borrow.Author.Tests.{eqb-true, leb-true}
use lib.ListN.{length, drop, length-append}
use lib.Seq.{take_at, drop_at, drop-drop}
use Rattle.bigendian.specs.Rows.{Field, row_bytes, field_in, Fitting, Reads}
use Rattle.bigendian.proofs.RowLaws.{length-row, row_read, reads-field}
use Rattle.fips.specs.Editions.{known, digest_bytes}
use Rattle.fips.proofs.Editions.{digest-short}
use Rattle.fips.proofs.Sizes.{known_small}
use Rattle.slices.specs.Parts.{part}
use Rattle.slices.specs.Tests.{every}
use Rattle.slices.proofs.Tests.{holds_at, cond_both}
use Rattle.lists.specs.Lists.{Pair, DigestList, most_entries, longest_name, name_allowed, pair_allowed, ascending, valid}
use Rattle.lists.specs.Layout.{offset_size, entries_field_at, names_field_at, whole_field_at, entries_at, entry_head, entry_size}
use Rattle.lists.specs.Layout.{longest_list}
use Rattle.lists.specs.Layout.{list_row, entry_row, entry_bytes, entry_run, name_run, names_of, whole_length, list_bytes}
use Rattle.lists.specs.Layout.{edition_in, count_in, name_offset, name_length, read_pairs, read_list}
use Rattle.lists.proofs.Allowed.{name-short}

pub record AllowedPair (d : ℕ) (p : Pair) : Type 0 where
  pub named : name_allowed p.name ≡ true
  pub short : length p.name ≤ longest_name
  pub sized : length p.digest ≡ d

pub allowed-pair : (d : ℕ) (p : Pair) → pair_allowed d p ≡ true → AllowedPair d p
unfolding pair_allowed
allowed-pair d p e = record {
  named = holds_at _ e 0;
  short = name-short p.name (holds_at _ e 0);
  sized = eqb-true (length p.digest) d (holds_at _ e 1);
}

-- ---- an entry that was laid out

length-entry : (d at : ℕ) (p : Pair) → AllowedPair d p → length (entry_bytes at p) ≡ entry_size d
unfolding entry_bytes
length-entry d at p a = simp (length-append, length-row, a.sized)

module _ (d at : ℕ) (p : Pair) (rest : List ℕ) (a : AllowedPair d p) where
  row : List Field
  row = entry_row at (length p.name)

  entry-parts : entry_bytes at p ++ rest ≡ row_bytes row ++ (p.digest ++ rest)
  unfolding entry_bytes row
  entry-parts = append_assoc (row_bytes (entry_row at (length p.name))) p.digest rest

  entry-reads : at < 256 ^ offset_size → Reads row (entry_bytes at p ++ rest)
  unfolding row
  entry-reads h =
      let fits : Fitting (entry_row at (length p.name)) = (h, (omega (arith, a.short), tt)) in
      rw entry-parts (row_read (entry_row at (length p.name)) (p.digest ++ rest) refl fits)

  pub entry-offset : at < 256 ^ offset_size → name_offset (entry_bytes at p ++ rest) ≡ at
  unfolding row
  entry-offset h = reads-field row (entry_bytes at p ++ rest) 0 (entry-reads h)

  pub entry_length : at < 256 ^ offset_size → name_length (entry_bytes at p ++ rest) ≡ length p.name
  unfolding row
  entry_length h = reads-field row (entry_bytes at p ++ rest) 1 (entry-reads h)

  entry-digest : part (entry_bytes at p ++ rest) entry_head d ≡ p.digest
  unfolding row
  entry-digest =
      rw (entry-parts, drop_at (row_bytes row) (p.digest ++ rest) entry_head (length-row row)) (take_at p.digest rest d a.sized)

  pub entry_past : drop (entry_size d) (entry_bytes at p ++ rest) ≡ rest
  entry_past = drop_at (entry_bytes at p) rest (entry_size d) (length-entry d at p a)

-- ---- lengths

pub length-entry_run : (d at : ℕ) (ps : List Pair) → every (pair_allowed d) ps ≡ true → length (entry_run at ps) ≡ length ps * entry_size d
unfolding every entry_run
length-entry_run d at [] e = sym (zero-mul (entry_size d))
length-entry_run d at (p ∷ ps) e =
    let t = cond_both (pair_allowed d p) (every (pair_allowed d) ps) e in
    rw (
      length-append (entry_bytes at p) (entry_run (at + length p.name) ps),
      length-entry d at p (allowed-pair d p t.0),
      length-entry_run d (at + length p.name) ps t.1,
      suc-mul (length ps) (entry_size d),
    )
    (add_comm (entry_size d) (length ps * entry_size d))

length-name_run : (d : ℕ) (ps : List Pair) → every (pair_allowed d) ps ≡ true → length (name_run ps) ≤ longest_name * length ps
unfolding every name_run
length-name_run d [] e = omega arith
length-name_run d (p ∷ ps) e =
    let t = cond_both (pair_allowed d p) (every (pair_allowed d) ps) e in
    simp length-append (omega (arith, (allowed-pair d p t.0).short, length-name_run d ps t.1))

-- ---- entries read back

pub read-run : (d at : ℕ) (ps : List Pair) (rest bs : List ℕ) → every (pair_allowed d) ps ≡ true →
    drop at bs ≡ name_run ps → at + length (name_run ps) < 256 ^ offset_size → read_pairs (length ps) d (entry_run at ps ++ rest) bs ≡ ps
unfolding every entry_run name_run read_pairs
read-run d at [] rest bs e names h = refl
read-run d at (p ∷ ps) rest bs e names h =
    let t = cond_both (pair_allowed d p) (every (pair_allowed d) ps) e in
    let a = allowed-pair d p t.0 in
    let len = length p.name in
    let tail = entry_run (at + len) ps ++ rest in
    let l : at + len + length (name_run ps) < 256 ^ offset_size = omega (arith, simp length-append at h) in
    rw (
      append_assoc (entry_bytes at p) (entry_run (at + len) ps) rest,
      entry_past d at p tail a,
      entry-offset d at p tail a (omega arith),
      entry_length d at p tail a (omega arith),
      entry-digest d at p tail a,
      names,
      take_at p.name (name_run ps) len refl,
      read-run d (at + len) ps rest bs t.1 (sym (drop-drop len at bs) ∙ ap (drop len) names ∙ drop_at p.name (name_run ps) len refl) l,
    )

-- ---- a valid list

pub record ValidList (l : DigestList) : Type 0 where
  pub edition-known : known l.edition ≡ true
  pub few : length l.pairs ≤ most_entries
  pub allowed : every (pair_allowed (digest_bytes l.edition)) l.pairs ≡ true
  pub ascends : ascending [] l.pairs ≡ true

pub valid-list : (l : DigestList) → valid l ≡ true → ValidList l
unfolding valid
valid-list l e = record {
  edition-known = holds_at _ e 0;
  few = leb-true (length l.pairs) most_entries (holds_at _ e 1);
  allowed = holds_at _ e 2;
  ascends = holds_at _ e 3;
}

-- few entries, with digests of any edition
pub entries-bound : (n e : ℕ) → n ≤ most_entries → n * entry_size (digest_bytes e) ≤ most_entries * entry_size 64
entries-bound n e few = mul-le-mul {n₂ = most_entries} {m₂ = entry_size 64} few (omega (arith, digest-short e))

module _ (l : DigestList) (v : ValidList l) where
  entries-length : length (entry_run (names_of l) l.pairs) ≡ length l.pairs * entry_size (digest_bytes l.edition)
  entries-length = length-entry_run (digest_bytes l.edition) (names_of l) l.pairs v.allowed

  pub whole-short : whole_length l ≤ longest_list
  unfolding longest_list
  whole-short =
      omega (
        arith,
        entries-bound (length l.pairs) l.edition v.few,
        length-name_run (digest_bytes l.edition) l.pairs v.allowed,
        v.few,
      )

  head-row : List Field
  head-row = list_row l.edition (length l.pairs) (names_of l) (whole_length l)

  fits : Fitting head-row
  unfolding head-row longest_list
  fits = (
    omega (arith, known_small l.edition v.edition-known),
    (
      omega (arith, v.few),
      (
        omega arith,
        (omega (arith, whole-short), (omega (arith, whole-short), tt)),
      ),
    ),
  )

  list-reads : Reads head-row (list_bytes l)
  unfolding list_bytes head-row
  list-reads = row_read head-row (entry_run (names_of l) l.pairs ++ name_run l.pairs) refl fits

  pub list-edition : edition_in (list_bytes l) ≡ l.edition
  unfolding head-row
  list-edition = reads-field head-row (list_bytes l) 0 list-reads

  pub list_count : count_in (list_bytes l) ≡ length l.pairs
  unfolding head-row
  list_count = reads-field head-row (list_bytes l) 1 list-reads

  pub list-entries-field : field_in (list_bytes l) entries_field_at offset_size ≡ entries_at
  unfolding head-row
  list-entries-field = reads-field head-row (list_bytes l) 2 list-reads

  pub list-names-field : field_in (list_bytes l) names_field_at offset_size ≡ names_of l
  unfolding head-row
  list-names-field = reads-field head-row (list_bytes l) 3 list-reads

  pub list-whole-field : field_in (list_bytes l) whole_field_at offset_size ≡ whole_length l
  unfolding head-row
  list-whole-field = reads-field head-row (list_bytes l) 4 list-reads

  pub list-entries : drop entries_at (list_bytes l) ≡ entry_run (names_of l) l.pairs ++ name_run l.pairs
  unfolding list_bytes head-row
  list-entries = drop_at (row_bytes head-row) (entry_run (names_of l) l.pairs ++ name_run l.pairs) entries_at (length-row head-row)

  pub list_length : length (list_bytes l) ≡ whole_length l
  unfolding list_bytes
  list_length = simp (length-append, length-row, entries-length) (omega arith)

  pub list-names : drop (names_of l) (list_bytes l) ≡ name_run l.pairs
  list-names =
      let n = length l.pairs * entry_size (digest_bytes l.edition) in
      sym (drop-drop n entries_at (list_bytes l))
      ∙ ap (drop n) list-entries
      ∙ drop_at (entry_run (names_of l) l.pairs) (name_run l.pairs) n entries-length

  pub read_back : read_list (list_bytes l) ≡ l
  unfolding read_list longest_list
  read_back =
      rw (
        list-edition,
        list_count,
        list-entries,
        read-run (digest_bytes l.edition) (names_of l) l.pairs (name_run l.pairs) (list_bytes l) v.allowed list-names
            (omega (arith, whole-short)),
      )
