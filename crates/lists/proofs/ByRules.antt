-- The rules of SPEC, "Digest list", one by one say the same of any bytes as `accepted`: `by-rules`.
-- One way, the bytes of a valid list keep the rules, `valid-right`; the other, bytes that keep them are those of the list read,
-- `right-list`. Judging in two steps, as the code does it: `header-refuses` and `entries-decide`.
use mathlib.Core.Bool.{Bool, true, false}
use mathlib.Core.List.{List, [], ◌∷◌, ◌++◌, append_assoc}
use mathlib.Core.Path.{◌≡◌, refl, sym, ap, subst, ◌∙◌}
use Prim.Native.Nat.{ℕ, zero, suc, ◌+◌, ◌-◌, ◌*◌, ◌^◌, ◌<◌, ◌≤◌}
use native.Mathlib.Nat.{zero-mul, suc-mul, add_comm}
use native.Mathlib.Omega.{arith}
use lib.ListN.{length, take, drop, length-append, length-drop, take-append-drop, drop_of_length-le}
use lib.Seq.{take_at, drop_at, drop-drop, take-add}
use borrow.Author.Tests.{eq-eqb, le-leb, eqb-true, leb-true}
use Rattle.bigendian.specs.Rows.{row_bytes, field_in, read_row, Reads}
use Rattle.bigendian.proofs.RowLaws.{row_is}
use Rattle.slices.specs.Below.{Bytes}
use Rattle.slices.specs.Parts.{part}
use Rattle.slices.specs.Tests.{holds, every}
use Rattle.slices.proofs.Below.{below-take, below-drop}
use Rattle.slices.proofs.Parts.{length_part}
use Rattle.slices.proofs.Tests.{holds_at, cond_both, tests_agree, same_refl, same-eq, below-all_below}
use Rattle.fips.specs.Editions.{known, digest_bytes}
use Rattle.lists.specs.Order.{before}
use Rattle.lists.specs.Lists.{Pair, DigestList, most_entries, name_allowed, pair_allowed, ascending, valid}
use Rattle.lists.specs.Layout.{offset_size, entries_field_at, names_field_at, whole_field_at, entries_at, entry_head, entry_size, names_at}
use Rattle.lists.specs.Layout.{list_row, entry_row, entry_bytes, entry_run, name_run, names_of, whole_length, list_bytes, longest_list}
use Rattle.lists.specs.Layout.{edition_in, count_in, digest_size_in, name_offset, name_length, read_pairs, read_list, accepted}
use Rattle.lists.specs.Code.Rules.{offsets_right, header_right, entry_right, entries_right, by_rules}
use Rattle.lists.proofs.Written.{allowed-pair, entry-offset, entry_length, entry_past, ValidList, valid-list}
use Rattle.lists.proofs.Written.{whole-short, list_length, list-edition, list_count, list-entries-field, list-names-field}
use Rattle.lists.proofs.Written.{list-whole-field, list-entries, list-names}

-- ---- a valid list keeps the rules

run-right : (d at : ℕ) (ps : List Pair) (last rest bs : List ℕ) → every (pair_allowed d) ps ≡ true → ascending last ps ≡ true →
    drop at bs ≡ name_run ps → at + length (name_run ps) ≡ length bs → length bs < 256 ^ offset_size →
    entries_right (length ps) (entry_size d) last at (entry_run at ps ++ rest) bs ≡ true
unfolding every ascending entry_run name_run entries_right entry_right holds
run-right d at [] last rest bs e up names whole h = eq-eqb at (length bs) (omega arith)
run-right d at (p ∷ ps) last rest bs e up names whole h =
    let t = cond_both (pair_allowed d p) (every (pair_allowed d) ps) e in
    let u = cond_both (before last p.name) (ascending p.name ps) up in
    let a = allowed-pair d p t.0 in
    let len = length p.name in
    let tail = entry_run (at + len) ps ++ rest in
    let w : at + len + length (name_run ps) ≡ length bs = omega (arith, simp length-append at whole) in
    rw (
      append_assoc (entry_bytes at p) (entry_run (at + len) ps) rest,
      entry_past d at p tail a,
      entry-offset d at p tail a (omega arith),
      entry_length d at p tail a (omega arith),
      names,
      take_at p.name (name_run ps) len refl,
      eq-eqb at at refl,
      le-leb len (length bs - at) (omega arith),
      a.named,
      u.0,
    )
    (run-right d (at + len) ps p.name rest bs t.1 u.1
    (sym (drop-drop len at bs) ∙ ap (drop len) names ∙ drop_at p.name (name_run ps) len refl) w h)

valid-header : (l : DigestList) → ValidList l → header_right (list_bytes l) ≡ true
unfolding header_right offsets_right holds
valid-header l v =
    rw (
      list-edition l v,
      list_count l v,
      list-entries-field l v,
      list-names-field l v,
      list-whole-field l v,
      list_length l v,
      v.edition-known,
      le-leb entries_at (whole_length l) (omega arith),
      le-leb (length l.pairs) most_entries v.few,
      eq-eqb (names_of l) (names_of l) refl,
      eq-eqb (whole_length l) (whole_length l) refl,
      le-leb (names_of l) (whole_length l) (omega arith),
    )

valid-right : (l : DigestList) → ValidList l → by_rules (list_bytes l) ≡ true
unfolding by_rules longest_list
valid-right l v =
    rw (valid-header l v, list-edition l v, list_count l v, list-entries l v)
    (run-right (digest_bytes l.edition) (names_of l) l.pairs [] (name_run l.pairs) (list_bytes l) v.allowed v.ascends
    (list-names l v) (sym (list_length l v)) (omega (arith, list_length l v, whole-short l v)))

-- ---- bytes that keep the rules

-- the entry at the front of the bytes, laid out again
entry-again : (d next : ℕ) (es : List ℕ) → Bytes es → entry_size d ≤ length es → name_offset es ≡ next →
    row_bytes (entry_row next (name_length es)) ++ part es entry_head d ≡ take (entry_size d) es
unfolding read_row
entry-again d next es b h e =
    let row = entry_row next (name_length es) in
    let reads : Reads row es = rw e in
    ap (λ (l : List ℕ). l ++ part es entry_head d) (sym (row_is row es b refl reads (omega arith))) ∙ sym (take-add entry_head d es)

pub length-read_pairs : (n d : ℕ) (es bs : List ℕ) → length (read_pairs n d es bs) ≡ n
unfolding read_pairs
length-read_pairs zero d es bs = refl
length-read_pairs (suc n) d es bs = ap suc (length-read_pairs n d (drop (entry_size d) es) bs)

-- what n entries that are right give: they are the entries of the pairs read, and the names stand to the end
record RightRun (n d : ℕ) (last : List ℕ) (next : ℕ) (es bs : List ℕ) : Type 0 where
  entries : entry_run next (read_pairs n d es bs) ++ drop (n * entry_size d) es ≡ es
  names : name_run (read_pairs n d es bs) ≡ drop next bs
  allowed : every (pair_allowed d) (read_pairs n d es bs) ≡ true
  ascends : ascending last (read_pairs n d es bs) ≡ true

pub record RightEntry (last : List ℕ) (next : ℕ) (entry bs : List ℕ) : Type 0 where
  pub offset : name_offset entry ≡ next
  pub within : name_length entry ≤ length bs - next
  pub named : name_allowed (part bs next (name_length entry)) ≡ true
  pub later : before last (part bs next (name_length entry)) ≡ true

pub right-entry : (last : List ℕ) (next : ℕ) (entry bs : List ℕ) → entry_right last next entry bs ≡ true → RightEntry last next entry bs
unfolding entry_right
right-entry last next entry bs e = record {
  offset = eqb-true (name_offset entry) next (holds_at _ e 0);
  within = leb-true (name_length entry) (length bs - next) (holds_at _ e 1);
  named = holds_at _ e 2;
  later = holds_at _ e 3;
}

module _ (n d : ℕ) (last : List ℕ) (next : ℕ) (es bs : List ℕ) (b : Bytes es) (h : entry_size d ≤ length es) (k : next ≤ length bs)
    (f : RightEntry last next es bs)
    (r : RightRun n d (part bs next (name_length es)) (next + name_length es) (drop (entry_size d) es) bs) where
  name-size : length (part bs next (name_length es)) ≡ name_length es
  name-size = length_part next (name_length es) bs (omega (arith, f.within))

  digest-size : length (part es entry_head d) ≡ d
  digest-size = length_part entry_head d es (omega arith)

  one-more-entries : entry_run next (read_pairs (suc n) d es bs) ++ drop (suc n * entry_size d) es ≡ es
  unfolding entry_run read_pairs entry_bytes
  one-more-entries =
      rw (
        f.offset,
        name-size,
        entry-again d next es b h f.offset,
        append_assoc,
        suc-mul n (entry_size d),
        add_comm (n * entry_size d) (entry_size d),
        ← drop-drop (n * entry_size d) (entry_size d) es,
        r.entries,
      )
      (take-append-drop (entry_size d) es)

  one-more-names : name_run (read_pairs (suc n) d es bs) ≡ drop next bs
  unfolding name_run read_pairs
  one-more-names = rw (f.offset, r.names, ← drop-drop (name_length es) next bs) (take-append-drop (name_length es) (drop next bs))

  one-more-allowed : every (pair_allowed d) (read_pairs (suc n) d es bs) ≡ true
  unfolding every read_pairs pair_allowed holds
  one-more-allowed =
      rw (
        f.offset,
        f.named,
        eq-eqb (length (part es entry_head d)) d digest-size,
        below-all_below 256 (part es entry_head d) (below-take d (drop entry_head es) (below-drop entry_head es b)),
      )
      r.allowed

  one-more-ascends : ascending last (read_pairs (suc n) d es bs) ≡ true
  unfolding ascending read_pairs
  one-more-ascends = rw (f.offset, f.later) r.ascends

right-run : (n d : ℕ) (last : List ℕ) (next : ℕ) (es bs : List ℕ) → Bytes es → n * entry_size d ≤ length es → next ≤ length bs →
    entries_right n (entry_size d) last next es bs ≡ true → RightRun n d last next es bs
unfolding entries_right every ascending entry_run name_run read_pairs
right-run zero d last next es bs b h k e = record {
  entries = rw zero-mul;
  names = sym (drop_of_length-le bs {i = next} (omega (arith, eqb-true next (length bs) e)));
  allowed = refl;
  ascends = refl;
}
right-run (suc n) d last next es bs b h k e =
    let t = cond_both (entry_right last next es bs) _ e in
    let f = right-entry last next es bs t.0 in
    let m = suc-mul n (entry_size d) in
    let r =
    right-run n d (part bs next (name_length es)) (next + name_length es) (drop (entry_size d) es) bs (below-drop (entry_size d) es b)
    (simp length-drop (omega arith)) (omega (arith, f.within)) t.1
    in
    record {
      entries = one-more-entries n d last next es bs b (omega arith) k f r;
      names = one-more-names n d last next es bs b (omega arith) k f r;
      allowed = one-more-allowed n d last next es bs b (omega arith) k f r;
      ascends = one-more-ascends n d last next es bs b (omega arith) k f r;
    }

pub record RightHeader (bs : List ℕ) : Type 0 where
  pub long : entries_at ≤ length bs
  pub edition-known : known (edition_in bs) ≡ true
  pub few : count_in bs ≤ most_entries
  pub entries-field : field_in bs entries_field_at offset_size ≡ entries_at
  pub names-field : field_in bs names_field_at offset_size ≡ names_at (count_in bs) (digest_size_in bs)
  pub whole-field : field_in bs whole_field_at offset_size ≡ length bs
  pub within : names_at (count_in bs) (digest_size_in bs) ≤ length bs

pub right-header : (bs : List ℕ) → header_right bs ≡ true → RightHeader bs
unfolding header_right offsets_right
right-header bs e = record {
  long = leb-true entries_at (length bs) (holds_at _ e 0);
  edition-known = holds_at _ e 1;
  few = leb-true (count_in bs) most_entries (holds_at _ e 2);
  entries-field = eqb-true (field_in bs entries_field_at offset_size) entries_at (holds_at _ (holds_at _ e 3) 0);
  names-field = eqb-true (field_in bs names_field_at offset_size) (names_at (count_in bs) (digest_size_in bs))
      (holds_at _ (holds_at _ e 3) 1);
  whole-field = eqb-true (field_in bs whole_field_at offset_size) (length bs) (holds_at _ (holds_at _ e 3) 2);
  within = leb-true (names_at (count_in bs) (digest_size_in bs)) (length bs) (holds_at _ (holds_at _ e 3) 3);
}

header-again : (bs : List ℕ) → Bytes bs → RightHeader bs →
    row_bytes (list_row (edition_in bs) (count_in bs) (names_at (count_in bs) (digest_size_in bs)) (length bs)) ≡ take entries_at bs
unfolding read_row
header-again bs b f =
    let row = list_row (edition_in bs) (count_in bs) (names_at (count_in bs) (digest_size_in bs)) (length bs) in
    let reads : Reads row bs = rw (f.entries-field, f.names-field, f.whole-field) in
    sym (row_is row bs b refl reads f.long)

module _ (bs : List ℕ) (b : Bytes bs) (f : RightHeader bs)
    (r : RightRun (count_in bs) (digest_size_in bs) [] (names_at (count_in bs) (digest_size_in bs)) (drop entries_at bs) bs) where
  read-valid : valid (read_list bs) ≡ true
  unfolding valid read_list holds
  read-valid = rw (f.edition-known, length-read_pairs, le-leb (count_in bs) most_entries f.few, r.allowed, r.ascends)

  read_whole : names_at (count_in bs) (digest_size_in bs) + length (drop (names_at (count_in bs) (digest_size_in bs)) bs) ≡ length bs
  read_whole = simp length-drop (omega (arith, f.within))

  read-rest : entry_run (names_at (count_in bs) (digest_size_in bs)) (read_pairs (count_in bs) (digest_size_in bs) (drop entries_at bs) bs)
      ++ drop (names_at (count_in bs) (digest_size_in bs)) bs ≡ drop entries_at bs
  read-rest = rw (← drop-drop (count_in bs * entry_size (digest_size_in bs)) entries_at bs) r.entries

  read_again : list_bytes (read_list bs) ≡ bs
  unfolding read_list list_bytes
  read_again =
      rw (length-read_pairs, r.names, read_whole, header-again bs b f, read-rest) (take-append-drop entries_at bs)

right-list : (bs : List ℕ) → Bytes bs → by_rules bs ≡ true → accepted bs ≡ true
unfolding by_rules accepted holds
right-list bs b e =
    let t = cond_both (header_right bs) _ e in
    let f = right-header bs t.0 in
    let names = names_at (count_in bs) (digest_size_in bs) in
    let r =
    right-run (count_in bs) (digest_size_in bs) [] names (drop entries_at bs) bs (below-drop entries_at bs b)
    (simp length-drop (omega (arith, f.within))) f.within t.1
    in
    rw (read-valid bs b f r, read_again bs b f r, same_refl bs)

accepted-right : (bs : List ℕ) → accepted bs ≡ true → by_rules bs ≡ true
unfolding accepted
accepted-right bs e =
    subst (λ (l : List ℕ). by_rules l ≡ true) (same-eq (list_bytes (read_list bs)) bs (holds_at _ e 1))
    (valid-right (read_list bs) (valid-list (read_list bs) (holds_at _ e 0)))

pub by-rules : (bs : List ℕ) → Bytes bs → by_rules bs ≡ accepted bs
by-rules bs b = tests_agree (by_rules bs) (accepted bs) (right-list bs b) (accepted-right bs)

-- what is known of the bytes of a list once they are accepted
pub accepted-header : (bs : List ℕ) → accepted bs ≡ true → RightHeader bs
unfolding by_rules
accepted-header bs e = right-header bs (cond_both (header_right bs) _ (accepted-right bs e)).0

pub accepted-entries : (bs : List ℕ) → accepted bs ≡ true →
    entries_right (count_in bs) (entry_size (digest_size_in bs)) [] (names_at (count_in bs) (digest_size_in bs)) (drop entries_at bs) bs ≡
    true
unfolding by_rules
accepted-entries bs e = (cond_both (header_right bs) _ (accepted-right bs e)).1

-- ---- the two steps of judging: the header, and then the entries, where count and digest size are at hand

pub header-refuses : (bs : List ℕ) → Bytes bs → header_right bs ≡ false → false ≡ accepted bs
unfolding by_rules
header-refuses bs b e = rw e at (by-rules bs b)

module _ (bs : List ℕ) (n d : ℕ) (pn : n ≡ count_in bs) (pd : d ≡ digest_size_in bs) (h : header_right bs ≡ true) where
  pub names-inside : names_at n d ≤ length bs
  names-inside = rw (pd, pn) (right-header bs h).within

  pub entries-few : n ≤ most_entries
  entries-few = rw pn (right-header bs h).few

  pub entries-decide : (r : Bool) → Bytes bs → r ≡ entries_right n (entry_size d) [] (names_at n d) (drop entries_at bs) bs →
      r ≡ accepted bs
  unfolding by_rules
  entries-decide r b q = q ∙ rw (pd, pn) (rw h at (by-rules bs b))
