-- `writer::refusal` meets its contract: its tests are those of `put_tests`, in their order.
use mathlib.Core.Bool.{Bool, true, false}
use mathlib.Core.List.{List}
use mathlib.Core.Path.{◌≡◌, sym, ap, ◌∙◌}
use Prim.Native.Nat.{ℕ, ◌+◌, ◌^◌, ◌<◌, ◌≤◌}
use native.Mathlib.Nat.{min-le_right}
use native.Mathlib.Omega.{arith}
use borrow.Author.Rules.{rules}
use borrow.Author.Tests.{eq-eqb, ne_eqb, le-leb, lt-leb, lt-ltb}
use lib.ListN.{length, drop, length-take}
use Rattle.answers.specs.Judged.{first}
use Rattle.bigendian.specs.Rows.{field_in}
use Rattle.fips.proofs.Editions.{digest-short}
use Rattle.lists.specs.Calls.{listed}
use Rattle.lists.specs.Code.Place.{Placed}
use Rattle.lists.specs.Layout.{offset_size, whole_field_at, entries_at, entry_head, entry_size}
use Rattle.lists.specs.Layout.{edition_in, count_in, digest_size_in, read_list, accepted}
use Rattle.lists.specs.Lists.{most_entries, name_allowed}
use Rattle.lists.proofs.Allowed.{name-short}
use Rattle.lists.proofs.ByRules.{length-read_pairs}
use Rattle.writer.specs.Writing.{front_list, put_tests}
use Rattle.writer.proofs.Fronts.{CanPut, put-done}
use Rattle.writer.proofs.refusal.Goals as goal
use Rattle.writer.proofs.refusal.Goals.{After-count, After-digest_size-size, After-front-list, Else-digest-size, Else-not-allowed}
use Rattle.writer.proofs.refusal.Goals.{Else-place}

-- ---- which test refuses

module _ (b name digest : List ℕ) where
  abbrev bs : List ℕ
  bs = front_list b

  abbrev Refuses : ℕ → Type 0
  Refuses n = n ≡ first (put_tests b name digest)

  module _ (l : accepted bs ≡ true) where
    forbidden : name_allowed name ≡ false → Refuses 15
    unfolding put_tests first
    forbidden e = rw (l, e)

    module _ (n : name_allowed name ≡ true) where
      other-size : (length digest ≡ digest_size_in bs → ⊥) → Refuses 14
      unfolding put_tests first
      other-size e = rw (l, n, ne_eqb (length digest) (digest_size_in bs) e)

      module _ (s : length digest ≡ digest_size_in bs) where
        name-taken : listed name (read_list bs).pairs ≡ true → Refuses 16
        unfolding put_tests first
        name-taken e = rw (l, n, eq-eqb (length digest) (digest_size_in bs) s, e)

        module _ (w : listed name (read_list bs).pairs ≡ false) where
          full : most_entries ≤ length (read_list bs).pairs → Refuses 17
          unfolding put_tests first
          full e =
              rw (l, n, eq-eqb (length digest) (digest_size_in bs) s, w, le-leb most_entries (length (read_list bs).pairs) e)

          no_room : length (read_list bs).pairs < most_entries → length b < length bs + entry_size (length digest) + length name → Refuses 9
          unfolding put_tests first
          no_room f e =
              rw (
                l,
                n,
                eq-eqb (length digest) (digest_size_in bs) s,
                w,
                lt-leb most_entries (length (read_list bs).pairs) f,
                lt-ltb (length b) (length bs + entry_size (length digest) + length name) e,
              )

  -- one entry and one name are no large number
  entry-fits : length digest ≡ digest_size_in bs → name_allowed name ≡ true → entry_head + length digest + length name < 2 ^ 64
  entry-fits s n = omega (arith, digest-short (edition_in bs), name-short name n)

front-within : (b : List ℕ) → length (front_list b) ≤ length b
front-within b = rw (length-take (field_in b whole_field_at offset_size) b) (min-le_right _ _)

listed-told : (bs name : List ℕ) {is_list has : Bool} {n : ℕ} → Placed bs name is_list n has → accepted bs ≡ true →
    listed name (read_list bs).pairs ≡ has
listed-told bs name p l = sym (p.names ∙ rw l)

count-told : (bs : List ℕ) → length (read_list bs).pairs ≡ count_in bs
unfolding read_list
count-told bs = length-read_pairs (count_in bs) (digest_size_in bs) (drop entries_at bs) bs

-- ---- what each place of the code has found

is-list : (c : After-front-list) → accepted (front_list c.args.buffer.now) ≡ true
is-list c = sym c.requires.judged

named : (c : Else-not-allowed) → name_allowed (c.args.name.now) ≡ true
named c = sym c.allowed.ensures ∙ c.if-not-allowed.false

size-told : (c : After-digest_size-size) → c.digest_size-size.result ≡ digest_size_in (front_list c.args.buffer.now)
size-told c = c.digest_size-size.ensures ∙ ap (λ (l : List ℕ). digest_size_in l) c.front-list.ensures

sized : (c : Else-digest-size) → length c.args.digest.now ≡ digest_size_in (front_list c.args.buffer.now)
sized c =
    let size-told' : c.digest_size-size.result ≡ digest_size_in (front_list c.args.buffer.now) = c.digest_size-size.ensures
    ∙ ap (λ (l : List ℕ). digest_size_in l) c.front-list.ensures in
    c.if-digest-size.false ∙ size-told'

new : (c : Else-place) →
    listed c.args.name.now (read_list (front_list c.args.buffer.now)).pairs ≡ false
new c = listed-told _ _ c.requires (sym c.requires.judged) ∙ c.if-place.false

counted : (c : After-count) →
    length (read_list (front_list c.args.buffer.now)).pairs ≡ c.count.result
counted c =
    count-told (front_list c.args.buffer.now) ∙ sym (c.count.ensures ∙ ap (λ (l : List ℕ). count_in l) c.front-list.ensures)

front_length : (c : After-front-list) → length c.front-list.result.now ≡ length (front_list c.args.buffer.now)
front_length c = ap length c.front-list.ensures

-- ---- the needs

pub returns-then-not-allowed : goal.returns-then-not-allowed
returns-then-not-allowed c = forbidden _ _ _ (is-list (goal.at.returns-then-not-allowed c).After-front-list)
    (sym c.allowed.ensures ∙ c.if-not-allowed.true)

pub returns-then-digest-size : goal.returns-then-digest-size
returns-then-digest-size c = other-size _ _ _ (is-list (goal.at.returns-then-digest-size c).After-front-list)
    (named (goal.at.returns-then-digest-size c).Else-not-allowed)
    (λ q. c.if-digest-size.true (q ∙ sym (size-told (goal.at.returns-then-digest-size c).After-digest_size-size)))

pub returns-then-place : goal.returns-then-place
returns-then-place c = name-taken _ _ _ (is-list (goal.at.returns-then-place c).After-front-list)
    (named (goal.at.returns-then-place c).Else-not-allowed) (sized (goal.at.returns-then-place c).Else-digest-size)
    (listed-told _ _ c.requires (sym c.requires.judged) ∙ c.if-place.true)

pub returns-then-count-ge-MOST_ENTRIES : goal.returns-then-count-ge-MOST_ENTRIES
returns-then-count-ge-MOST_ENTRIES c = full _ _ _ (is-list (goal.at.returns-then-count-ge-MOST_ENTRIES c).After-front-list)
    (named (goal.at.returns-then-count-ge-MOST_ENTRIES c).Else-not-allowed)
    (sized (goal.at.returns-then-count-ge-MOST_ENTRIES c).Else-digest-size) (new (goal.at.returns-then-count-ge-MOST_ENTRIES c).Else-place)
    (omega (arith, counted (goal.at.returns-then-count-ge-MOST_ENTRIES c).After-count, c.if-count-ge-MOST_ENTRIES.true))

pub overflow_sub-buffer : goal.overflow_sub-buffer
overflow_sub-buffer c = search (rules, front_length (goal.at.overflow_sub-buffer c).After-front-list, front-within c.args.buffer.now)

pub overflow_add-digest-2 : goal.overflow_add-digest-2
overflow_add-digest-2 c =
    record {
      fits = entry-fits c.args.buffer.now c.args.name.now c.args.digest.now
          (sized (goal.at.overflow_add-digest-2 c).Else-digest-size) (named (goal.at.overflow_add-digest-2 c).Else-not-allowed);
    }

pub returns-then-buffer-list : goal.returns-then-buffer-list
returns-then-buffer-list c = no_room _ _ _ (is-list (goal.at.returns-then-buffer-list c).After-front-list)
    (named (goal.at.returns-then-buffer-list c).Else-not-allowed) (sized (goal.at.returns-then-buffer-list c).Else-digest-size)
    (new (goal.at.returns-then-buffer-list c).Else-place)
    (omega (arith, counted (goal.at.returns-then-buffer-list c).After-count, c.if-count-ge-MOST_ENTRIES.false))
    (omega (
      arith,
      front_length (goal.at.returns-then-buffer-list c).After-front-list,
      front-within c.args.buffer.now,
      c.if-buffer-list.true,
    ))

pub returns : goal.returns
returns c = let t : CanPut c.args.buffer.now c.args.name.now c.args.digest.now = record {
  is_list = is-list (goal.at.returns c).After-front-list;
  named = named (goal.at.returns c).Else-not-allowed;
  sized = sized (goal.at.returns c).Else-digest-size;
  new = new (goal.at.returns c).Else-place;
  few = omega (arith, counted (goal.at.returns c).After-count, c.if-count-ge-MOST_ENTRIES.false);
  room = omega (arith, front_length (goal.at.returns c).After-front-list, front-within c.args.buffer.now, c.if-buffer-list.false);
}
    in
    sym (put-done _ _ _ t)
