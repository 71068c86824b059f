-- `writer::insert` meets its contract: what it does is what `put-moves` is about. Assumes nothing.
use mathlib.Core.List.{List}
use mathlib.Core.Path.{◌≡◌, refl, ap, ◌∙◌}
use Prim.Native.Nat.{ℕ, ◌+◌, ◌*◌}
use native.Mathlib.Omega.{arith}
use lib.ListN.{length, length-take, length-drop}
use Rattle.lists.specs.Layout.{entries_at, entry_size, edition_in, count_in}
use Rattle.writer.specs.Writing.{front_list}
use Rattle.writer.specs.Code.Moves.{name_spot}
use Rattle.writer.proofs.Fronts.{CanPut, put-passed}
use Rattle.writer.proofs.PutMoves.{Known, known, put-moves}
use Rattle.writer.proofs.insert.Goals as goal
use Rattle.writer.proofs.insert.Goals.{After-count-count, After-name_place-name_at}

-- ---- what is known once the list has been read

taken : (c : After-count-count) → let a = c.args in CanPut a.buffer.now a.name.now a.digest.now
taken c = put-passed _ _ _ c.requires.0

list-is : (c : After-count-count) → c.front-list.result.now ≡ front_list c.args.buffer.now
list-is c = c.front-list.ensures

count-is : (c : After-count-count) → c.count-count.result ≡ count_in (front_list c.args.buffer.now)
count-is c = c.count-count.ensures ∙ ap (λ (l : List ℕ). count_in l) (list-is c)

module _ (c : After-count-count) (name_at : ℕ)
    (e : name_at
    ≡ name_spot c.front-list.result.now
    (entries_at + c.args.ahead * entry_size (length c.args.digest.now))
    (entries_at + c.count-count.result * entry_size (length c.args.digest.now))) where
  known-spot : let a = c.args in
      Known a.buffer.now a.name.now c.count-count.result a.ahead (entry_size (length a.digest.now)) name_at
      (length c.front-list.result.now)
  known-spot =
      let a = c.args in
      let size = entry_size (length a.digest.now) in
      known _ _ _ (taken c) _ c.requires.1 _ _ _ _ (count-is c) refl
      (e ∙ ap (λ (l : List ℕ). name_spot l (entries_at + a.ahead * size) (entries_at + c.count-count.result * size)) (list-is c))
      (ap (λ (l : List ℕ). length l) (list-is c))

abbrev read : After-count-count → Type 0
read c = let a = c.args in
    Known a.buffer.now a.name.now c.count-count.result a.ahead (entry_size (length a.digest.now))
    (name_spot c.front-list.result.now (entries_at + a.ahead * entry_size (length a.digest.now))
    (entries_at + c.count-count.result * entry_size (length a.digest.now)))
    (length c.front-list.result.now)

known_read : (c : After-count-count) → read c
known_read c = known-spot c _ refl

known-named : (c : After-name_place-name_at) →
    let a = c.args in
    Known a.buffer.now a.name.now c.count-count.result a.ahead (entry_size (length a.digest.now))
    c.name_place-name_at.result (length c.front-list.result.now)
known-named c =
    let a = c.args in
    let size = entry_size (length a.digest.now) in
    let front : c.front-list.result.now ≡ front_list a.buffer.now = c.front-list.ensures in
    known _ _ _ (put-passed _ _ _ c.requires.0) _ c.requires.1 _ _ _ _
    (c.count-count.ensures ∙ ap (λ (l : List ℕ). count_in l) front) refl
    (c.name_place-name_at.ensures
    ∙ ap (λ (l : List ℕ). name_spot l (entries_at + a.ahead * size) (entries_at + c.count-count.result * size)) front)
    (ap (λ (l : List ℕ). length l) front)

pub insert_both-requires : goal.insert_both-requires
insert_both-requires c = let k = known-named (goal.at.insert_both-requires c).After-name_place-name_at in
    (omega (arith, k), k.inside, omega (arith, k))

-- ---- what is known at each later place

pub raise-requires : goal.raise-requires
raise-requires c = let k = known-named (goal.at.raise-requires c).After-name_place-name_at in
    (k.large, simp (length-take, length-drop) (omega (arith, k)), omega (arith, k))

pub raise-requires-2 : goal.raise-requires-2
raise-requires-2 c = let k = known-named (goal.at.raise-requires-2 c).After-name_place-name_at in
    (k.large, simp (length-take, length-drop) (omega (arith, k)), omega (arith, k))

pub returns : goal.returns
returns c = let a = c.args in
    put-moves _ _ _ (taken (goal.at.returns c).After-count-count) _ c.requires.1 _ _ _ _ (count-is (goal.at.returns c).After-count-count)
    refl
    (c.name_place-name_at.ensures
    ∙ ap
    (λ (l : List ℕ).
    name_spot l (entries_at + a.ahead * entry_size (length a.digest.now))
    (entries_at + c.count-count.result * entry_size (length a.digest.now)))
    (list-is (goal.at.returns c).After-count-count))
    (ap (λ (l : List ℕ). length l) (list-is (goal.at.returns c).After-count-count))
    (λ i. (c.shared_slice_known-2-1.given i).fits)
    _ _ _ _ _ _ c.insert_both.ensures c.raise.ensures refl c.raise-2.ensures refl
    _ (c.edition-edition.ensures ∙ ap (λ (l : List ℕ). edition_in l) (list-is (goal.at.returns c).After-count-count)) c.put_header.ensures

pub overflow_add-size : goal.overflow_add-size
overflow_add-size c = omega (arith, known_read c)

pub overflow_mul-entry_at : goal.overflow_mul-entry_at
overflow_mul-entry_at c = omega (arith, known_read c)

pub overflow_add-entry_at : goal.overflow_add-entry_at
overflow_add-entry_at c = omega (arith, known_read c)

pub overflow_mul-names_at : goal.overflow_mul-names_at
overflow_mul-names_at c = omega (arith, known_read c)

pub overflow_add-names_at : goal.overflow_add-names_at
overflow_add-names_at c = omega (arith, known_read c)

pub overflow_add-more : goal.overflow_add-more
overflow_add-more c = omega (arith, known-named c)

pub overflow_add-entry_at-2 : goal.overflow_add-entry_at-2
overflow_add-entry_at-2 c = omega (arith, known-named (goal.at.overflow_add-entry_at-2 c).After-name_place-name_at)

pub overflow_add-names_at-2 : goal.overflow_add-names_at-2
overflow_add-names_at-2 c = omega (arith, known-named (goal.at.overflow_add-names_at-2 c).After-name_place-name_at)

pub slice_bounds-raise-count : goal.slice_bounds-raise-count
slice_bounds-raise-count c = omega (arith, known-named (goal.at.slice_bounds-raise-count c).After-name_place-name_at)

pub slice_bounds-raise-start : goal.slice_bounds-raise-start
slice_bounds-raise-start c = omega (arith, known-named (goal.at.slice_bounds-raise-start c).After-name_place-name_at)

pub slice_bounds-raise-end : goal.slice_bounds-raise-end
slice_bounds-raise-end c = omega (arith, known-named (goal.at.slice_bounds-raise-end c).After-name_place-name_at)

pub overflow_sub-count : goal.overflow_sub-count
overflow_sub-count c = omega (arith, known-named (goal.at.overflow_sub-count c).After-name_place-name_at)

pub slice_bounds-raise-count-2 : goal.slice_bounds-raise-count-2
slice_bounds-raise-count-2 c = omega (arith, known-named (goal.at.slice_bounds-raise-count-2 c).After-name_place-name_at)

pub slice_bounds-raise-start-2 : goal.slice_bounds-raise-start-2
slice_bounds-raise-start-2 c = omega (arith, known-named (goal.at.slice_bounds-raise-start-2 c).After-name_place-name_at)

pub slice_bounds-raise-end-2 : goal.slice_bounds-raise-end-2
slice_bounds-raise-end-2 c = omega (arith, known-named (goal.at.slice_bounds-raise-end-2 c).After-name_place-name_at)

pub overflow_add-count : goal.overflow_add-count
overflow_add-count c = omega (arith, known-named (goal.at.overflow_add-count c).After-name_place-name_at)

pub overflow_add-names_at-3 : goal.overflow_add-names_at-3
overflow_add-names_at-3 c = omega (arith, known-named (goal.at.overflow_add-names_at-3 c).After-name_place-name_at)

pub overflow_add-whole : goal.overflow_add-whole
overflow_add-whole c = omega (arith, known-named (goal.at.overflow_add-whole c).After-name_place-name_at)

pub put_header-requires : goal.put_header-requires
put_header-requires c = omega (arith, known-named (goal.at.put_header-requires c).After-name_place-name_at)
