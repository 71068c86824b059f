-- The moves of `put` on a list that is cut where a pair belongs, `inserted-at`, into runs of bytes, `cut-bytes`. Where the new name belongs
-- in it: `spot-there`. Entry and name put in, offsets raised and the header written anew: `moves-insert`, and over the numbers that the
-- code has `code-inserts`.
use mathlib.Core.Bool.{Bool, true, false, cond}
use mathlib.Core.List.{List, [], ◌∷◌, ◌++◌, append_assoc}
use mathlib.Core.Path.{◌≡◌, refl, sym, ap, ◌∙◌}
use Prim.Native.Nat.{ℕ, suc, ◌+◌, ◌-◌, ◌*◌, ◌^◌, ◌<◌, ◌≤◌}
use native.Mathlib.Nat.{suc-mul, zero-mul, add-mul, one-mul}
use native.Mathlib.Omega.{arith}
use borrow.Author.Tests.{eq-eqb, ne_eqb}
use lib.Dec.{eqb}
use lib.ListN.{length, take, drop, length-append}
use lib.Seq.{take_at, drop_at, drop-append-add}
use Rattle.bigendian.specs.Rows.{row_bytes}
use Rattle.bigendian.proofs.RowLaws.{length-row}
use Rattle.fips.specs.Editions.{digest_bytes}
use Rattle.fips.proofs.Editions.{digest-short}
use Rattle.slices.specs.Parts.{part, put_part}
use Rattle.slices.specs.Tests.{every}
use Rattle.slices.proofs.Tests.{cond_both}
use Rattle.lists.specs.Code.Place.{earlier}
use Rattle.lists.specs.Layout.{offset_size, entries_at, entry_size, list_row, entry_row, entry_bytes, entry_run, name_run}
use Rattle.lists.specs.Layout.{names_of, whole_length, list_bytes, longest_list, name_offset}
use Rattle.lists.specs.Lists.{Pair, DigestList, longest_name, pair_allowed}
use Rattle.lists.specs.Order.{before}
use Rattle.lists.proofs.Written.{allowed-pair, entry-offset, length-entry_run, ValidList, whole-short, list_length}
use Rattle.writer.specs.Writing.{inserted}
use Rattle.writer.specs.Code.Moves.{raised, with_both, name_spot}
use Rattle.writer.proofs.MoveLaws.{put-over, part-there, entry_run-append, name_run-append, raise-run}

-- ---- where the pair belongs

pub inserted-at : (p : Pair) (ps : List Pair) →
    inserted p ps ≡ take (earlier p.name ps) ps ++ (p ∷ drop (earlier p.name ps) ps)
unfolding inserted earlier
inserted-at p [] = refl
inserted-at p (q ∷ qs) = go (before q.name p.name) (inserted-at p qs)
  where
    go : (b : Bool) → inserted p qs ≡ take (earlier p.name qs) qs ++ (p ∷ drop (earlier p.name qs) qs) →
        let k = cond b (suc (earlier p.name qs)) 0 in
        cond b (q ∷ inserted p qs) (p ∷ (q ∷ qs)) ≡ take k (q ∷ qs) ++ (p ∷ drop k (q ∷ qs))
    go true e = ap (λ (l : List Pair). q ∷ l) e
    go false e = refl

-- ---- entry and name put in between runs of bytes

-- x up to the new entry, y from there to the new name, z from there to the end of the list, and the rest
both-between : (x y z r entry name : List ℕ) (a b w : ℕ) → length x ≡ a → a + length y ≡ b → b + length z ≡ w →
    with_both a entry b name w (x ++ (y ++ (z ++ r))) ≡ x ++ (entry ++ (y ++ (name ++ (z ++ drop (length entry + length name) r))))
unfolding with_both
both-between x y z r entry name a b w lx ly lz =
    let xs = x ++ (y ++ (z ++ r)) in
    let long : length (x ++ y) ≡ b = simp length-append (omega arith) in
    let second : xs ≡ (x ++ y) ++ (z ++ r) = simp append_assoc in
    let third : xs ≡ ((x ++ y) ++ z) ++ r = simp append_assoc in
    let whole : length ((x ++ y) ++ z) + (length entry + length name) ≡ w + length entry + length name =
    simp length-append (omega arith) in
    rw (
      take_at x (y ++ (z ++ r)) a lx,
      part-there x y (z ++ r) xs a (b - a) refl lx (omega arith),
      part-there (x ++ y) z r xs b (w - b) second long (omega arith),
    )
    (ap (λ (l : List ℕ). x ++ (entry ++ (y ++ (name ++ (z ++ l)))))
    (ap (λ (n : ℕ). drop n xs) (sym whole)
    ∙ ap (drop (length ((x ++ y) ++ z) + (length entry + length name))) third
    ∙ drop-append-add ((x ++ y) ++ z) r (length entry + length name)))

every-both : {A : Type 0} (f : A → Bool) (xs ys : List A) → every f (xs ++ ys) ≡ true → (every f xs ≡ true) × (every f ys ≡ true)
unfolding every
every-both f [] ys e = (refl, e)
every-both f (x ∷ xs) ys e =
    let t = cond_both (f x) (every f (xs ++ ys)) e in
    let r = every-both f xs ys t.1 in
    (rw t.0 r.0, r.1)

no_names : (ps : List Pair) → ps ≡ [] → length (name_run ps) ≡ 0
unfolding name_run
no_names ps e = rw e

-- ---- a list cut in two, and a pair to be put between

module _ (e : ℕ) (xs ys : List Pair) (v : ValidList (record { edition = e; pairs = xs ++ ys })) where
  abbrev l : DigestList
  l = record { edition = e; pairs = xs ++ ys }

  abbrev d : ℕ
  d = digest_bytes e

  abbrev s : ℕ
  s = entry_size d

  -- where the entries of ys begin, and their names
  abbrev entries_behind : ℕ
  entries_behind = entries_at + length xs * s

  abbrev names_behind : ℕ
  names_behind = names_of l + length (name_run xs)

  abbrev head_row : List ℕ
  head_row = row_bytes (list_row e (length l.pairs) (names_of l) (whole_length l))

  allowed-front : every (pair_allowed d) xs ≡ true
  allowed-front = (every-both (pair_allowed d) xs ys v.allowed).0

  allowed-back : every (pair_allowed d) ys ≡ true
  allowed-back = (every-both (pair_allowed d) xs ys v.allowed).1

  front_long : length (entry_run (names_of l) xs) ≡ length xs * s
  front_long = length-entry_run d (names_of l) xs allowed-front

  back_long : length (entry_run names_behind ys) ≡ length ys * s
  back_long = length-entry_run d names_behind ys allowed-back

  entries-all : length (xs ++ ys) * s ≡ length xs * s + length ys * s
  entries-all = ap (λ (n : ℕ). n * s) (length-append xs ys) ∙ add-mul (length xs) (length ys) s

  pub names-all : length (name_run (xs ++ ys)) ≡ length (name_run xs) + length (name_run ys)
  names-all = ap (λ (r : List ℕ). length r) (name_run-append xs ys) ∙ length-append (name_run xs) (name_run ys)

  pub cut-bytes : list_bytes l
      ≡ head_row ++ (entry_run (names_of l) xs ++ (entry_run names_behind ys ++ (name_run xs ++ name_run ys)))
  unfolding list_bytes
  cut-bytes = rw (entry_run-append (names_of l) xs ys, name_run-append xs ys) (simp append_assoc)

  head-long : length head_row ≡ entries_at
  head-long = length-row (list_row e (length l.pairs) (names_of l) (whole_length l))

  -- the header and the entries of xs
  before-long : length (head_row ++ entry_run (names_of l) xs) ≡ entries_behind
  before-long = length-append head_row (entry_run (names_of l) xs) ∙ omega (arith, head-long, front_long)

  short : whole_length l < 256 ^ offset_size
  unfolding longest_list
  short = omega (arith, whole-short l v)

  spot-field : (q : Pair) (qs : List Pair) → ys ≡ q ∷ qs → name_offset (drop entries_behind (list_bytes l)) ≡ names_behind
  unfolding entry_run every
  spot-field q qs p =
      let rest = name_run xs ++ name_run ys in
      let here : drop entries_behind (list_bytes l) ≡ entry_bytes names_behind q ++ (entry_run (names_behind + length q.name) qs ++ rest) =
      ap (drop entries_behind)
      (cut-bytes ∙ sym (append_assoc head_row (entry_run (names_of l) xs) (entry_run names_behind ys ++ rest)))
      ∙ drop_at (head_row ++ entry_run (names_of l) xs) (entry_run names_behind ys ++ rest) entries_behind before-long
      ∙ ap (λ (zs : List Pair). entry_run names_behind zs ++ rest) p
      ∙ append_assoc (entry_bytes names_behind q) (entry_run (names_behind + length q.name) qs) rest
      in
      let first : pair_allowed d q ≡ true =
      (cond_both (pair_allowed d q) (every (pair_allowed d) qs) (rw p at allowed-back)).0 in
      ap (λ (bs : List ℕ). name_offset bs) here
      ∙ entry-offset d names_behind q (entry_run (names_behind + length q.name) qs ++ rest) (allowed-pair d q first)
      (omega (arith, short, names-all))

  -- the name of the pair that the new one comes before; behind the last name where there is none
  pub spot-there : name_spot (list_bytes l) entries_behind (names_of l) ≡ names_behind
  unfolding name_spot
  spot-there = go ys refl
    where
      go : (zs : List Pair) → ys ≡ zs →
          cond (eqb entries_behind (names_of l)) (length (list_bytes l)) (name_offset (drop entries_behind (list_bytes l))) ≡ names_behind
      go [] p =
          let none : length ys * s ≡ 0 = rw p (zero-mul s) in
          let quiet : length (name_run ys) ≡ 0 = no_names ys p in
          rw (eq-eqb entries_behind (names_of l) (omega (arith, entries-all)))
          (list_length l v ∙ omega (arith, names-all))
      go (q ∷ qs) p =
          let some : length ys * s ≡ length qs * s + s = rw p (suc-mul (length qs) s) in
          rw (ne_eqb entries_behind (names_of l) (λ x. omega (arith, entries-all)), spot-field q qs p)

  -- ---- the pair put between, and what the moves leave

  module _ (p : Pair) (sized : length p.digest ≡ d) (short-name : length p.name ≤ longest_name) (r : List ℕ) where
    abbrev with : DigestList
    with = record { edition = e; pairs = xs ++ (p ∷ ys) }

    abbrev more : ℕ
    more = s + length p.name

    abbrev entry : List ℕ
    entry = entry_bytes (names_behind + s) p

    pub entry-long : length entry ≡ s
    unfolding entry_bytes
    entry-long =
        length-append (row_bytes (entry_row (names_behind + s) (length p.name))) p.digest
        ∙ omega (arith, length-row (entry_row (names_behind + s) (length p.name)), sized)

    -- the entries and the names as they are to be
    entries_with : entry_run (names_of l + s) (xs ++ (p ∷ ys))
        ≡ entry_run (names_of l + s) xs ++ (entry ++ entry_run (names_behind + more) ys)
    unfolding entry_run
    entries_with =
        let here : names_of l + s + length (name_run xs) ≡ names_behind + s = omega arith in
        let further : names_of l + s + length (name_run xs) + length p.name ≡ names_behind + more = omega arith in
        entry_run-append (names_of l + s) xs (p ∷ ys)
        ∙ (λ i. entry_run (names_of l + s) xs ++ (entry_bytes (here i) p ++ entry_run (further i) ys))

    names-with : name_run (xs ++ (p ∷ ys)) ≡ name_run xs ++ (p.name ++ name_run ys)
    unfolding name_run
    names-with = name_run-append xs (p ∷ ys)

    count-with : length (xs ++ (p ∷ ys)) ≡ length (xs ++ ys) + 1
    count-with = simp length-append (omega arith)

    names-at-with : names_of with ≡ names_of l + s
    names-at-with = rw count-with (omega (arith, add-mul (length (xs ++ ys)) 1 s, one-mul s))

    whole_with : whole_length with ≡ whole_length l + more
    whole_with =
        omega (
          arith,
          names-at-with,
          names-all,
          ap (λ (bs : List ℕ). length bs) names-with
              ∙ length-append (name_run xs) (p.name ++ name_run ys)
              ∙ ap (λ (n : ℕ). length (name_run xs) + n) (length-append p.name (name_run ys)),
        )

    abbrev head_with : List ℕ
    head_with = row_bytes (list_row e (length l.pairs + 1) (names_of l + s) (whole_length l + more))

    bytes-with : list_bytes with
        ≡ head_with
        ++ ((entry_run (names_of l + s) xs ++ (entry ++ entry_run (names_behind + more) ys)) ++ (name_run xs ++ (p.name ++ name_run ys)))
    unfolding list_bytes
    bytes-with = rw (whole_with, names-at-with, count-with, entries_with, names-with)

    abbrev rest : List ℕ
    rest = drop (length entry + length p.name) r

    abbrev tail : List ℕ
    tail = name_run xs ++ (p.name ++ (name_run ys ++ rest))

    abbrev front_entries : List ℕ
    front_entries = entry_run (names_of l) xs

    abbrev back_entries : List ℕ
    back_entries = entry_run names_behind ys

    small : names_behind + length (name_run ys) + more < 256 ^ offset_size
    unfolding longest_list
    small = omega (arith, whole-short l v, names-all, digest-short e)

    -- entry and name put in
    inserted-both : with_both entries_behind entry names_behind p.name (whole_length l) (list_bytes l ++ r)
        ≡ (head_row ++ front_entries) ++ (entry ++ (back_entries ++ tail))
    inserted-both =
        let parts : list_bytes l ++ r ≡ (head_row ++ front_entries) ++ ((back_entries ++ name_run xs) ++ (name_run ys ++ r)) =
        rw cut-bytes (simp append_assoc) in
        let middle : entries_behind + length (back_entries ++ name_run xs) ≡ names_behind =
        omega (arith, length-append back_entries (name_run xs), back_long, entries-all) in
        ap (with_both entries_behind entry names_behind p.name (whole_length l)) parts
        ∙ both-between (head_row ++ front_entries) (back_entries ++ name_run xs) (name_run ys) r entry p.name
        entries_behind names_behind (whole_length l) before-long middle (omega (arith, names-all))
        ∙ ap (λ (bs : List ℕ). (head_row ++ front_entries) ++ (entry ++ bs))
        (append_assoc back_entries (name_run xs) (p.name ++ (name_run ys ++ rest)))

    module _ (b1 b2 b3 new1 new2 : List ℕ) (n1 k1 k2 : ℕ)
        (is1 : b1 ≡ with_both entries_behind entry names_behind p.name (whole_length l) (list_bytes l ++ r))
        (e1 : n1 ≡ length ys) (l1 : k1 ≡ length ys * s) (l2 : k2 ≡ length xs * s)
        (raised1 : new1 ≡ raised n1 s more (part b1 (entries_behind + s) k1)) (is2 : b2 ≡ put_part (entries_behind + s) k1 new1 b1)
        (raised2 : new2 ≡ raised (length xs) s s (part b2 entries_at k2)) (is3 : b3 ≡ put_part entries_at k2 new2 b2) where
      after_both : b1 ≡ ((head_row ++ front_entries) ++ entry) ++ (back_entries ++ tail)
      after_both = is1 ∙ inserted-both ∙ sym (append_assoc (head_row ++ front_entries) entry (back_entries ++ tail))

      before_back : length ((head_row ++ front_entries) ++ entry) ≡ entries_behind + s
      before_back = length-append (head_row ++ front_entries) entry ∙ omega (arith, before-long, entry-long)

      back-raised : new1 ≡ entry_run (names_behind + more) ys
      back-raised =
          raised1
          ∙ ap (raised n1 s more)
          (part-there ((head_row ++ front_entries) ++ entry) back_entries tail b1 (entries_behind + s) k1 after_both before_back
          (back_long ∙ sym l1))
          ∙ ap (λ (n : ℕ). raised n s more back_entries) e1
          ∙ raise-run d names_behind more ys allowed-back small

      after-back : b2 ≡ head_row ++ (front_entries ++ (entry ++ (new1 ++ tail)))
      after-back =
          is2
          ∙ put-over ((head_row ++ front_entries) ++ entry) back_entries tail b1 new1 (entries_behind + s) k1 after_both before_back
          (back_long ∙ sym l1)
          ∙ append_assoc (head_row ++ front_entries) entry (new1 ++ tail)
          ∙ append_assoc head_row front_entries (entry ++ (new1 ++ tail))

      front-raised : new2 ≡ entry_run (names_of l + s) xs
      front-raised =
          raised2
          ∙ ap (raised (length xs) s s)
          (part-there head_row front_entries (entry ++ (new1 ++ tail)) b2 entries_at k2 after-back head-long (front_long ∙ sym l2))
          ∙ raise-run d (names_of l) s xs allowed-front (omega (arith, small))

      after_front : b3 ≡ head_row ++ (new2 ++ (entry ++ (new1 ++ tail)))
      after_front =
          is3
          ∙ put-over head_row front_entries (entry ++ (new1 ++ tail)) b2 new2 entries_at k2 after-back head-long (front_long ∙ sym l2)

      pub moves-insert : head_with ++ drop entries_at b3 ≡ list_bytes with ++ rest
      moves-insert =
          ap (λ (bs : List ℕ). head_with ++ bs)
          (ap (drop entries_at) after_front ∙ drop_at head_row (new2 ++ (entry ++ (new1 ++ tail))) entries_at head-long)
          ∙ (λ i. head_with ++ (front-raised i ++ (entry ++ (back-raised i ++ tail))))
          ∙ sym (rw bytes-with (simp append_assoc))

    -- the same over the numbers that the code has
    module _ (n k size name_at w : ℕ) (en : n ≡ length (xs ++ ys)) (ek : k ≡ length xs) (es : size ≡ s) (ea : name_at ≡ names_behind)
        (ew : w ≡ whole_length l) (b1 b2 b3 b4 new1 new2 : List ℕ)
        (is1 : b1
        ≡ with_both (entries_at + k * size) (row_bytes (entry_row (name_at + size) (length p.name)) ++ p.digest) name_at p.name w
        (list_bytes l ++ r))
        (raised1 : new1
        ≡ raised (n - k) size (size + length p.name)
        (part b1 (entries_at + k * size + size) (entries_at + n * size + size - (entries_at + k * size + size))))
        (is2 : b2
        ≡ put_part (entries_at + k * size + size) (entries_at + n * size + size - (entries_at + k * size + size)) new1 b1)
        (raised2 : new2 ≡ raised k size size (part b2 entries_at (entries_at + k * size - entries_at)))
        (is3 : b3 ≡ put_part entries_at (entries_at + k * size - entries_at) new2 b2)
        (is4 : b4 ≡ row_bytes (list_row e (n + 1) (entries_at + n * size + size) (w + (size + length p.name))) ++ drop entries_at b3) where
      pub code-inserts : b4 ≡ list_bytes with ++ rest
      unfolding entry_bytes
      code-inserts =
          rw (en, es, ew) at is4
          ∙ moves-insert b1 b2 b3 new1 new2 (length (xs ++ ys) - length xs)
          (entries_at + length (xs ++ ys) * s + s - (entries_at + length xs * s + s)) (entries_at + length xs * s - entries_at)
          (rw (ek, es, ea, ew) at is1)
          (omega (arith, length-append xs ys)) (omega (arith, entries-all)) (omega arith)
          (rw (en, ek, es) at raised1) (rw (en, ek, es) at is2) (rw (ek, es) at raised2) (rw (ek, es) at is3)
