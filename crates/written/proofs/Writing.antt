-- What puts make of a list. After any puts in turn a list holds exactly the pairs that were taken, beside those that it had before:
-- `puts-written`, on a list just started `started-pairs`, and on any other `kept-pairs`.
-- Written in any order, a list comes out the same, `reordered-list`: the pairs of a list put one by one into a buffer that has room for it
-- are all taken, and at its front are then the bytes of that list.
use mathlib.Core.Bool.{Bool, true, false, cond}
use mathlib.Core.List.{List, [], ◌∷◌, ◌++◌, append-nil}
use mathlib.Core.Path.{◌≡◌, refl, sym, ap, subst, ◌∙◌}
use Prim.Native.Nat.{ℕ, zero, suc, ◌+◌, ◌*◌, ◌≤◌}
use native.Mathlib.Nat.{suc-mul, mul-le-mul_right}
use native.Mathlib.Omega.{arith}
use lib.Dec.{eqb, eqb-suc-zero}
use lib.ListN.{length, take, drop, length-append}
use lib.Seq.{append_snoc, take_at}
use Rattle.answers.proofs.Refusals.{refused-leaves}
use Rattle.fips.specs.Editions.{digest_bytes}
use Rattle.slices.specs.Below.{Bytes}
use Rattle.lists.specs.Layout.{entries_at, entry_size, names_at, name_run, list_bytes, edition_in, digest_size_in, read_list, accepted}
use Rattle.lists.specs.Lists.{Pair, pair_allowed}
use Rattle.lists.proofs.ByRules.{accepted-header}
use Rattle.lists.proofs.Lists.{list_bytes-accepted, accepted-valid, accepted-bytes, read-list}
use Rattle.lists.proofs.Written.{AllowedPair, allowed-pair, ValidList, valid-list, list-edition}
use Rattle.writer.specs.Writing.{pair, empty_list, started, Starts, front_list, put_in, Puts, Lends}
use Rattle.written.specs.Written.{Reordered, Written, Put, pair_of, InTurn, taken, offered, Rewritten}
use Rattle.writer.proofs.Inserted.{among-length, among-names, cut-among}
use Rattle.writer.proofs.Fronts.{front_rest, judged-new, read-edition, accepted-whole}
use Rattle.writer.proofs.Fronts.{CanStart, start-passed, start-done, start-front, start-length, start-behind, empty-valid}
use Rattle.writer.proofs.Fronts.{CanPut, put-passed, put-done, left-accepted, put-read, put-edition, put-length, put-behind}
use Rattle.written.proofs.Orders.{inserted-last, reordered-refl, reordered-sym, reordered-trans, reordered-among, reordered-length}
use Rattle.written.proofs.Orders.{reordered-names, every-among, not_listed, ascending-unique}

-- ---- what was written

pub started-written : (e : ℕ) (b : List ℕ) → CanStart e b → Written e [] (started e b)
started-written e b c =
    let v = empty-valid e c.edition-known in
    let front = start-front e b c in
    record {
      is_list = rw front (list_bytes-accepted (empty_list e) v);
      edition = rw front (list-edition (empty_list e) (valid-list (empty_list e) v));
      pairs = rw (front, read-list (empty_list e) v);
    }

pub starts-written : (e : ℕ) (b left : List ℕ) → Starts e b 0 left → Written e [] left
starts-written e b left j =
    let passes = sym j.answer in
    subst (λ (l : List ℕ). Written e [] l) (sym (judged-new j passes)) (started-written e b (start-passed e b passes))

-- any list that is there
pub list_written : (b : List ℕ) → accepted (front_list b) ≡ true → Written (edition_in (front_list b)) (read_list (front_list b)).pairs b
list_written b e = record { is_list = e; edition = refl; pairs = reordered-refl (read_list (front_list b)).pairs }

pub put_written : (e : ℕ) (ps : List Pair) (b name digest : List ℕ) → Written e ps b → CanPut b name digest → Bytes digest →
    Written e (ps ++ (pair name digest ∷ [])) (put_in b name digest)
put_written e ps b name digest w t bytes = record {
  is_list = left-accepted b name digest t bytes;
  edition = put-edition b name digest t bytes ∙ w.edition;
  pairs = rw (put-read b name digest t bytes) (inserted-last (pair name digest) ps (read_list (front_list b)).pairs w.pairs);
}

-- one put, done or refused
pub written_step : (e : ℕ) (ps : List Pair) (b name digest : List ℕ) (n : ℕ) (left : List ℕ) → Written e ps b →
    Puts b name digest n left → Lends b name digest → Written e (cond (eqb n 0) (ps ++ (pair name digest ∷ [])) ps) left
written_step e ps b name digest zero left w j l =
    let passes = sym j.answer in
    subst (λ (x : List ℕ). Written e (ps ++ (pair name digest ∷ [])) x) (sym (judged-new j passes))
    (put_written e ps b name digest w (put-passed b name digest passes) l.1.1)
written_step e ps b name digest (suc n) left w j l =
    rw (eqb-suc-zero n) (subst (λ (x : List ℕ). Written e ps x) (sym (refused-leaves j (omega arith))) w)

-- ---- any puts in turn

-- each of them was made
abbrev pub AllPuts : List Put → Type 0
AllPuts [] = Unit {0}
AllPuts (m ∷ ms) =
    (Puts m.buffer m.name m.digest m.answer m.left × Lends m.buffer m.name m.digest) × AllPuts ms

one_more : (t : Bool) (p : Pair) (ps qs : List Pair) → cond t (ps ++ (p ∷ [])) ps ++ qs ≡ ps ++ cond t (p ∷ qs) qs
one_more true p ps qs = append_snoc ps p qs
one_more false p ps qs = refl

pub puts-written : (e : ℕ) (ps : List Pair) (b : List ℕ) (ms : List Put) (last : List ℕ) → Written e ps b → AllPuts ms →
    InTurn b ms last → Written e (ps ++ taken ms) last
unfolding taken
puts-written e ps b [] last w a r = subst (λ (x : List ℕ). Written e (ps ++ []) x) (sym r) (rw (append-nil ps) w)
puts-written e ps b (m ∷ ms) last w a r =
    let t = eqb m.answer 0 in
    let here = subst (λ (x : List ℕ). Written e ps x) (sym r.0) w in
    let next = written_step e ps m.buffer m.name m.digest m.answer m.left here a.0.0 a.0.1 in
    subst (λ (l : List Pair). Written e l last) (one_more t (pair_of m) ps (taken ms))
    (puts-written e (cond t (ps ++ (pair_of m ∷ [])) ps) m.left ms last next a.1 r.1)

-- on a list just started: the pairs that were taken, and no other
pub started-pairs : (e : ℕ) (b b0 : List ℕ) (ms : List Put) (last : List ℕ) → Starts e b 0 b0 → AllPuts ms → InTurn b0 ms last →
    Written e (taken ms) last
started-pairs e b b0 ms last s a r = puts-written e [] b0 ms last (starts-written e b b0 s) a r

-- on any other: its pairs and those that were taken
pub kept-pairs : (b : List ℕ) (ms : List Put) (last : List ℕ) → accepted (front_list b) ≡ true → AllPuts ms → InTurn b ms last →
    Written (edition_in (front_list b)) ((read_list (front_list b)).pairs ++ taken ms) last
kept-pairs b ms last e a r =
    puts-written (edition_in (front_list b)) (read_list (front_list b)).pairs b ms last (list_written b e) a r

-- ---- in any order

-- the pairs of the list bs are being put into the buffer b, which is c by now: some were put, the others are to come
record Going (bs b : List ℕ) (put rest : List Pair) (c : List ℕ) : Type 0 where
  written : Written (edition_in bs) put c
  order : Reordered (put ++ rest) (read_list bs).pairs
  long : length bs ≤ length c
  behind : drop (length bs) c ≡ drop (length bs) b

-- how long a list is, by its pairs
accepted-length : (bs : List ℕ) → accepted bs ≡ true →
    length bs ≡ names_at (length (read_list bs).pairs) (digest_size_in bs) + length (name_run (read_list bs).pairs)
accepted-length bs e =
    sym (accepted-whole bs e)
    ∙ ap (λ (n : ℕ). names_at (length (read_list bs).pairs) (digest_bytes n) + length (name_run (read_list bs).pairs)) (read-edition bs)

names-append : (ps qs : List Pair) → length (name_run (ps ++ qs)) ≡ length (name_run ps) + length (name_run qs)
unfolding name_run
names-append [] qs = omega arith
names-append (p ∷ ps) qs = simp length-append (omega (arith, names-append ps qs))

module _ (bs b : List ℕ) (is_list : accepted bs ≡ true) where
  all_valid : ValidList (read_list bs)
  all_valid = valid-list (read_list bs) (accepted-valid bs is_list)

  going_start : (qs : List Pair) (n : ℕ) (left : List ℕ) → length bs ≤ length b → Reordered qs (read_list bs).pairs →
      Starts (edition_in bs) b n left → (n ≡ 0) × Going bs b [] qs left
  going_start qs n left long order j =
      let h = accepted-header bs is_list in
      let c : CanStart (edition_in bs) b = record { edition-known = h.edition-known; room = omega (arith, h.long) } in
      let e = edition_in bs in
      let passes = start-done e b c in
      let going : Going bs b [] qs (started e b) = record {
        written = started-written e b c;
        order = order;
        long = rw (start-length e b c) long;
        behind = start-behind e b c (length bs) h.long;
      }
      in
      (j.answer ∙ passes, subst (λ (l : List ℕ). Going bs b [] qs l) (sym (judged-new j passes)) going)

  module _ (put rest : List Pair) (c name digest : List ℕ) (g : Going bs b put (pair name digest ∷ rest) c) where
    abbrev all : List Pair
    all = (read_list bs).pairs

    abbrev now : List Pair
    now = (read_list (front_list c)).pairs

    -- the pair is one of the list's
    next-allowed : AllowedPair (digest_size_in bs) (pair name digest)
    next-allowed =
        let d = digest_bytes (read_list bs).edition in
        let found = reordered-among all (cut-among put rest) g.order in
        subst (λ (n : ℕ). AllowedPair (digest_bytes n) (pair name digest)) (read-edition bs)
        (allowed-pair d (pair name digest) (every-among (pair_allowed d) found.1 all_valid.allowed))

    next-size : length digest ≡ digest_size_in (front_list c)
    next-size = next-allowed.sized ∙ ap digest_bytes (sym g.written.edition)

    -- how many pairs there are, and how long their names are, with those to come
    counts : length all ≡ suc (length now + length rest)
    counts =
        reordered-length (put ++ (pair name digest ∷ rest)) all g.order
        ∙ among-length (cut-among put rest)
        ∙ omega (arith, length-append put rest, reordered-length put now g.written.pairs)

    names : length (name_run all) ≡ length (name_run now) + (length name + length (name_run rest))
    names =
        reordered-names (put ++ (pair name digest ∷ rest)) all g.order
        ∙ among-names (cut-among put rest)
        ∙ omega (arith, names-append put rest, reordered-names put now g.written.pairs)

    next-within : length (front_list c) + (entry_size (length digest) + length name) ≤ length bs
    next-within =
        let s = entry_size (length digest) in
        let n = length now in
        let old : length (front_list c) ≡ entries_at + n * s + length (name_run now) =
        accepted-length (front_list c) g.written.is_list ∙ rw (← next-size)
        in
        let whole : length bs ≡ entries_at + length all * s + length (name_run all) =
        accepted-length bs is_list ∙ rw (← next-allowed.sized)
        in
        let more : suc n * s ≤ length all * s = mul-le-mul_right s (omega (arith, counts)) in
        omega (arith, suc-mul n s, names)

    going-taken : CanPut c name digest
    going-taken = record {
      is_list = g.written.is_list;
      named = next-allowed.named;
      sized = next-size;
      new = not_listed [] all put now rest (pair name digest) all_valid.ascends g.order g.written.pairs;
      few = omega (arith, counts, all_valid.few);
      room = omega (arith, next-within, g.long);
    }

    going_next : Bytes digest → Going bs b (put ++ (pair name digest ∷ [])) rest (put_in c name digest)
    going_next bytes = record {
      written = put_written (edition_in bs) put c name digest g.written going-taken bytes;
      order = rw (append_snoc put (pair name digest) rest) g.order;
      long = rw (put-length c name digest) g.long;
      behind = put-behind c name digest going-taken bytes (length bs) next-within ∙ g.behind;
    }

  -- all were put
  going_end : (put : List Pair) (c : List ℕ) → Going bs b put [] c → front_list c ≡ bs
  going_end put c g =
      let w = g.written in
      let now = read_list (front_list c) in
      let v = valid-list now (accepted-valid (front_list c) w.is_list) in
      let order = subst (λ (l : List Pair). Reordered l (read_list bs).pairs) (append-nil put) g.order in
      let pairs : now.pairs ≡ (read_list bs).pairs =
      ascending-unique [] now.pairs (read_list bs).pairs v.ascends all_valid.ascends
      (reordered-trans now.pairs put (read_list bs).pairs (reordered-sym put now.pairs w.pairs) order)
      in
      let edition : now.edition ≡ (read_list bs).edition = read-edition (front_list c) ∙ w.edition ∙ sym (read-edition bs) in
      let same : now ≡ read_list bs = λ i. record { edition = edition i; pairs = pairs i } in
      sym (accepted-bytes (front_list c) w.is_list) ∙ ap list_bytes same ∙ accepted-bytes bs is_list

going_on : (bs b : List ℕ) (put : List Pair) (c : List ℕ) (ms : List Put) (last : List ℕ) → accepted bs ≡ true →
    Going bs b put (offered ms) c → AllPuts ms → InTurn c ms last → Rewritten bs b ms last
unfolding offered
going_on bs b put c [] last is_list g a r =
    let front : front_list last ≡ bs = ap (λ (l : List ℕ). front_list l) r ∙ going_end bs b is_list put c g in
    let parts : last ≡ bs ++ drop (length bs) last =
    front_rest last ∙ ap (λ (l : List ℕ). l ++ drop (length l) last) front
    in
    record {
      all_done = tt;
      front = front;
      bytes = ap (take (length bs)) parts ∙ take_at bs (drop (length bs) last) (length bs) refl;
      behind = ap (drop (length bs)) r ∙ g.behind;
    }
going_on bs b put c (m ∷ ms) last is_list g a r =
    let here = subst (λ (l : List ℕ). Going bs b put (pair_of m ∷ offered ms) l) (sym r.0) g in
    let t = going-taken bs b is_list put (offered ms) m.buffer m.name m.digest here in
    let passes = put-done m.buffer m.name m.digest t in
    let next = going_next bs b is_list put (offered ms) m.buffer m.name m.digest here a.0.1.1.1 in
    let left = judged-new a.0.0 passes in
    let rest =
    going_on bs b (put ++ (pair_of m ∷ [])) m.left ms last is_list
    (subst (λ (l : List ℕ). Going bs b (put ++ (pair_of m ∷ [])) (offered ms) l) (sym left) next)
    a.1 r.1
    in
    record {
      all_done = (a.0.0.answer ∙ passes, rest.all_done);
      front = rest.front;
      bytes = rest.bytes;
      behind = rest.behind;
    }

-- the pairs that are offered are those of the list, in any order: the buffer has room, so all are taken, and its front is that list
pub reordered-list : (bs b b0 : List ℕ) (n0 : ℕ) (ms : List Put) (last : List ℕ) → accepted bs ≡ true → length bs ≤ length b →
    Starts (edition_in bs) b n0 b0 → AllPuts ms → InTurn b0 ms last → Reordered (offered ms) (read_list bs).pairs →
    (n0 ≡ 0) × Rewritten bs b ms last
reordered-list bs b b0 n0 ms last is_list long s a r order =
    let g = going_start bs b is_list (offered ms) n0 b0 long order s in
    (g.0, going_on bs b [] b0 ms last is_list g.1 a r)
