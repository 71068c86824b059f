-- The theorems in Made.antt are not about nothing. Whatever bytes are lent, there is a start and there is a put, `start-happens` and
-- `put-happens`; so there are puts of any pairs of bytes in turn on any buffer, `puts-happen`, and of the pairs of any list in any order
-- after a start that is done, `list-happens`.
use mathlib.Core.List.{List, [], ◌∷◌}
use mathlib.Core.Path.{◌≡◌, refl, ap, subst, sym}
use mathlib.Core.Bool.{true}
use Prim.Native.Nat.{ℕ, zero, suc, ◌≤◌}
use native.Mathlib.Omega.{arith}
use lib.ListN.{length, drop}
use denote.Ref.{Bor, MutBor}
use Rattle.answers.specs.Judged.{first, after}
use Rattle.slices.specs.Below.{Bytes}
use Rattle.slices.proofs.Below.{below-append, below-drop}
use Rattle.fips.specs.Editions.{digest_bytes}
use Rattle.slices.specs.Tests.{every}
use Rattle.slices.proofs.Tests.{cond_both}
use Rattle.lists.specs.Layout.{entries_at, list_bytes, edition_in, read_list, accepted}
use Rattle.lists.specs.Lists.{Pair, pair_allowed}
use Rattle.lists.proofs.Allowed.{name-bytes}
use Rattle.lists.proofs.ByRules.{accepted-header}
use Rattle.lists.proofs.Lists.{valid-bytes, digest-is-bytes, accepted-valid}
use Rattle.lists.proofs.Written.{allowed-pair, valid-list}
use Rattle.writer.specs.Writing.{empty_list, start_tests, started, put_tests, put_in, Lends}
use Rattle.writer.proofs.Fronts.{CanStart, start-done, start_left, empty-valid, list_with, put-passed, put-valid, put-left}
use Rattle.written.specs.Code.{Began, c-start-made, Did, c-put-made, AllDid}
use Rattle.written.specs.Written.{Reordered, Put, pair_of, InTurn, offered}
use Rattle.written.proofs.Orders.{reordered-sym, reordered-every}

-- a slice somewhere
slice : List ℕ → Bor (List ℕ)
slice xs = record { ref_ptr = (0, 0); now = xs }

-- the same lent to be written
lent_slice : List ℕ → MutBor (List ℕ)
lent_slice xs = record { ref_ptr = (0, 0); ghost_name = 0; now = xs }

pub start-happens : (e : ℕ) (b : List ℕ) → Began e b (first (start_tests e b)) (after (first (start_tests e b)) b (started e b))
unfolding slice lent_slice
start-happens e b =
    c-start-made
    (record {
      κs = ([], tt);
      args = (e, (lent_slice b, tt));
      result = first (start_tests e b);
      last = (tt, (after (first (start_tests e b)) b (started e b), tt));
      learnt = record { answer = refl; leaves = refl };
    })

abbrev put_of : List ℕ → List ℕ → List ℕ → Put
put_of b name digest = record {
  buffer = b;
  name = name;
  digest = digest;
  answer = first (put_tests b name digest);
  left = after (first (put_tests b name digest)) b (put_in b name digest);
}

pub put-happens : (b name digest : List ℕ) → Lends b name digest → Did (put_of b name digest)
unfolding slice lent_slice
put-happens b name digest l =
    c-put-made
    (record {
      κs = ([], ([], ([], tt)));
      args = (lent_slice b, (slice name, (slice digest, tt)));
      result = first (put_tests b name digest);
      last = (after (first (put_tests b name digest)) b (put_in b name digest), (tt, (tt, tt)));
      learnt = (record { answer = refl; leaves = refl }, l);
    })

left-bytes : (b name digest : List ℕ) → Lends b name digest → Bytes (put_of b name digest).left
left-bytes b name digest l = go (first (put_tests b name digest)) refl
  where
    go : (n : ℕ) → first (put_tests b name digest) ≡ n → Bytes (after n b (put_in b name digest))
    go zero e =
        let t = put-passed b name digest e in
        let new = list_bytes (list_with b name digest) in
        subst (λ (xs : List ℕ). Bytes xs) (sym (put-left b name digest t l.1.1))
        (below-append new (drop (length new) b) (valid-bytes (list_with b name digest) (put-valid b name digest t l.1.1))
        (below-drop (length new) b l.0))
    go (suc n) e = l.0

abbrev pub AllBytes : List Pair → Type 0
AllBytes [] = Unit {0}
AllBytes (p ∷ ps) = (Bytes p.name × Bytes p.digest) × AllBytes ps

-- puts of those pairs in turn on that buffer
pub record Happened (b : List ℕ) (ps : List Pair) : Type 0 where
  pub puts : List Put
  pub last : List ℕ
  pub did : AllDid puts
  pub turns : InTurn b puts last
  pub pairs : offered puts ≡ ps

pub puts-happen : (b : List ℕ) → Bytes b → (ps : List Pair) → AllBytes ps → Happened b ps
unfolding offered
puts-happen b h [] a = record { puts = []; last = b; did = tt; turns = refl; pairs = refl }
puts-happen b h (p ∷ ps) a =
    let l : Lends b p.name p.digest = (h, a.0) in
    let m = put_of b p.name p.digest in
    let r = puts-happen m.left (left-bytes b p.name p.digest l) ps a.1 in
    record {
      puts = m ∷ r.puts;
      last = r.last;
      did = (put-happens b p.name p.digest l, r.did);
      turns = (refl, r.turns);
      pairs = ap (λ (qs : List Pair). pair_of m ∷ qs) r.pairs;
    }

-- ---- the pairs of a list

started-bytes : (e : ℕ) (b : List ℕ) → CanStart e b → Bytes b → Bytes (started e b)
started-bytes e b c h =
    let new = list_bytes (empty_list e) in
    subst (λ (xs : List ℕ). Bytes xs) (sym (start_left e b c))
    (below-append new (drop entries_at b) (valid-bytes (empty_list e) (empty-valid e c.edition-known)) (below-drop entries_at b h))

all-bytes : (d : ℕ) (ps : List Pair) → every (pair_allowed d) ps ≡ true → AllBytes ps
unfolding every
all-bytes d [] e = tt
all-bytes d (p ∷ ps) e =
    let t = cond_both (pair_allowed d p) (every (pair_allowed d) ps) e in (
      (name-bytes p.name (allowed-pair d p t.0).named, digest-is-bytes d p t.0),
      all-bytes d ps t.1,
    )

pub list-happens : (bs b : List ℕ) → accepted bs ≡ true → length bs ≤ length b → Bytes b →
    (ps : List Pair) → Reordered ps (read_list bs).pairs →
    (b0 : List ℕ) × Began (edition_in bs) b 0 b0 × Happened b0 ps
list-happens bs b a long h ps order =
    let e = edition_in bs in
    let header = accepted-header bs a in
    let can : CanStart e b = record { edition-known = header.edition-known; room = omega (arith, header.long) } in
    let d = digest_bytes (read_list bs).edition in
    let back = reordered-sym ps (read_list bs).pairs order in
    let allowed : every (pair_allowed d) ps ≡ true =
    reordered-every (pair_allowed d) (read_list bs).pairs ps back (valid-list (read_list bs) (accepted-valid bs a)).allowed in (
      started e b,
      subst (λ (n : ℕ). Began e b n (after n b (started e b))) (start-done e b can) (start-happens e b),
      puts-happen (started e b) (started-bytes e b can h) ps (all-bytes d ps allowed),
    )
