-- Names that come one behind the other: those that are read are those that were written, each ended by a zero byte, `names-back`.
-- `before-found` is where the library finds the first zero byte, `zeros-counted` how many it counts.
use Prim.Native.Nat.{ℕ, zero, suc, ◌+◌, ◌-◌, ◌≤◌, min}
use mathlib.Core.Bool.{Bool, true, false, not, cond}
use mathlib.Core.List.{List, [], ◌∷◌, ◌++◌}
use mathlib.Core.Path.{◌≡◌, refl, sym, ap, ◌∙◌}
use native.Mathlib.Numerals.{unary_clauses}
use native.Mathlib.Omega.{arith}
use lib.Dec.{eqb, ltb}
use lib.ListN.{length, get_or, take, drop, length-append, length-drop}
use lib.Seq.{drop-drop, take_all, take-append_seam, drop-append-add, get_or-append-add}
use borrow.Author.Tests.{ltb-false, not-true}
use Rattle.std.specs.Prelude.{unwrap_or}
use Rattle.std.specs.List.{position, position_or_len, count_by}
use Rattle.std.proofs.lemmas.List.Recursion.{is_position_or_len, is_count_by}
use Rattle.std.proofs.lemmas.List.Sums.{prefix_len-le-length}
use Rattle.slices.specs.Tests.{every}
use Rattle.slices.proofs.Tests.{cond_both}
use Rattle.slices.proofs.Parts.{drop-within}
use Rattle.listing.specs.Names.{ending, without_zero, before_zero, behind_zero, is_zero, name_in, names_from, name_place, zeros, ended}

-- ---- what the library finds and counts

before-first : (bs : List ℕ) → before_zero bs ≡ position_or_len (λ b. eqb b 0) bs
unfolding before_zero
before-first bs = is_position_or_len before_zero (λ b. eqb b 0) refl (λ x xs. ap (λ (n : ℕ). cond (eqb x 0) 0 n) (omega arith)) bs

pub before-within : (bs : List ℕ) → before_zero bs ≤ length bs
before-within bs = rw (before-first bs) (prefix_len-le-length _ bs)

-- the place of the first zero, or the end
pub before-found : (bs : List ℕ) → unwrap_or (position (λ b. eqb b 0) bs) (length bs) ≡ before_zero bs
before-found bs = go (ltb (before_zero bs) (length bs)) refl
  where
    go : (t : Bool) → ltb (before_zero bs) (length bs) ≡ t → unwrap_or (position (λ b. eqb b 0) bs) (length bs) ≡ before_zero bs
    go true e = rw (← before-first bs, e)
    go false e = rw (← before-first bs, e) (omega (arith, before-within bs, ltb-false (before_zero bs) (length bs) e))

pub zeros-counted : (bs : List ℕ) → zeros bs ≡ count_by (λ b. eqb b 0) bs
unfolding zeros is_zero
zeros-counted bs = is_count_by zeros (λ b. eqb b 0) refl (λ x xs. go (eqb x 0) (zeros xs)) bs
  where
    go : (t : Bool) (n : ℕ) → cond t 1 0 + n ≡ cond t (1 + n) n
    go true n = omega arith
    go false n = omega arith

-- ---- where the next name begins

-- what is lent from a place on
pub lent : (bs : List ℕ) (at : ℕ) → take (length bs - at) (drop at bs) ≡ drop at bs
lent bs at = take_all (length bs - at) (drop at bs) (omega (arith, length-drop at bs))

-- behind the zero byte, or at the end
pub next-name : (bs : List ℕ) (at n : ℕ) → n ≡ before_zero (drop at bs) →
    drop (min (at + n + 1) (length bs)) bs ≡ behind_zero (drop at bs)
next-name bs at n e =
    let sum : at + n + 1 ≡ at + suc (before_zero (drop at bs)) = omega (arith, e) in
    drop-within (at + n + 1) bs ∙ rw sum (sym (drop-drop (suc (before_zero (drop at bs))) at bs))

-- one name more is passed over
pub from-next : (i : ℕ) (bs : List ℕ) → names_from (suc i) bs ≡ behind_zero (names_from i bs)
unfolding names_from
from-next zero bs = refl
from-next (suc i) bs = from-next i (behind_zero bs)

name-from : (i : ℕ) (bs : List ℕ) → name_in i bs ≡ take (before_zero (names_from i bs)) (names_from i bs)
unfolding name_in names_from
name-from zero bs = refl
name-from (suc i) bs = name-from i (behind_zero bs)

-- the name at a place from where it is the first one
pub name-here : (bs : List ℕ) (i at n : ℕ) → n ≡ before_zero (take (length bs - at) (drop at bs)) → drop at bs ≡ names_from i bs →
    take n (drop at bs) ≡ name_in i bs
name-here bs i at n e h = rw (e, lent bs at, h) (sym (name-from i bs))

pub place_here : (bs : List ℕ) (i at : ℕ) → at ≤ length bs → drop at bs ≡ names_from i bs → at ≡ name_place i bs
place_here bs i at h e = rw (← e) (omega (arith, length-drop at bs))

-- ---- names written and read

before-name : (name rest : List ℕ) → without_zero name ≡ true → before_zero (name ++ (0 ∷ rest)) ≡ length name
unfolding before_zero every
before-name [] rest h = refl
before-name (b ∷ name) rest h =
    let t = cond_both (not (eqb b 0)) (without_zero name) h in
    rw (not-true (eqb b 0) t.0) (ap suc (before-name name rest t.1))

zeros-name : (name rest : List ℕ) → without_zero name ≡ true → zeros (name ++ (0 ∷ rest)) ≡ suc (zeros rest)
unfolding zeros is_zero every
zeros-name [] rest h = omega arith
zeros-name (b ∷ name) rest h =
    let t = cond_both (not (eqb b 0)) (without_zero name) h in
    rw (not-true (eqb b 0) t.0) (omega (arith, zeros-name name rest t.1))

behind-name : (name rest : List ℕ) → without_zero name ≡ true → behind_zero (name ++ (0 ∷ rest)) ≡ rest
behind-name name rest h =
    let one : suc (length name) ≡ length name + 1 = omega arith in
    rw (before-name name rest h, one) (drop-append-add name (0 ∷ rest) 1)

-- what is read of names that were written one behind the other
pub record Back (names : List (List ℕ)) : Type 0 where
  pub as_many : zeros (ending names) ≡ length names
  pub each : (i : ℕ) → name_in i (ending names) ≡ get_or names i []
  pub whole : ended (ending names) ≡ true

-- the last byte is the one behind the last name
last-behind : (name rest : List ℕ) → ended rest ≡ true → ended (name ++ (0 ∷ rest)) ≡ true
unfolding ended
last-behind name [] h = rw (last-place name 0 []) (rw (get_or-append-add name (0 ∷ []) 0 0))
  where
    last-place : (xs : List ℕ) (y : ℕ) (ys : List ℕ) → length (xs ++ (y ∷ ys)) - 1 ≡ length xs + length ys
    last-place xs y ys = omega (arith, length-append xs (y ∷ ys))
last-behind name (b ∷ rest) h =
    let all = length-append name (0 ∷ (b ∷ rest)) in
    let size : length (name ++ (0 ∷ (b ∷ rest))) - 1 ≡ length name + suc (length rest) = omega (arith, all) in
    rw (size, get_or-append-add name (0 ∷ (b ∷ rest)) (suc (length rest)) 0) (simp unary_clauses at h)

none : (i : ℕ) → name_in i [] ≡ []
unfolding name_in before_zero
none zero = refl
none (suc i) = none i

pub names-back : (names : List (List ℕ)) → every without_zero names ≡ true → Back names
unfolding ending zeros name_in every ended
names-back [] h = record { as_many = refl; each = none_each; whole = refl }
  where
    none_each : (i : ℕ) → name_in i [] ≡ get_or {A = List ℕ} [] i []
    none_each i = none i
names-back (name ∷ names) h =
    let t = cond_both (without_zero name) (every without_zero names) h in
    let rest = names-back names t.1 in
    record {
      as_many = zeros-name name (ending names) t.0 ∙ ap suc rest.as_many;
      each = each-name name names t.0 rest.each;
      whole = last-behind name (ending names) rest.whole;
    }
  where
    each-name : (n : List ℕ) (ns : List (List ℕ)) → without_zero n ≡ true → ((i : ℕ) → name_in i (ending ns) ≡ get_or ns i []) →
        (i : ℕ) → name_in i (n ++ (0 ∷ ending ns)) ≡ get_or (n ∷ ns) i []
    each-name n ns z e zero = rw (before-name n (ending ns) z) (take-append_seam n (0 ∷ ending ns))
    each-name n ns z e (suc i) = rw (behind-name n (ending ns) z) (e i)
