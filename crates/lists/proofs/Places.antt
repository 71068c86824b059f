-- What looking for a name answers. Number and place settle the answer, `find-same`, and it is `found`: `finds-is`, `is_found`.
-- What an answer says of a list and a name: `found_at`, the place that is told is within the list, and the part there is `listed_digest`;
-- `found_none`, where it refuses, that digest has no bytes.
use mathlib.Core.Bool.{Bool, true, false, cond, not, false≢true}
use mathlib.Core.List.{List, [], ◌∷◌}
use mathlib.Core.Path.{◌≡◌, refl, sym, ap, subst, ◌∙◌}
use Prim.Native.Nat.{ℕ, zero, suc, ◌+◌, ◌*◌, ◌<◌, ◌≤◌}
use native.Mathlib.Nat.{suc-mul}
use native.Mathlib.Omega.{arith}
use lib.ListN.{length, drop}
use lib.Seq.{drop-drop}
use Rattle.std.specs.Prelude.{Result, Ok, Err}
use Rattle.answers.proofs.Outcome.{handed-settled}
use Rattle.answers.proofs.Refusals.{refuses, done_first, done-leaves, judged-map}
use Rattle.answers.specs.declared.Refusal.{Refusal}
use Rattle.answers.specs.Judged.{◌when◌, first, handed, Judged}
use Rattle.answers.specs.Numbers.{number_of}
use Rattle.lists.specs.declared.Found.{Found}
use Rattle.lists.specs.Calls.{listed, digest_in, listed_digest, place_in, listed_place, Spot, spot, no_spot, found_spot, find_tests, Finds}
use Rattle.slices.specs.Parts.{part}
use Rattle.slices.specs.Tests.{same}
use Rattle.lists.specs.Layout.{entries_at, entry_head, entry_size, pair_at, count_in, digest_size_in, read_pairs, read_list, accepted}
use Rattle.lists.specs.Lists.{Pair}
use Rattle.lists.proofs.ByRules.{accepted-header}

-- ---- what is answered

abbrev pub found_here : ℕ → ℕ → Result Found Refusal
found_here at d = Ok (record { start = at; len = d })

abbrev pub not_listed : Result Found Refusal
not_listed = Err Refusal.NotListed

-- among pairs whose entries, with digests of d bytes, start at the offset given
abbrev pub found_in : List ℕ → ℕ → ℕ → List Pair → Result Found Refusal
found_in name d at ps = cond (listed name ps) (found_here (place_in name d at ps) d) not_listed

unfoldable pub found : List ℕ → List ℕ → Result Found Refusal
found bs name = cond (accepted bs) (found_in name (digest_size_in bs) entries_at (read_list bs).pairs) (Err Refusal.NotAList)

finds-found : (bs name : List ℕ) → Finds bs name (number_of (found bs name)) (found_spot (found bs name))
unfolding found find_tests first listed_place
finds-found bs name = go (accepted bs) (listed name (read_list bs).pairs) (listed_place bs name) (digest_size_in bs)
  where
    go : (a l : Bool) (at d : ℕ) →
        let f : Result Found Refusal =
        cond a (cond l (found_here at d) not_listed) (Err Refusal.NotAList) in
        Judged (12 when not a ∷ 13 when not l ∷ []) no_spot (spot at d) (number_of f) (found_spot f)
    go true true at d = record { answer = refl; leaves = refl }
    go true false at d = record { answer = refl; leaves = refl }
    go false l at d = record { answer = refl; leaves = refl }

module _ (bs name : List ℕ) where
  abbrev pub Answers : Result Found Refusal → Type 0
  Answers r = Finds bs name (number_of r) (found_spot r)

  pub is_found : (r : Result Found Refusal) → r ≡ found bs name → Answers r
  is_found r p = subst Answers (sym p) (finds-found bs name)

  found_of : Spot → Found
  found_of s = record { start = s.at; len = s.length }

  handed-out : (r : Result Found Refusal) → found_of (found_spot r) ≡ handed (found_of no_spot) r
  unfolding found_of
  handed-out (Ok f) = refl
  handed-out (Err r) = refl

  settles : (r : Result Found Refusal) → Answers r →
      Judged (find_tests bs name) (found_of no_spot) (found_of (spot (listed_place bs name) (digest_size_in bs)))
      (number_of r)
      (handed (found_of no_spot) r)
  settles r j = rw (← handed-out r) (judged-map found_of j)

  pub find-same : (r s : Result Found Refusal) → Answers r → Answers s → r ≡ s
  find-same r s j k = handed-settled r s (settles r j) (settles s k)

  pub finds-is : (r : Result Found Refusal) → Answers r → r ≡ found bs name
  finds-is r j = find-same r (found bs name) j (finds-found bs name)

-- ---- the place of a name that is listed

pub record Within (bs : List ℕ) (start len : ℕ) (digest : List ℕ) : Type 0 where
  pub inside : start + len ≤ length bs
  pub here : part bs start len ≡ digest

place-within : (n d at : ℕ) (name bs : List ℕ) → at + n * entry_size d ≤ length bs →
    listed name (read_pairs n d (drop at bs) bs) ≡ true →
    Within bs (place_in name d at (read_pairs n d (drop at bs) bs)) d (digest_in name (read_pairs n d (drop at bs) bs))
unfolding place_in read_pairs listed digest_in
place-within zero d at name bs h e = absurd (false≢true e)
place-within (suc n) d at name bs h e =
    let m = suc-mul n (entry_size d) in
    go (same (pair_at d (drop at bs) bs).name name) e (place-within n d (at + entry_size d) name bs (omega arith))
  where
    go : (b : Bool) → cond b true (listed name (read_pairs n d (drop (entry_size d) (drop at bs)) bs)) ≡ true →
        (listed name (read_pairs n d (drop (at + entry_size d) bs) bs) ≡ true →
        Within bs (place_in name d (at + entry_size d) (read_pairs n d (drop (at + entry_size d) bs) bs)) d
        (digest_in name (read_pairs n d (drop (at + entry_size d) bs) bs))) →
        Within bs (cond b (at + entry_head) (place_in name d (at + entry_size d) (read_pairs n d (drop (entry_size d) (drop at bs)) bs))) d
        (cond b (part (drop at bs) entry_head d) (digest_in name (read_pairs n d (drop (entry_size d) (drop at bs)) bs)))
    go true e rest =
        let m = suc-mul n (entry_size d) in
        record { inside = omega arith; here = rw (drop-drop entry_head at bs) }
    go false e rest = rw (drop-drop (entry_size d) at bs) (rest (rw (drop-drop (entry_size d) at bs) at e))

-- ---- the two answers

digest-none : (name : List ℕ) (ps : List Pair) → listed name ps ≡ false → digest_in name ps ≡ []
unfolding listed digest_in
digest-none name [] e = refl
digest-none name (p ∷ ps) e = go (same p.name name) e (digest-none name ps)
  where
    go : (b : Bool) → cond b true (listed name ps) ≡ false → (listed name ps ≡ false → digest_in name ps ≡ []) →
        cond b p.digest (digest_in name ps) ≡ []
    go true e rest = absurd (false≢true (sym e))
    go false e rest = rest e

module _ (bs name : List ℕ) {r : Result Found Refusal} (j : Answers bs name r) where
  -- a refusal: no bytes are the digest
  pub found_none : {e : Refusal} → r ≡ Err e → [] ≡ listed_digest bs name
  unfolding find_tests first listed_digest
  found_none {e = e} p =
      go (accepted bs) (listed name (read_list bs).pairs) (digest-none name (read_list bs).pairs) (rw j.answer at (refuses r e p))
    where
      go : (a l : Bool) → (l ≡ false → digest_in name (read_list bs).pairs ≡ []) → 0 < first (12 when not a ∷ 13 when not l ∷ []) →
          [] ≡ cond a (digest_in name (read_list bs).pairs) []
      go true true none h = absurd (omega arith)
      go true false none h = sym (none refl)
      go false l none h = refl

  module _ {f : Found} (p : r ≡ Ok f) where
    pub found-listed : (accepted bs ≡ true) × (listed name (read_list bs).pairs ≡ true)
    unfolding find_tests first
    found-listed = go (accepted bs) (listed name (read_list bs).pairs) (done_first j p)
      where
        go : (a l : Bool) → first (12 when not a ∷ 13 when not l ∷ []) ≡ 0 → (a ≡ true) × (l ≡ true)
        go true true e = (refl, refl)
        go true false e = absurd (omega arith)
        go false l e = absurd (omega arith)

    told : spot f.start f.len ≡ spot (listed_place bs name) (digest_size_in bs)
    told = ap found_spot (sym p) ∙ done-leaves j p

    pub found-place : f.start ≡ listed_place bs name
    found-place = ap (λ (s : Spot). s.at) told

    pub found_at : Within bs f.start f.len (listed_digest bs name)
    unfolding listed_digest listed_place read_list
    found_at =
        let size : f.len ≡ digest_size_in bs = ap (λ (s : Spot). s.length) told in
        let header = (accepted-header bs found-listed.0).within in
        rw (found-place, size, found-listed.0)
        (place-within (count_in bs) (digest_size_in bs) entries_at name bs header found-listed.1)
