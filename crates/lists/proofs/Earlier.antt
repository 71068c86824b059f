-- Where a name belongs among ascending names: behind those that are earlier, of which there are no more than names, `earlier-within`. The
-- name is listed just where the next one is the name itself: `listed_at`, and in bytes `listed-entry`.
use mathlib.Core.Bool.{Bool, true, false, cond, false≢true}
use mathlib.Core.List.{List, [], ◌∷◌}
use mathlib.Core.Path.{◌≡◌, refl, sym, ap, ◌∙◌}
use Prim.Native.Nat.{ℕ, suc, ◌≤◌}
use native.Mathlib.Omega.{arith}
use lib.Dec.{leb, leb-suc-suc}
use lib.ListN.{length, get_or}
use borrow.Author.Tests.{lt-leb}
use Rattle.std.specs.Prelude.{Result, Ok, Err, is_ok}
use Rattle.answers.proofs.Outcome.{refusal-injective}
use Rattle.answers.proofs.Refusals.{refuses}
use Rattle.answers.specs.declared.Refusal.{Refusal}
use Rattle.answers.specs.Numbers.{number_of}
use Rattle.slices.specs.Tests.{same}
use Rattle.slices.proofs.Tests.{cond_both, same-apart}
use Rattle.lists.specs.Calls.{listed, pair_in}
use Rattle.lists.specs.declared.Placing.{Placing}
use Rattle.lists.specs.Code.Place.{earlier, earlier_of, listed_of, Placed}
use Rattle.lists.specs.Layout.{count_in, digest_size_in, read_list, accepted}
use Rattle.lists.specs.Lists.{Pair, ascending}
use Rattle.lists.specs.Order.{before}
use Rattle.lists.specs.Code.Rules.{names_entry}
use Rattle.lists.proofs.Ascending.{before-not-self, before-or, before-trans}
use Rattle.lists.proofs.ByRules.{length-read_pairs}
use Rattle.lists.proofs.Lists.{accepted-valid, before-differs}
use Rattle.lists.proofs.Written.{valid-list}

pub earlier-within : (name : List ℕ) (ps : List Pair) → earlier name ps ≤ length ps
unfolding earlier
earlier-within name [] = omega arith
earlier-within name (p ∷ ps) = go (before p.name name) (earlier-within name ps)
  where
    go : (b : Bool) → earlier name ps ≤ length ps → cond b (suc (earlier name ps)) 0 ≤ suc (length ps)
    go true h = omega arith
    go false h = omega arith

apart-after : (xs ys : List ℕ) → before xs ys ≡ true → same ys xs ≡ false
apart-after xs ys e = same-apart ys xs (λ s. false≢true (sym (before-not-self xs) ∙ ap (before xs) (sym s) ∙ e))

-- names that come after one are not it
pub none_after : (name a : List ℕ) (ps : List Pair) → before name a ≡ true → ascending a ps ≡ true → listed name ps ≡ false
unfolding listed ascending
none_after name a [] h e = refl
none_after name a (p ∷ ps) h e =
    let t = cond_both (before a p.name) (ascending p.name ps) e in
    let later = before-trans name a p.name h t.0 in
    rw (apart-after name p.name later) (none_after name p.name ps later t.1)

pub listed_at : (name a : List ℕ) (ps : List Pair) (d : Pair) → ascending a ps ≡ true →
    cond (leb (length ps) (earlier name ps)) false (same (get_or ps (earlier name ps) d).name name) ≡ listed name ps
unfolding listed ascending earlier
listed_at name a [] d e = refl
listed_at name a (p ∷ ps) d e =
    let t = cond_both (before a p.name) (ascending p.name ps) e in
    go (before p.name name) refl (same p.name name) refl t.1 (listed_at name p.name ps d t.1)
  where
    go : (b : Bool) → before p.name name ≡ b → (s : Bool) → same p.name name ≡ s → ascending p.name ps ≡ true →
        cond (leb (length ps) (earlier name ps)) false (same (get_or ps (earlier name ps) d).name name) ≡ listed name ps →
        let k = cond b (suc (earlier name ps)) 0 in
        cond (leb (suc (length ps)) k) false (same (get_or (p ∷ ps) k d).name name) ≡ cond (same p.name name) true (listed name ps)
    go true q s r up rest = rw (before-differs p.name name q, leb-suc-suc (length ps) (earlier name ps)) rest
    go false q true r up rest = rw (lt-leb (suc (length ps)) 0 (omega arith), r)
    go false q false r up rest =
        rw (lt-leb (suc (length ps)) 0 (omega arith), r)
        (sym (none_after name p.name ps (before-or p.name name r q) up))

pub listed-entry : (bs name : List ℕ) → accepted bs ≡ true →
    names_entry bs (earlier name (read_list bs).pairs) name ≡ listed name (read_list bs).pairs
unfolding names_entry pair_in read_list
listed-entry bs name a =
    ap (λ (n : ℕ). cond (leb n (earlier name (read_list bs).pairs)) false (same (pair_in (earlier name (read_list bs).pairs) bs).name name))
    (sym (length-read_pairs (count_in bs) (digest_size_in bs) _ bs))
    ∙ listed_at name [] (read_list bs).pairs (record { name = []; digest = [] }) (valid-list (read_list bs) (accepted-valid bs a)).ascends

-- ---- what one reading answers

-- the refusal, or how many names come before the name and whether it is there, which the number and `Placed` settle
pub place-same : {bs name : List ℕ} {n : ℕ} (r s : Result Placing Refusal) → number_of r ≡ n → number_of s ≡ n →
    Placed bs name (is_ok r) (earlier_of r) (listed_of r) →
    Placed bs name (is_ok s) (earlier_of s) (listed_of s) →
    r ≡ s
place-same (Ok p) (Ok q) e f j k =
    let n = j.place ∙ sym k.place in
    let has = j.names ∙ sym k.names in
    λ i. Ok (record { earlier = n i; listed = has i })
place-same (Ok p) (Err t) e f j k = absurd (omega (arith, refuses {A = Placing} (Err t) t refl, e, f))
place-same (Err t) (Ok q) e f j k = absurd (omega (arith, refuses {A = Placing} (Err t) t refl, e, f))
place-same (Err t) (Err u) e f j k = ap Err (refusal-injective t u (e ∙ sym f))
