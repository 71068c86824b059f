-- The split rule. A function that keeps RFC 6962's rules is `split` over the nodes of its entries, `rfc6962-split`. Levels keep them,
-- `levels-rfc6962`, so the two rules give the same root: `levels-split`. So `split` and `tree_hash` keep them too, `split-rfc6962` and
-- `tree-hash-rfc6962`.
use Prim.Native.Nat.{ℕ, zero, suc, ◌-◌, ◌^◌, ◌≤◌}
use mathlib.Core.List.{List, [], ◌∷◌, map, map-id}
use mathlib.Core.Path.{◌≡◌, refl, sym, ap, ap₂, ◌∙◌}
use native.Mathlib.Omega.{arith}
use lib.ListN.{length, take, drop, length-drop, length-map}
use lib.Seq.{length-take-le}
use Rattle.fips.proofs.Roots.{lt-two-pow}
use Rattle.treerule.specs.Root.{Node, leaf, parent, climb, top}
use Rattle.treerule.specs.Split.{Rfc6962, split_in, split, tree_hash}
use Rattle.treerule.proofs.Powers.{power_below_lem}
use Rattle.treerule.proofs.Levels.{top_one, top-more}

map-take : {A : Type 0} (f : A → Node) (n : ℕ) (xs : List A) → map f (take n xs) ≡ take n (map f xs)
map-take f zero xs = refl
map-take f (suc n) [] = refl
map-take f (suc n) (x ∷ xs) = ap (λ (l : List Node). f x ∷ l) (map-take f n xs)

map-drop : {A : Type 0} (f : A → Node) (n : ℕ) (xs : List A) → map f (drop n xs) ≡ drop n (map f xs)
map-drop f zero xs = refl
map-drop f (suc n) [] = refl
map-drop f (suc n) (x ∷ xs) = map-drop f n xs

-- ---- the rules leave one function

module _ {A : Type 0} {single : A → Node} {hash : List A → Node} (rule : Rfc6962 single hash) where
  splits : (d : ℕ) (entries : List A) → length entries ≤ d → hash entries ≡ split_in d (map single entries)
  unfolding split_in
  splits zero [] few = rule.none
  splits zero (e ∷ es) few = absurd (omega arith)
  splits (suc d) [] few = rule.none
  splits (suc d) (e ∷ []) few = rule.one e
  splits (suc d) (e ∷ f ∷ es) few =
      let all = e ∷ f ∷ es in
      let nodes = map single all in
      let many : length nodes ≡ length all = length-map all single in
      let largest = power_below_lem (length nodes) (omega arith) in
      let j = largest.exponent in
      let power = lt-two-pow j in
      let front : length (take (2 ^ j) all) ≡ 2 ^ j = length-take-le (2 ^ j) all (omega arith) in
      let rest : length (drop (2 ^ j) all) ≡ length all - 2 ^ j = length-drop (2 ^ j) all in
      rule.more j all (omega arith) (omega arith)
      ∙ ap₂ parent (splits d (take (2 ^ j) all) (omega arith)) (splits d (drop (2 ^ j) all) (omega arith))
      ∙ ap₂ (λ (l r : List Node). parent (split_in d l) (split_in d r))
      (map-take single (2 ^ j) all ∙ ap (λ (k : ℕ). take k nodes) (sym largest.is))
      (map-drop single (2 ^ j) all ∙ ap (λ (k : ℕ). drop k nodes) (sym largest.is))

  pub rfc6962-split : (entries : List A) → hash entries ≡ split (map single entries)
  unfolding split
  rfc6962-split entries =
      splits (length entries) entries (omega arith)
      ∙ ap (λ (d : ℕ). split_in d (map single entries)) (sym (length-map entries single))

-- ---- levels keep the rules, so does what computes

pub levels-rfc6962 : Rfc6962 (λ (n : Node). n) top
unfolding top climb
levels-rfc6962 = record { none = refl; one = top_one; more = top-more }

pub levels-split : (ns : List Node) → top ns ≡ split ns
levels-split ns = rfc6962-split levels-rfc6962 ns ∙ ap split (map-id ns)

pub split-rfc6962 : Rfc6962 (λ (n : Node). n) split
unfolding split split_in
split-rfc6962 =
    record {
      none = refl;
      one = λ n. refl;
      more =
          λ j ns many few.
          sym (levels-split ns)
          ∙ top-more j ns many few
          ∙ ap₂ parent (levels-split (take (2 ^ j) ns)) (levels-split (drop (2 ^ j) ns));
    }

pub tree-hash-rfc6962 : Rfc6962 leaf tree_hash
unfolding tree_hash split split_in
tree-hash-rfc6962 =
    record {
      none = refl;
      one = λ entry. refl;
      more =
          λ j entries many few.
          let long = length-map entries leaf in
          split-rfc6962.more j (map leaf entries) (omega arith) (omega arith)
          ∙ ap₂ (λ (l r : List Node). parent (split l) (split r))
          (sym (map-take leaf (2 ^ j) entries)) (sym (map-drop leaf (2 ^ j) entries));
    }
