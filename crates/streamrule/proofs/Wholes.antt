-- What is true of every hash is true of the roots, where it is true of the leaves: of what is folded (`folded-every`), of what is held
-- after leaves more (`grown-every`), and of all leaves (`subtrees-every`), which are leaves more to none (`subtrees-grown`). So roots are
-- as long as nodes: `length-folded`, `whole-grown`, `whole-subtrees`.
use Prim.Native.Nat.{ℕ, zero, suc, ◌-◌}
use mathlib.Core.List.{List, [], ◌∷◌, ◌++◌}
use mathlib.Core.Path.{◌≡◌, sym}
use lib.ListN.{length, get_or, take, drop}
use Rattle.treerule.specs.Root.{node_bytes, Node, sha256, parent}
use Rattle.treerule.proofs.Hashes.{length-sha256}
use Rattle.treerule.proofs.Levels.{Whole}
use Rattle.streamrule.specs.Held.{subtrees_in, subtrees, folded, joined, ones_at_end, pushed, grown}
use Rattle.streamrule.proofs.Subtrees.{grown-subtrees}

pub subtrees-grown : (ns : List Node) → subtrees ns ≡ grown 0 [] ns
unfolding subtrees subtrees_in
subtrees-grown ns = sym (grown-subtrees [] ns)

-- past the end nodes read as the hash of the empty message
abbrev pub Every : (Node → Type 0) → List Node → Type 0
Every P ns = (i : ℕ) → P (get_or ns i (sha256 []))

module _ (P : Node → Type 0) (hashed : (bytes : List ℕ) → P (sha256 bytes)) where
  one-every : (n : Node) → P n → Every P (n ∷ [])
  one-every n h zero = h
  one-every n h (suc i) = hashed []

  pub append-every : (xs ys : List Node) → Every P xs → Every P ys → Every P (xs ++ ys)
  append-every [] ys h g i = g i
  append-every (x ∷ xs) ys h g zero = h 0
  append-every (x ∷ xs) ys h g (suc i) = append-every xs ys (λ j. h (suc j)) g i

  take-every : (n : ℕ) (xs : List Node) → Every P xs → Every P (take n xs)
  take-every zero xs h i = hashed []
  take-every (suc n) [] h i = h i
  take-every (suc n) (x ∷ xs) h zero = h 0
  take-every (suc n) (x ∷ xs) h (suc i) = take-every n xs (λ j. h (suc j)) i

  drop-every : (n : ℕ) (xs : List Node) → Every P xs → Every P (drop n xs)
  drop-every zero xs h = h
  drop-every (suc n) [] h = h
  drop-every (suc n) (x ∷ xs) h = drop-every n xs (λ j. h (suc j))

  pub folded-every : (ns : List Node) → Every P ns → P (folded ns)
  unfolding folded parent
  folded-every [] h = hashed []
  folded-every (n ∷ []) h = h 0
  folded-every (l ∷ r ∷ ns) h = hashed (1 ∷ (l ++ folded (r ∷ ns)))

  joined-every : (k : ℕ) (roots : List Node) (leaf : Node) → Every P roots → P leaf → Every P (joined k roots leaf)
  unfolding joined
  joined-every k roots leaf h e =
      let stay = length roots - k in
      let last = drop stay roots ++ (leaf ∷ []) in
      append-every (take stay roots) (folded last ∷ []) (take-every stay roots h)
      (one-every (folded last) (folded-every last (append-every (drop stay roots) (leaf ∷ []) (drop-every stay roots h)
      (one-every leaf e))))

  pushed-every : (n : ℕ) (roots : List Node) (leaf : Node) → Every P roots → P leaf → Every P (pushed n roots leaf)
  unfolding pushed
  pushed-every n roots leaf h e = joined-every (ones_at_end n) roots leaf h e

  pub grown-every : (n : ℕ) (roots leaves : List Node) → Every P roots → Every P leaves → Every P (grown n roots leaves)
  unfolding grown
  grown-every n roots [] h g = h
  grown-every n roots (leaf ∷ leaves) h g =
      grown-every (suc n) (pushed n roots leaf) leaves (pushed-every n roots leaf h (g 0)) (λ i. g (suc i))

  pub subtrees-every : (ns : List Node) → Every P ns → Every P (subtrees ns)
  subtrees-every ns h = rw (subtrees-grown ns) (grown-every 0 [] ns (λ i. hashed []) h)

-- ---- as long as nodes

abbrev AsLong : Node → Type 0
AsLong n = length n ≡ node_bytes

pub whole-none : Whole []
whole-none i = length-sha256 []

pub whole_append : (xs ys : List Node) → Whole xs → Whole ys → Whole (xs ++ ys)
whole_append xs ys h g = append-every AsLong length-sha256 xs ys h g

pub length-folded : (ns : List Node) → Whole ns → length (folded ns) ≡ node_bytes
length-folded ns h = folded-every AsLong length-sha256 ns h

pub whole-grown : (n : ℕ) (roots leaves : List Node) → Whole roots → Whole leaves → Whole (grown n roots leaves)
whole-grown n roots leaves h g = grown-every AsLong length-sha256 n roots leaves h g

pub whole-subtrees : (ns : List Node) → Whole ns → Whole (subtrees ns)
whole-subtrees ns h = subtrees-every AsLong length-sha256 ns h
