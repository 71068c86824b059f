-- RFC 6962, section 2.1: the tree hash of a list of entries, split at the largest power of two below their number. `Rfc6962` has its three
-- rules, of a function of which nothing else is said; `split`, over nodes, and `tree_hash`, over entries, compute.
use Rattle.std.specs.Prelude.{ℕ, zero, suc, ◌*◌, ◌^◌, ◌<◌, ◌≤◌, cond, List, [], ◌∷◌, map, ◌≡◌, ltb, length, take, drop}
use Rattle.treerule.specs.Root.{Node, sha256, leaf, parent}

-- `hash` keeps the rules of §2.1: of no entry, of one, whose node is `single` of it, and of more. A power of two k is the largest one below
-- n where k < n ≤ 2k
pub record Rfc6962 {A : Type 0} (single : A → Node) (hash : List A → Node) : Type 0 where
  pub none : hash [] ≡ sha256 []
  pub one : (entry : A) → hash (entry ∷ []) ≡ single entry
  pub more : (j : ℕ) (entries : List A) → 2 ^ j < length entries → length entries ≤ 2 * 2 ^ j →
      hash entries ≡ parent (hash (take (2 ^ j) entries)) (hash (drop (2 ^ j) entries))

-- of 1, 2, 4 and so on to 2^j the largest that is below n, from 2 on
unfoldable pub power_to : ℕ → ℕ → ℕ
power_to zero n = 1
power_to (suc j) n = cond (ltb (2 ^ suc j) n) (2 ^ suc j) (power_to j n)

-- the largest power of two below n, from 2 on
unfoldable pub power_below : ℕ → ℕ
power_below n = power_to n n

-- one node is itself, and more are the parent of their two parts, each split likewise; at most d deep
unfoldable pub split_in : ℕ → List Node → Node
split_in zero ns = sha256 []
split_in (suc d) [] = sha256 []
split_in (suc d) (n ∷ []) = n
split_in (suc d) (l ∷ r ∷ ns) =
    let all = l ∷ r ∷ ns in
    let k = power_below (length all) in
    parent (split_in d (take k all)) (split_in d (drop k all))

-- a part has fewer nodes, so that no split goes deeper than there are nodes
unfoldable pub split : List Node → Node
split ns = split_in (length ns) ns

-- the tree hash of entries: their leaves, split
unfoldable pub tree_hash : List (List ℕ) → Node
tree_hash entries = split (map leaf entries)
