-- Roots in a buffer, as a slice of nodes: `nodes-front`, `nodes-between`. Roots folded from the last to the first, the loop's turn
-- and its end: `folded-more`, `folded-end`.
use Prim.Native.Nat.{ℕ, zero, suc, ◌-◌, ◌*◌, ◌/◌, ◌≤◌}
use mathlib.Core.List.{List, [], ◌∷◌, ◌++◌, append_assoc}
use mathlib.Core.Path.{◌≡◌, refl, sym, ap, ◌∙◌}
use native.Mathlib.Omega.{arith}
use lib.ListN.{length, take, drop}
use Rattle.std.specs.Simd.{first_chunks}
use Rattle.fips.specs.Bits.{pieces}
use Rattle.treerule.specs.Root.{node_bytes, Node, parent}
use Rattle.treerule.proofs.Pieces.{pieces-take, pieces-drop}
use Rattle.streamrule.specs.Held.{folded}
use Rattle.streamrule.proofs.Folds.{folded-last}
use Rattle.tree.specs.Code.Held.{held}

chunks-pieces : (n k : ℕ) (xs : List ℕ) → first_chunks n k xs ≡ pieces n k xs
unfolding pieces
chunks-pieces n zero xs = refl
chunks-pieces n (suc k) xs = ap (λ (l : List (List ℕ)). take n xs ∷ l) (chunks-pieces n k (drop n xs))

module _ (buffer : List ℕ) {nodes : List Node} (is_nodes : nodes ≡ first_chunks node_bytes (length buffer / node_bytes) buffer) where
  abbrev all : ℕ
  all = length buffer / node_bytes

  pub nodes-front : (count : ℕ) → count ≤ all → take count nodes ≡ held count buffer
  nodes-front count h = ap (take count) (is_nodes ∙ chunks-pieces node_bytes all buffer) ∙ pieces-take node_bytes count all buffer h

  pub nodes-between : (from to : ℕ) → from ≤ to → to ≤ all →
      take (to - from) (drop from nodes) ≡ held (to - from) (drop (from * node_bytes) buffer)
  nodes-between from to h room =
      ap (λ (l : List Node). take (to - from) (drop from l)) (is_nodes ∙ chunks-pieces node_bytes all buffer)
      ∙ ap (take (to - from)) (pieces-drop node_bytes from all buffer (omega arith))
      ∙ pieces-take node_bytes (to - from) (all - from) (drop (from * node_bytes) buffer) (omega arith)

-- the roots from one place to another, and a node behind them
abbrev pub above : List ℕ → ℕ → ℕ → Node → Node
above roots from to node = folded (held (to - from) (drop (from * node_bytes) roots) ++ (node ∷ []))

-- the last of those that are left, and the node behind them, have a parent
pub folded-more : {left : List Node} (rest : List Node) (root node : Node) {up : Node} {all : Node} → left ≡ rest ++ (root ∷ []) →
    folded (left ++ (node ∷ [])) ≡ all → up ≡ parent root node → folded (rest ++ (up ∷ [])) ≡ all
folded-more rest root node is_left same is_up =
    ap (λ (n : Node). folded (rest ++ (n ∷ []))) is_up
    ∙ sym (folded-last rest root node)
    ∙ ap folded (sym (append_assoc rest (root ∷ []) (node ∷ [])))
    ∙ ap (λ (l : List Node). folded (l ++ (node ∷ []))) (sym is_left)
    ∙ same

pub folded-end : (left : List Node) (node : Node) {all : Node} → length left ≡ 0 → folded (left ++ (node ∷ [])) ≡ all → node ≡ all
unfolding folded
folded-end [] node none same = same
folded-end (l ∷ left) node none same = absurd (omega arith)
