-- Roots folded to one node, and a leaf joined with the last of them: `folded-cons`, `folded-last`; how many are left, `length-joined`; what
-- stands before them stays, `joined-cons`; and all of them become one, `joined-all`.
use Prim.Native.Nat.{ℕ, suc, ◌+◌, ◌-◌, ◌<◌, ◌≤◌}
use mathlib.Core.List.{List, [], ◌∷◌, ◌++◌}
use mathlib.Core.Path.{◌≡◌, refl, sym, ap, ◌∙◌}
use native.Mathlib.Omega.{arith}
use lib.ListN.{length, take, drop, length-append}
use lib.Seq.{length-take-le}
use Rattle.treerule.specs.Root.{Node, parent}
use Rattle.streamrule.specs.Held.{folded, joined}

pub folded-cons : (n : Node) (ns : List Node) → 0 < length ns → folded (n ∷ ns) ≡ parent n (folded ns)
unfolding folded
folded-cons n [] some = absurd (omega arith)
folded-cons n (m ∷ ns) some = refl

-- the last two may be folded first
pub folded-last : (ns : List Node) (l r : Node) → folded (ns ++ (l ∷ r ∷ [])) ≡ folded (ns ++ (parent l r ∷ []))
unfolding folded
folded-last [] l r = refl
folded-last (n ∷ ns) l r =
    let both = length-append ns (l ∷ r ∷ []) in
    let one = length-append ns (parent l r ∷ []) in
    folded-cons n (ns ++ (l ∷ r ∷ [])) (omega arith)
    ∙ ap (parent n) (folded-last ns l r)
    ∙ sym (folded-cons n (ns ++ (parent l r ∷ [])) (omega arith))

pub length-joined : (k : ℕ) (roots : List Node) (leaf : Node) → k ≤ length roots → length (joined k roots leaf) + k ≡ suc (length roots)
unfolding joined
length-joined k roots leaf few =
    let stay = take (length roots - k) roots in
    omega (
      arith,
      length-append stay (folded (drop (length roots - k) roots ++ (leaf ∷ [])) ∷ []),
      length-take-le (length roots - k) roots (omega arith),
    )

pub joined-cons : (k : ℕ) (n : Node) (roots : List Node) (leaf : Node) → k ≤ length roots →
    joined k (n ∷ roots) leaf ≡ n ∷ joined k roots leaf
unfolding joined
joined-cons k n roots leaf few =
    let e : suc (length roots) - k ≡ suc (length roots - k) = omega arith in
    rw e

pub joined-all : (k : ℕ) (roots : List Node) (leaf : Node) → k ≡ length roots → joined k roots leaf ≡ folded (roots ++ (leaf ∷ [])) ∷ []
unfolding joined
joined-all k roots leaf e =
    let none : length roots - k ≡ 0 = omega arith in
    rw none
