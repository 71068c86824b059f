-- Levels of a chunk tree. k levels, where 2^k is at least the count of nodes, end in one node, the top: `climb-top`. The top of a level is
-- the top of the next, `top_up`; and of more than 2^j nodes, but not more than twice as many, it is the parent of the top of the first 2^j
-- and the top of the others: `top-more`.
use Prim.Native.Nat.{ℕ, zero, suc, ◌+◌, ◌-◌, ◌*◌, ◌/◌, ◌%◌, ◌^◌, ◌<◌, ◌≤◌}
use mathlib.Core.List.{List, [], ◌∷◌, ◌++◌, map}
use mathlib.Core.Path.{◌≡◌, refl, sym, ap, ap₂, ◌∙◌}
use native.Mathlib.Omega.{arith}
use lib.ListN.{length, get_or, take, drop, length-drop, take-append-drop}
use lib.Seq.{length-take-le}
use Rattle.fips.proofs.Roots.{lt-two-pow}
use Rattle.treerule.specs.Root.{node_bytes, Node, sha256, leaf, parent, up, climb, top}
use Rattle.treerule.proofs.Hashes.{length-sha256, length-parent, length-leaf}

-- ---- one level

pub length_up : (ns : List Node) → length (up ns) ≡ (length ns + 1) / 2
unfolding up
length_up [] = refl
length_up (n ∷ []) = refl
length_up (l ∷ r ∷ ns) = omega (arith, length_up ns)

-- an even number of nodes at the front has its level to itself
up-append : (xs ys : List Node) → length xs % 2 ≡ 0 → up (xs ++ ys) ≡ up xs ++ up ys
unfolding up
up-append [] ys even = refl
up-append (x ∷ []) ys even = absurd (omega arith)
up-append (l ∷ r ∷ xs) ys even = ap (λ (ns : List Node). parent l r ∷ ns) (up-append xs ys (omega arith))

-- ---- the climb

-- one level and then k, or k and then one
climb-up : (k : ℕ) (ns : List Node) → climb k (up ns) ≡ up (climb k ns)
unfolding climb
climb-up zero ns = refl
climb-up (suc k) ns = climb-up k (up ns)

climb-swap : (j k : ℕ) (ns : List Node) → climb j (climb k ns) ≡ climb k (climb j ns)
unfolding climb
climb-swap zero k ns = refl
climb-swap (suc j) k ns = ap (climb j) (sym (climb-up k ns)) ∙ climb-swap j k (up ns)

climb-lone : (k : ℕ) (n : Node) → climb k (n ∷ []) ≡ n ∷ []
unfolding climb up
climb-lone zero n = refl
climb-lone (suc k) n = climb-lone k n

-- 2^k nodes at the front have k levels to themselves
climb-append : (k : ℕ) (xs ys : List Node) → length xs ≡ 2 ^ k → climb k (xs ++ ys) ≡ climb k xs ++ climb k ys
unfolding climb
climb-append zero xs ys e = refl
climb-append (suc k) xs ys e =
    ap (climb k) (up-append xs ys (omega arith)) ∙ climb-append k (up xs) (up ys) (length_up xs ∙ omega arith)

-- so many levels suffice to end in one node
pub climb-ends : (k : ℕ) (ns : List Node) → 0 < length ns → length ns ≤ 2 ^ k → length (climb k ns) ≡ 1
unfolding climb
climb-ends zero ns some few = omega arith
climb-ends (suc k) ns some few = climb-ends k (up ns) (omega (arith, length_up ns)) (omega (arith, length_up ns))

-- ---- the top

pub top_one : (n : Node) → top (n ∷ []) ≡ n
unfolding top climb up
top_one n = refl

first-node : List Node → Node
first-node ns = get_or ns 0 (sha256 [])

one-node : (ns : List Node) → length ns ≡ 1 → ns ≡ first-node ns ∷ []
unfolding first-node
one-node [] e = absurd (omega arith)
one-node (n ∷ []) e = refl
one-node (l ∷ r ∷ ns) e = absurd (omega arith)

-- as many levels as there are nodes lead to the top by its definition, and two counts that end in one node end in the same: to go on from
-- either by the other changes nothing
pub climb-top : (k : ℕ) (ns : List Node) → 0 < length ns → length ns ≤ 2 ^ k → climb k ns ≡ top ns ∷ []
unfolding top first-node
climb-top k ns some few =
    let all = length ns in
    let here = one-node (climb k ns) (climb-ends k ns some few) in
    let there = one-node (climb all ns) (climb-ends all ns some (omega (arith, lt-two-pow all))) in
    here
    ∙ sym (climb-lone all (first-node (climb k ns)))
    ∙ ap (climb all) (sym here)
    ∙ climb-swap all k ns
    ∙ ap (climb k) there
    ∙ climb-lone k (top ns)

pub top_up : (ns : List Node) → 0 < length ns → top (up ns) ≡ top ns
unfolding climb
top_up ns some =
    let k = length ns in
    let fits : length ns ≤ 2 ^ k = omega (arith, lt-two-pow k) in
    ap (λ (l : List Node). get_or l 0 (sha256 []))
    (sym (climb-top k (up ns) (omega (arith, length_up ns)) (omega (arith, length_up ns))) ∙ climb-top (suc k) ns some (omega arith))

pub top-more : (j : ℕ) (ns : List Node) → 2 ^ j < length ns → length ns ≤ 2 * 2 ^ j →
    top ns ≡ parent (top (take (2 ^ j) ns)) (top (drop (2 ^ j) ns))
unfolding climb up
top-more j ns more few =
    let xs = take (2 ^ j) ns in
    let ys = drop (2 ^ j) ns in
    let front : length xs ≡ 2 ^ j = length-take-le (2 ^ j) ns (omega arith) in
    let rest : length ys ≡ length ns - 2 ^ j = length-drop (2 ^ j) ns in
    let both : climb j ns ≡ top xs ∷ top ys ∷ [] =
    ap (climb j) (sym (take-append-drop (2 ^ j) ns))
    ∙ climb-append j xs ys front
    ∙ ap₂ (λ (l r : List Node). l ++ r) (climb-top j xs (omega arith) (omega arith)) (climb-top j ys (omega arith) (omega arith)) in
    ap (λ (l : List Node). get_or l 0 (sha256 []))
    (sym (climb-top (suc j) ns (omega arith) (omega arith)) ∙ climb-up j ns ∙ ap up both)

-- ---- every node is as long as nodes are; past the end a level reads as the hash of the empty message

abbrev pub Whole : List Node → Type 0
Whole ns = (i : ℕ) → length (get_or ns i (sha256 [])) ≡ node_bytes

pub leaves-whole : (chunks : List (List ℕ)) → Whole (map leaf chunks)
leaves-whole [] i = length-sha256 []
leaves-whole (c ∷ cs) zero = length-leaf c
leaves-whole (c ∷ cs) (suc i) = leaves-whole cs i

pub up-whole : (ns : List Node) → Whole ns → Whole (up ns)
unfolding up
up-whole [] h i = h i
up-whole (n ∷ []) h i = h i
up-whole (l ∷ r ∷ ns) h zero = length-parent l r
up-whole (l ∷ r ∷ ns) h (suc i) = up-whole ns (λ j. h (suc (suc j))) i

climb-whole : (k : ℕ) (ns : List Node) → Whole ns → Whole (climb k ns)
unfolding climb
climb-whole zero ns h = h
climb-whole (suc k) ns h = climb-whole k (up ns) (up-whole ns h)

pub length-top : (ns : List Node) → Whole ns → length (top ns) ≡ node_bytes
unfolding top
length-top ns h = climb-whole (length ns) ns h 0
