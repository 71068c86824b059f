-- Nodes held back to back in a buffer: one put behind those held (`held-put`), their bytes (`flat-held`), and what bytes hold that are made
-- of nodes (`held-flat`). The level above them, put at the front: `held-levelled`, and what it begins with: `up-lone`, `up-pair`.
use Prim.Native.Nat.{ℕ, zero, suc, ◌+◌, ◌-◌, ◌*◌, ◌/◌, ◌<◌, ◌≤◌}
use mathlib.Core.List.{List, [], ◌∷◌, ◌++◌, append_assoc, flatten}
use mathlib.Core.Path.{◌≡◌, refl, sym, ap, ap₂, ◌∙◌}
use native.Mathlib.Omega.{arith}
use lib.ListN.{length, take, drop, length-append, length-drop, take-append-drop}
use lib.Seq.{length-take-le, take_at, drop_at, drop-drop}
use Rattle.slices.specs.AtFront.{at_front}
use Rattle.slices.proofs.AtFront.{length-at_front, at_front-room}
use Rattle.slices.proofs.Parts.{part-put}
use Rattle.fips.specs.Bits.{pieces}
use Rattle.treerule.specs.Root.{node_bytes, Node, parent, up}
use Rattle.treerule.proofs.Hashes.{length-sha256}
use Rattle.treerule.proofs.Pieces.{length-pieces, pieces-snoc, pieces-front, pieces-flat}
use Rattle.treerule.proofs.Levels.{length_up, Whole, up-whole}
use Rattle.tree.specs.Code.Held.{held, put_node, levelled}

-- a node put behind those held: they stay, and it follows them
pub held-put : (i : ℕ) (node : Node) (buffer : List ℕ) → length node ≡ node_bytes → i * node_bytes + node_bytes ≤ length buffer →
    held (suc i) (put_node i node buffer) ≡ held i buffer ++ (node ∷ [])
held-put i node buffer whole room =
    let at = i * node_bytes in
    let front = take at buffer in
    let long : length front ≡ at = length-take-le at buffer (omega arith) in
    let before : held i (put_node i node buffer) ≡ held i buffer =
    pieces-front node_bytes i front (node ++ drop node_bytes (drop at buffer)) (omega arith)
    ∙ sym (pieces-front node_bytes i front (drop at buffer) (omega arith))
    ∙ ap (held i) (take-append-drop at buffer) in
    pieces-snoc node_bytes i (put_node i node buffer)
    ∙ ap₂ (λ (ns : List Node) (n : Node). ns ++ (n ∷ [])) before (part-put at node_bytes node buffer whole room)

-- ---- nodes and their bytes

pub flat-held : (i : ℕ) (buffer : List ℕ) → i * node_bytes ≤ length buffer → flatten (held i buffer) ≡ take (i * node_bytes) buffer
flat-held i buffer room =
    let front = take (i * node_bytes) buffer in
    let long : length front ≡ i * node_bytes = length-take-le (i * node_bytes) buffer room in
    ap flatten
    (ap (held i) (sym (take-append-drop (i * node_bytes) buffer))
    ∙ pieces-front node_bytes i front (drop (i * node_bytes) buffer) (omega arith))
    ∙ pieces-flat node_bytes i front (omega arith)

pub held_whole : (i : ℕ) (buffer : List ℕ) → i * node_bytes ≤ length buffer → Whole (held i buffer)
unfolding pieces
held_whole zero buffer room k = length-sha256 []
held_whole (suc i) buffer room zero = length-take-le node_bytes buffer (omega arith)
held_whole (suc i) buffer room (suc k) = held_whole i (drop node_bytes buffer) (simp length-drop (omega arith)) k

pub length-flat : (ns : List Node) → Whole ns → length (flatten ns) ≡ length ns * node_bytes
unfolding flatten
length-flat [] whole = refl
length-flat (n ∷ ns) whole =
    length-append n (flatten ns) ∙ omega (arith, whole 0, length-flat ns (λ i. whole (suc i)))

pub held-flat : (ns : List Node) (rest : List ℕ) → Whole ns → held (length ns) (flatten ns ++ rest) ≡ ns
unfolding pieces flatten
held-flat [] rest whole = refl
held-flat (n ∷ ns) rest whole =
    let more = flatten ns ++ rest in
    rw (append_assoc n (flatten ns) rest, take_at n more node_bytes (whole 0), drop_at n more node_bytes (whole 0))
    (ap (λ (l : List Node). n ∷ l) (held-flat ns rest (λ i. whole (suc i))))

-- ---- the level above

pub length-levelled : (buffer : List ℕ) → length (levelled buffer) ≡ length buffer
unfolding levelled
length-levelled buffer = length-at_front (flatten (up (held (length buffer / node_bytes) buffer))) buffer

-- all nodes of a part are replaced by the level above them, whatever follows the part
pub held-levelled : (count : ℕ) (part rest : List ℕ) → length part ≡ count * node_bytes →
    held ((count + 1) / 2) (levelled part ++ rest) ≡ up (held count part)
unfolding levelled
held-levelled count part rest long =
    let above = up (held count part) in
    let whole : Whole above = up-whole (held count part) (held_whole count part (omega arith)) in
    let many : length above ≡ (count + 1) / 2 =
    length_up (held count part) ∙ ap (λ (n : ℕ). (n + 1) / 2) (length-pieces node_bytes count part) in
    let all : length part / node_bytes ≡ count = omega arith in
    let room : length (flatten above) ≤ length part = omega (arith, length-flat above whole) in
    ap (λ (n : ℕ). held ((count + 1) / 2) (at_front (flatten (up (held n part))) part ++ rest)) all
    ∙ ap₂ (λ (n : ℕ) (l : List ℕ). held n (l ++ rest)) (sym many) (at_front-room (flatten above) part room)
    ∙ ap (held (length above)) (append_assoc (flatten above) (drop (length (flatten above)) part) rest)
    ∙ held-flat above (drop (length (flatten above)) part ++ rest) whole

-- what it begins with, and the rest of it above the rest of the nodes, where these are pieces: a lone one, or two
pub up-lone : (n k : ℕ) (xs : List ℕ) → k ≡ 1 → up (pieces n k xs) ≡ take n xs ∷ up (pieces n (k - 2) (drop (n + n) xs))
unfolding up pieces
up-lone n k xs e = rw e

pub up-pair : (n k : ℕ) (xs : List ℕ) → 1 < k →
    up (pieces n k xs) ≡ parent (take n xs) (take n (drop n xs)) ∷ up (pieces n (k - 2) (drop (n + n) xs))
unfolding up pieces
up-pair n zero xs h = absurd (omega arith)
up-pair n (suc zero) xs h = absurd (omega arith)
up-pair n (suc (suc k)) xs h =
    let e : suc (suc k) - 2 ≡ k = omega arith in
    rw (e, ← drop-drop n n xs)
