-- A level computed in place, the leaves put one after the other, and level after level: the invariants of the loops, and their turns.
-- What is done and what is left decide: the nodes written so far, and the nodes that the rest of the bytes gives. `root-steps`: the leaves
-- of all chunks, and the node above them, make the root.
use Prim.Native.Nat.{ℕ, suc, ◌+◌, ◌-◌, ◌*◌, ◌/◌, ◌<◌, ◌≤◌, min}
use mathlib.Core.List.{List, [], ◌∷◌, ◌++◌, map, append-nil, flatten}
use mathlib.Core.Path.{◌≡◌, refl, sym, ap, ap₂, subst⁻¹, ◌∙◌}
use native.Mathlib.Nat.{sub-zero}
use native.Mathlib.Numerals.{add-one}
use native.Mathlib.Omega.{arith}
use lib.ListN.{length, take, drop, length-append, length-drop, take-append-drop}
use lib.Seq.{append_snoc, drop-drop, take_all, take_at, drop_at, length-take-le}
use Rattle.slices.proofs.AtFront.{at_front-room}
use Rattle.slices.proofs.Parts.{length-put-in, drop-put}
use Rattle.fips.specs.Bits.{pieces}
use Rattle.treerule.specs.Root.{chunk_bytes, node_bytes, chunk_count, Node, chunks, leaf, parent, up, top, root}
use Rattle.treerule.proofs.Pieces.{length-pieces, pieces-front}
use Rattle.treerule.proofs.Root.{chunks-one, chunks-none}
use Rattle.treerule.proofs.Levels.{top_one, top_up}
use Rattle.tree.specs.Code.Held.{pair_bytes, held, node_at, put_node, levelled}
use Rattle.tree.proofs.Held.{held-put, flat-held, held-levelled, length-levelled, up-lone, up-pair}

-- one node more at the end of those that are done, and one fewer in the rest
moved : (i : ℕ) (node : Node) (buffer : List ℕ) (rest : List Node) →
    length node ≡ node_bytes → i * node_bytes + node_bytes ≤ length buffer →
    held (i + 1) (put_node i node buffer) ++ rest ≡ held i buffer ++ (node ∷ rest)
moved i node buffer rest whole room =
    rw (add-one, held-put i node buffer whole room) (append_snoc (held i buffer) node rest)

-- ---- one level up

-- j nodes of the level above are in place, and nothing behind them is touched
pub record Raised (old : List ℕ) (count : ℕ) (buffer : List ℕ) (j : ℕ) : Type 0 where
  pub long : length buffer ≡ length old
  pub within : 2 * j ≤ count + 1
  pub kept : drop (j * node_bytes) buffer ≡ drop (j * node_bytes) old
  pub nodes : held j buffer ++ up (held (count - 2 * j) (drop (2 * j * node_bytes) buffer)) ≡ up (held count old)

pub raised-none : (old : List ℕ) (count : ℕ) → Raised old count old 0
unfolding pieces
raised-none old count = record { long = refl; within = omega arith; kept = refl; nodes = rw sub-zero }

-- one more, which the level above the rest begins with
raised-more : (old : List ℕ) (count : ℕ) (buffer : List ℕ) (j : ℕ) {node first : Node} {new : List ℕ} →
    let k = count - 2 * j in
    let left = drop (2 * j * node_bytes) buffer in
    count * node_bytes ≤ length old → 2 * j < count → Raised old count buffer j → length node ≡ node_bytes → node ≡ first →
    up (held k left) ≡ first ∷ up (held (k - 2) (drop pair_bytes left)) → new ≡ put_node j node buffer → Raised old count new (j + 1)
raised-more old count buffer j {node} {first} room h r whole is begins put =
    let at = 2 * j * node_bytes in
    let k = count - 2 * j in
    let left = drop pair_bytes (drop at buffer) in
    let fewer : count - 2 * (j + 1) ≡ k - 2 = omega arith in
    let on : 2 * (j + 1) * node_bytes ≡ at + pair_bytes = omega arith in
    let next : (j + 1) * node_bytes ≡ j * node_bytes + node_bytes = omega arith in
    let space : j * node_bytes + node_bytes ≤ length buffer = omega (arith, r.long) in
    let rest : drop (2 * (j + 1) * node_bytes) (put_node j node buffer) ≡ left =
    drop-put (j * node_bytes) node_bytes node buffer whole space (2 * (j + 1) * node_bytes) (omega arith)
    ∙ ap (λ (n : ℕ). drop n buffer) on ∙ sym (drop-drop pair_bytes at buffer) in
    subst⁻¹ (λ (b : List ℕ). Raised old count b (j + 1)) put
    (record {
      long = length-put-in (j * node_bytes) node_bytes node buffer whole space ∙ r.long;
      within = omega arith;
      kept =
          drop-put (j * node_bytes) node_bytes node buffer whole space ((j + 1) * node_bytes) (omega arith)
          ∙ ap (λ (n : ℕ). drop n buffer) next
          ∙ sym (drop-drop node_bytes (j * node_bytes) buffer)
          ∙ ap (drop node_bytes) r.kept
          ∙ drop-drop node_bytes (j * node_bytes) old
          ∙ ap (λ (n : ℕ). drop n old) (sym next);
      nodes =
          ap₂ (λ (n : ℕ) (l : List ℕ). held (j + 1) (put_node j node buffer) ++ up (held n l)) fewer rest
          ∙ moved j node buffer (up (held (k - 2) left)) whole space
          ∙ ap (λ (ns : List Node). held j buffer ++ ns) (ap (λ (n : Node). n ∷ up (held (k - 2) left)) is ∙ sym begins)
          ∙ r.nodes;
    })

-- two nodes have their parent
pub raised-pair : (old : List ℕ) (count : ℕ) (buffer : List ℕ) (j : ℕ) {l r node : Node} {new : List ℕ} →
    count * node_bytes ≤ length old → 2 * j + 1 < count → Raised old count buffer j → length node ≡ node_bytes →
    l ≡ node_at (2 * j) buffer → r ≡ node_at (2 * j + 1) buffer → node ≡ parent l r → new ≡ put_node j node buffer →
    Raised old count new (j + 1)
raised-pair old count buffer j room h raised whole is_left is_right is put =
    let at = 2 * j * node_bytes in
    let second : (2 * j + 1) * node_bytes ≡ at + node_bytes = omega arith in
    let behind = ap (λ (n : ℕ). take node_bytes (drop n buffer)) second ∙ ap (take node_bytes) (sym (drop-drop node_bytes at buffer)) in
    raised-more old count buffer j room (omega arith) raised whole (is ∙ ap₂ parent is_left (is_right ∙ behind))
    (up-pair node_bytes (count - 2 * j) (drop at buffer) (omega arith)) put

-- a lone last node is carried up
pub raised-lone : (old : List ℕ) (count : ℕ) (buffer : List ℕ) (j : ℕ) {node : Node} {new : List ℕ} →
    count * node_bytes ≤ length old → 2 * j < count → count ≤ 2 * j + 1 → Raised old count buffer j → length node ≡ node_bytes →
    node ≡ node_at (2 * j) buffer → new ≡ put_node j node buffer → Raised old count new (j + 1)
raised-lone old count buffer j room h last raised whole is put =
    raised-more old count buffer j room h raised whole is
    (up-lone node_bytes (count - 2 * j) (drop (2 * j * node_bytes) buffer) (omega arith)) put

-- all of them: what was held is replaced by the level above it
pub raised_all : (old buffer : List ℕ) (j : ℕ) → length old / node_bytes ≤ 2 * j → Raised old (length old / node_bytes) buffer j →
    buffer ≡ levelled old
unfolding up pieces levelled
raised_all old buffer j h r =
    let count = length old / node_bytes in
    let above = flatten (up (held count old)) in
    let z : count - 2 * j ≡ 0 = omega arith in
    let room : j * node_bytes ≤ length buffer = omega (arith, r.long, r.within) in
    let nodes : held j buffer ≡ up (held count old) =
    sym (append-nil (held j buffer))
    ∙ ap (λ (n : ℕ). held j buffer ++ up (held n (drop (2 * j * node_bytes) buffer))) (sym z)
    ∙ r.nodes in
    let front : take (j * node_bytes) buffer ≡ above = sym (flat-held j buffer room) ∙ ap flatten nodes in
    let long : j * node_bytes ≡ length above = sym (length-take-le (j * node_bytes) buffer room) ∙ ap length front in
    sym (take-append-drop (j * node_bytes) buffer)
    ∙ ap₂ (λ (l m : List ℕ). l ++ m) front (r.kept ∙ ap (λ (n : ℕ). drop n old) long)
    ∙ sym (at_front-room above old (omega (arith, r.long)))

-- ---- the leaves

-- a chunk, or all that is left, and what follows it
chunks-more : (chunk rest : List ℕ) → length chunk ≡ min chunk_bytes (length (chunk ++ rest)) → 0 < length (chunk ++ rest) →
    chunks (chunk ++ rest) ≡ chunk ∷ chunks rest
unfolding chunks pieces
chunks-more chunk [] few some =
    let all = append-nil chunk in
    let size : length (chunk ++ []) ≡ length chunk = ap length all in
    ap chunks all ∙ chunks-one chunk (omega arith) (omega arith) ∙ ap (λ (l : List (List ℕ)). chunk ∷ l) (sym (chunks-none [] refl))
chunks-more chunk (x ∷ xs) few some =
    let rest = x ∷ xs in
    let size = length-append chunk rest in
    let whole : length chunk ≡ chunk_bytes = omega arith in
    let one : chunk_count (length (chunk ++ rest)) ≡ suc (chunk_count (length rest)) = omega arith in
    ap (λ (k : ℕ). pieces chunk_bytes k (chunk ++ rest)) one
    ∙ ap₂ (λ (c l : List ℕ). c ∷ pieces chunk_bytes (chunk_count (length rest)) l)
    (take_at chunk rest chunk_bytes whole) (drop_at chunk rest chunk_bytes whole)

-- i leaves are in place, and these bytes are left
pub record Leaved (bytes buffer left : List ℕ) (i : ℕ) : Type 0 where
  pub count : i + chunk_count (length left) ≡ chunk_count (length bytes)
  pub nodes : held i buffer ++ map leaf (chunks left) ≡ map leaf (chunks bytes)

pub leaved-none : (bytes buffer left : List ℕ) (i : ℕ) → left ≡ bytes → i ≡ 0 → Leaved bytes buffer left i
unfolding pieces
leaved-none bytes buffer left i is_left none =
    record {
      count = omega (arith, ap length is_left);
      nodes = ap₂ (λ (n : ℕ) (l : List ℕ). held n buffer ++ map leaf (chunks l)) none is_left;
    }

-- one chunk more
module _ {bytes buffer left : List ℕ} {i : ℕ} (room : chunk_count (length bytes) * node_bytes ≤ length buffer)
    (r : Leaved bytes buffer left i) (chunk rest : List ℕ) (is_left : left ≡ chunk ++ rest)
    (size : length chunk ≡ min chunk_bytes (length left)) (some : 0 < length left) where
  pub leaved-room : i * node_bytes + node_bytes ≤ length buffer
  leaved-room = omega (arith, r.count)

  pub leaved-more : (k j : ℕ) {node next : List ℕ} → k ≡ i → j ≡ i + 1 → length node ≡ node_bytes → node ≡ leaf (take chunk_bytes chunk) →
      next ≡ put_node k node buffer → Leaved bytes next rest j
  leaved-more k j {node} {next} is_k is_j whole is_node put =
      let leaves : map leaf (chunks left) ≡ node ∷ map leaf (chunks rest) =
      ap (λ (l : List ℕ). map leaf (chunks l)) is_left
      ∙ ap (map leaf) (chunks-more chunk rest (rw (sym is_left) size) (rw (sym is_left) some))
      ∙ ap (λ (n : Node). n ∷ map leaf (chunks rest))
      (sym (is_node ∙ ap leaf (take_all chunk_bytes chunk (omega arith)))) in
      record {
        count = omega (arith, r.count, ap length is_left, length-append chunk rest);
        nodes =
            ap₂ (λ (n : ℕ) (b : List ℕ). held n b ++ map leaf (chunks rest)) is_j
            (put ∙ ap (λ (n : ℕ). put_node n node buffer) is_k)
            ∙ moved i node buffer (map leaf (chunks rest)) whole leaved-room
            ∙ ap (λ (l : List Node). held i buffer ++ l) (sym leaves)
            ∙ r.nodes;
      }

pub leaved-all : {bytes buffer left : List ℕ} {i : ℕ} → Leaved bytes buffer left i → length left ≡ 0 →
    held (chunk_count (length bytes)) buffer ≡ map leaf (chunks bytes)
leaved-all {bytes} {buffer} {left} {i} r none =
    let all : chunk_count (length bytes) ≡ i = omega (arith, r.count) in
    ap (λ (n : ℕ). held n buffer) all
    ∙ sym (append-nil (held i buffer))
    ∙ ap (λ (l : List (List ℕ)). held i buffer ++ map leaf l) (sym (chunks-none left none))
    ∙ r.nodes

-- ---- level after level

-- so many nodes are left, with the same node above them all
pub record Climbed (old : List ℕ) (count : ℕ) (buffer : List ℕ) (left : ℕ) : Type 0 where
  pub long : length buffer ≡ length old
  pub some : 0 < left
  pub within : left ≤ count
  pub above : top (held left buffer) ≡ top (held count old)

pub climbed-none : (old : List ℕ) (count : ℕ) → 0 < count → Climbed old count old count
climbed-none old count h = record { long = refl; some = h; within = omega arith; above = refl }

-- the nodes that are left are lent as a part, which comes back as the level above them
pub climbed-more : (old : List ℕ) (count : ℕ) (buffer : List ℕ) (left : ℕ) {part : List ℕ} {half : ℕ} →
    count * node_bytes ≤ length old → 1 < left → Climbed old count buffer left → part ≡ levelled (take (left * node_bytes) buffer) →
    half ≡ (left + 1) / 2 → Climbed old count (part ++ drop (left * node_bytes) buffer) half
climbed-more old count buffer left {part} room h r is is_half =
    let front = take (left * node_bytes) buffer in
    let rest = drop (left * node_bytes) buffer in
    let long : length front ≡ left * node_bytes = length-take-le (left * node_bytes) buffer (omega (arith, r.long, r.within)) in
    let same : length part ≡ length front = ap length is ∙ length-levelled front in
    let nodes : held left front ≡ held left buffer =
    sym (pieces-front node_bytes left front rest (omega arith)) ∙ ap (held left) (take-append-drop (left * node_bytes) buffer) in
    record {
      long = length-append part rest ∙ omega (arith, length-drop (left * node_bytes) buffer, r.long);
      some = omega arith;
      within = omega (arith, r.within);
      above =
          ap₂ (λ (n : ℕ) (l : List ℕ). top (held n (l ++ rest))) is_half is
          ∙ ap top (held-levelled left front rest long ∙ ap up nodes)
          ∙ top_up (held left buffer) (rw (length-pieces node_bytes left buffer) r.some)
          ∙ r.above;
    }

pub climbed-all : (old : List ℕ) (count : ℕ) (buffer : List ℕ) (left : ℕ) → left ≤ 1 → Climbed old count buffer left →
    take node_bytes buffer ≡ top (held count old)
unfolding pieces
climbed-all old count buffer left h r =
    let one : 1 ≡ left = omega (arith, r.some) in
    sym (top_one (take node_bytes buffer)) ∙ ap (λ (n : ℕ). top (held n buffer)) one ∙ r.above

-- ---- the steps that the code takes: the leaves of all chunks in a buffer, and the node above them

pub root-steps : (bytes leaves : List ℕ) {r : Node} →
    held (chunk_count (length bytes)) leaves ≡ map leaf (pieces chunk_bytes (chunk_count (length bytes)) bytes) →
    r ≡ top (held (chunk_count (length bytes)) leaves) → r ≡ root bytes
unfolding root chunks
root-steps bytes leaves placed above = above ∙ ap top placed
