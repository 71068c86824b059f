-- A leaf more, and leaves more, in the buffer of roots: `push-law`; `Grown` is the loop's invariant, with its turns.
use Prim.Native.Nat.{ℕ, suc, ◌+◌, ◌-◌, ◌*◌, ◌/◌, ◌<◌, ◌≤◌}
use mathlib.Core.List.{List, [], ◌∷◌, ◌++◌, append-nil, map}
use mathlib.Core.Path.{◌≡◌, refl, sym, ap, ap₂, subst, ◌∙◌}
use native.Mathlib.Omega.{arith}
use lib.Count.{ones}
use lib.ListN.{length, take, drop, length-append, length-drop, drop_of_length-le}
use Rattle.slices.specs.AtFront.{at_front}
use Rattle.slices.specs.Parts.{put_part}
use Rattle.slices.proofs.AtFront.{at_front-room}
use Rattle.slices.proofs.Parts.{part_to, part-all}
use Rattle.fips.specs.Bits.{pieces}
use Rattle.treerule.specs.Root.{chunk_bytes, node_bytes, Node, leaf}
use Rattle.treerule.proofs.Pieces.{length-pieces, pieces-take, pieces-drop}
use Rattle.tree.specs.Code.Held.{held}
use Rattle.tree.proofs.Held.{held-put}
use Rattle.streamrule.specs.Held.{folded, ones_at_end, joined, pushed, grown}
use Rattle.streamrule.proofs.Ones.{ends-le, ones-next}
use Rattle.stream.specs.State.{most_chunks, root_room, roots_in}
use Rattle.stream.specs.Steps.{finished}
use Rattle.stream.proofs.Limits.{few-roots}
use Rattle.stream.proofs.Adding.{finished-append, finished-none}
use Rattle.stream.proofs.Folding.{above}

-- bytes written from a place on, as the part comes back
put-behind : (at : ℕ) (xs node : List ℕ) {y : List ℕ} → at + length node ≤ length xs → y ≡ at_front node (part_to at xs) →
    put_part at (length xs - at) y xs ≡ put_part at (length node) node xs
put-behind at xs node {y} room e =
    let behind = drop at xs in
    let long : length behind ≡ length xs - at = length-drop at xs in
    ap₂ (λ (l r : List ℕ). take at xs ++ (l ++ r))
    (e ∙ ap (at_front node) (part-all at xs) ∙ at_front-room node behind (omega arith))
    (drop_of_length-le behind {i = length xs - at} (omega arith))
    ∙ ap (λ (l : List ℕ). take at xs ++ l) (append-nil (node ++ drop (length node) behind))

-- the roots that stay, and the one that the others and the leaf become
joined-held : (k to : ℕ) (buffer : List ℕ) (leaf : Node) → k ≤ to →
    joined k (held to buffer) leaf ≡ held (to - k) buffer ++ (above buffer (to - k) to leaf ∷ [])
unfolding joined
joined-held k to buffer leaf few =
    let stay : length (held to buffer) - k ≡ to - k = ap (λ (n : ℕ). n - k) (length-pieces node_bytes to buffer) in
    ap (λ (s : ℕ). take s (held to buffer) ++ (folded (drop s (held to buffer) ++ (leaf ∷ [])) ∷ [])) stay
    ∙ ap₂ (λ (a b : List Node). a ++ (folded (b ++ (leaf ∷ [])) ∷ []))
    (pieces-take node_bytes (to - k) to buffer (omega arith)) (pieces-drop node_bytes (to - k) to buffer (omega arith))

-- the two counts of a push: where the new root comes to stand there is room for it
pub record Places (to k : ℕ) : Type 0 where
  pub ends : k ≤ to
  pub most : to ≤ 32
  pub room : suc (to - k) ≤ 32

pub places : (n to k : ℕ) → n < most_chunks → to ≡ ones n → k ≡ ones_at_end n → Places to k
places n to k most is_to is_k =
    let few = few-roots n (omega arith) in
    let next = few-roots (suc n) (omega arith) in
    let sum = ones-next n in
    record { ends = omega (arith, ends-le n); most = omega arith; room = omega (arith, ends-le n) }

pub push-law : (buffer : List ℕ) (n to k : ℕ) (leaf : Node) {node y : List ℕ} → Places to k → length buffer ≡ root_room →
    to ≡ ones n → k ≡ ones_at_end n → length node ≡ node_bytes → node ≡ above buffer (to - k) to leaf →
    y ≡ at_front node (part_to ((to - k) * node_bytes) buffer) →
    roots_in (suc n) (put_part ((to - k) * node_bytes) (length buffer - (to - k) * node_bytes) y buffer)
    ≡ pushed n (roots_in n buffer) leaf
unfolding pushed
push-law buffer n to k leaf {node} p room is_to is_k long is_node is_y =
    let from = to - k in
    let few = p.room in
    let one : ones (suc n) ≡ suc from = omega (arith, ones-next n, p.ends) in
    ap₂ (λ (c : ℕ) (l : List ℕ). held c l) one
    (put-behind (from * node_bytes) buffer node (omega arith) is_y
    ∙ ap (λ (c : ℕ). put_part (from * node_bytes) c node buffer) long)
    ∙ held-put from node buffer long (omega arith)
    ∙ ap (λ (l : Node). held from buffer ++ (l ∷ [])) is_node
    ∙ sym (ap₂ (λ (a b : ℕ). joined a (held b buffer) leaf) (sym is_k) (sym is_to) ∙ joined-held k to buffer leaf p.ends)

-- ---- leaves more

-- i chunks are taken, and these bytes are left
pub record Grown (bytes : List ℕ) (chunks : ℕ) (buffer₀ buffer left : List ℕ) (i : ℕ) : Type 0 where
  pub count : i + length left / chunk_bytes ≡ length bytes / chunk_bytes
  pub long : length buffer ≡ length buffer₀
  pub is : grown (chunks + i) (roots_in (chunks + i) buffer) (finished left) ≡ grown chunks (roots_in chunks buffer₀) (finished bytes)

pub grown-start : (bytes : List ℕ) (chunks : ℕ) (buffer left : List ℕ) (i : ℕ) → left ≡ bytes → i ≡ 0 →
    Grown bytes chunks buffer buffer left i
grown-start bytes chunks buffer left i is_left none =
    let from : chunks + i ≡ chunks = omega arith in
    record {
      count = omega (arith, ap length is_left);
      long = refl;
      is = ap₂ (λ (n : ℕ) (l : List ℕ). grown n (roots_in n buffer) (finished l)) from is_left;
    }

finished-one : (chunk : List ℕ) → length chunk ≡ chunk_bytes → finished chunk ≡ leaf (take chunk_bytes chunk) ∷ []
unfolding finished pieces
finished-one chunk whole =
    let one : length chunk / chunk_bytes ≡ 1 = omega arith in
    ap (λ (n : ℕ). map leaf (pieces chunk_bytes n chunk)) one

-- one chunk more
module _ {bytes : List ℕ} {chunks : ℕ} {buffer₀ buffer left : List ℕ} {i : ℕ} (g : Grown bytes chunks buffer₀ buffer left i)
    (chunk rest : List ℕ) (is_left : left ≡ chunk ++ rest) (whole : length chunk ≡ chunk_bytes) where
  pub grown-room : i < length bytes / chunk_bytes
  grown-room = omega (arith, g.count, ap length is_left, length-append chunk rest)

  pub grown-more : (k j : ℕ) {node next : List ℕ} → k ≡ i → j ≡ i + 1 → node ≡ leaf (take chunk_bytes chunk) →
      roots_in (suc (chunks + k)) next ≡ pushed (chunks + k) (roots_in (chunks + k) buffer) node → length next ≡ length buffer →
      Grown bytes chunks buffer₀ next rest j
  unfolding grown
  grown-more k j {node} {next} is_k is_j is_node is_next long =
      let n = chunks + i in
      let on : chunks + j ≡ suc n = omega arith in
      let pushes : roots_in (suc n) next ≡ pushed n (roots_in n buffer) node =
      subst (λ (m : ℕ). roots_in (suc (chunks + m)) next ≡ pushed (chunks + m) (roots_in (chunks + m) buffer) node) is_k is_next in
      let leaves : finished left ≡ node ∷ finished rest =
      ap finished is_left
      ∙ finished-append chunk rest (omega arith)
      ∙ ap (λ (l : List Node). l ++ finished rest) (finished-one chunk whole ∙ ap (λ (m : Node). m ∷ []) (sym is_node)) in
      record {
        count = omega (arith, g.count, ap length is_left, length-append chunk rest);
        long = long ∙ g.long;
        is =
            ap (λ (m : ℕ). grown m (roots_in m next) (finished rest)) on
            ∙ ap (λ (r : List Node). grown (suc n) r (finished rest)) pushes
            ∙ ap (grown n (roots_in n buffer)) (sym leaves)
            ∙ g.is;
      }

pub grown-end : {bytes : List ℕ} {chunks : ℕ} {buffer₀ buffer left : List ℕ} {i : ℕ} → Grown bytes chunks buffer₀ buffer left i →
    length left < chunk_bytes →
    roots_in (chunks + length bytes / chunk_bytes) buffer ≡ grown chunks (roots_in chunks buffer₀) (finished bytes)
unfolding grown
grown-end {bytes} {chunks} {buffer₀} {buffer} {left} {i} g few =
    let all : length bytes / chunk_bytes ≡ i = omega (arith, g.count) in
    ap (λ (n : ℕ). roots_in (chunks + n) buffer) all
    ∙ sym (ap (grown (chunks + i) (roots_in (chunks + i) buffer)) (finished-none left few))
    ∙ g.is
