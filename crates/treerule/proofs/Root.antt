-- The root of a chunk tree: as long as a node (`length-root`), over nothing the empty message's hash (`root-empty`), over one chunk
-- its leaf (`root-one-chunk`); and RFC 6962's tree hash of the chunks: `root-tree-hash`, and by the RFC's rules alone `root-rfc6962`.
use Prim.Native.Nat.{ℕ, ◌<◌, ◌≤◌}
use mathlib.Core.List.{List, [], ◌∷◌, map, flatten}
use mathlib.Core.Path.{◌≡◌, refl, sym, ap, ◌∙◌}
use native.Mathlib.Omega.{arith}
use lib.ListN.{length}
use lib.Seq.{take_all}
use Rattle.fips.specs.Bits.{pieces}
use Rattle.treerule.specs.Root.{chunk_bytes, node_bytes, chunk_count, Node, sha256, chunks, leaf, climb, top, root}
use Rattle.treerule.specs.Split.{Rfc6962, tree_hash}
use Rattle.treerule.proofs.Levels.{leaves-whole, length-top, top_one}
use Rattle.treerule.proofs.Pieces.{length-pieces, pieces-flat}
use Rattle.treerule.proofs.Splits.{rfc6962-split, levels-split}

pub length-root : (bytes : List ℕ) → length (root bytes) ≡ node_bytes
unfolding root
length-root bytes = length-top (map leaf (chunks bytes)) (leaves-whole (chunks bytes))

pub root-empty : root [] ≡ sha256 []
unfolding root chunks pieces top climb
root-empty = refl

pub root_none : (bytes : List ℕ) → length bytes ≡ 0 → root bytes ≡ sha256 []
root_none [] e = root-empty
root_none (b ∷ bytes) e = absurd (omega arith)

pub length-chunks : (bytes : List ℕ) → length (chunks bytes) ≡ chunk_count (length bytes)
unfolding chunks
length-chunks bytes = length-pieces chunk_bytes (chunk_count (length bytes)) bytes

-- the chunks are the bytes, one after the other
pub chunks-join : (bytes : List ℕ) → flatten (chunks bytes) ≡ bytes
unfolding chunks
chunks-join bytes = pieces-flat chunk_bytes (chunk_count (length bytes)) bytes (omega arith)

-- bytes that are no more than a chunk, and none
pub chunks-one : (bytes : List ℕ) → 0 < length bytes → length bytes ≤ chunk_bytes → chunks bytes ≡ bytes ∷ []
unfolding chunks pieces
chunks-one bytes some few =
    let one : chunk_count (length bytes) ≡ 1 = omega arith in
    ap (λ (n : ℕ). pieces chunk_bytes n bytes) one ∙ ap (λ (chunk : List ℕ). chunk ∷ []) (take_all chunk_bytes bytes few)

pub chunks-none : (bytes : List ℕ) → length bytes ≡ 0 → chunks bytes ≡ []
unfolding chunks pieces
chunks-none bytes none =
    let zero : chunk_count (length bytes) ≡ 0 = omega arith in
    ap (λ (n : ℕ). pieces chunk_bytes n bytes) zero

pub root-one-chunk : (bytes : List ℕ) → 0 < length bytes → length bytes ≤ chunk_bytes → root bytes ≡ leaf bytes
unfolding root
root-one-chunk bytes some few =
    ap (λ (entries : List (List ℕ)). top (map leaf entries)) (chunks-one bytes some few) ∙ top_one (leaf bytes)

pub root-tree-hash : (bytes : List ℕ) → root bytes ≡ tree_hash (chunks bytes)
unfolding root tree_hash
root-tree-hash bytes = levels-split (map leaf (chunks bytes))

pub root-rfc6962 : {hash : List (List ℕ) → Node} → Rfc6962 leaf hash → (bytes : List ℕ) → root bytes ≡ hash (chunks bytes)
unfolding tree_hash
root-rfc6962 rule bytes = root-tree-hash bytes ∙ sym (rfc6962-split rule (chunks bytes))
