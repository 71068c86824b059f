-- The chunk tree of a list of bytes, SPEC, "Chunk tree": leaves over its chunks, and levels of parents up to the root.
-- Main definition: `root`. The rule of a level is `up`, and nothing else says it. Leaf and parent are RFC 6962's, section 2.1.
use Rattle.std.specs.Prelude.{ℕ, zero, suc, ◌+◌, ◌-◌, ◌/◌, List, [], ◌∷◌, ◌++◌, map, length, get_or}
use Rattle.fips.specs.Bits.{pieces}
use Rattle.fips.specs.Message.{message}
use Rattle.fips.specs.Editions.{digest}

-- the bytes of a chunk
abbrev pub chunk_bytes : ℕ
chunk_bytes = 1024

-- a node is a hash of that edition, of so many bytes
abbrev pub node_edition : ℕ
node_edition = 2

abbrev pub node_bytes : ℕ
node_bytes = 32

abbrev pub Node : Type 0
Node = List ℕ

-- the hash of whole bytes
unfoldable pub sha256 : List ℕ → Node
sha256 bytes = digest node_edition (message bytes 0 0)

-- how many chunks so many bytes make, counting one that they do not fill
abbrev pub chunk_count : ℕ → ℕ
chunk_count n = (n + (chunk_bytes - 1)) / chunk_bytes

-- the chunks, the last of what is left
unfoldable pub chunks : List ℕ → List (List ℕ)
chunks bytes = pieces chunk_bytes (chunk_count (length bytes)) bytes

-- §2.1: a chunk's node; its message begins with 0, so that it is never a parent's
unfoldable pub leaf : List ℕ → Node
leaf chunk = sha256 (0 ∷ chunk)

-- §2.1: the node above two
unfoldable pub parent : Node → Node → Node
parent left right = sha256 (1 ∷ (left ++ right))

-- one level up: two by two from the front, and a lone last node is carried up unchanged
unfoldable pub up : List Node → List Node
up [] = []
up (n ∷ []) = n ∷ []
up (l ∷ r ∷ ns) = parent l r ∷ up ns

-- k levels up; one node that is left alone stays
unfoldable pub climb : ℕ → List Node → List Node
climb zero ns = ns
climb (suc k) ns = climb k (up ns)

-- the one node above all; as many levels as there are nodes suffice. Above no nodes it is what no bytes hash to
unfoldable pub top : List Node → Node
top ns = get_or (climb (length ns) ns) 0 (sha256 [])

-- the root of the tree over the chunks of the bytes
unfoldable pub root : List ℕ → Node
root bytes = top (map leaf (chunks bytes))
