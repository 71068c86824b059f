-- Nodes as the code holds them: back to back in a buffer of bytes.
use Rattle.std.specs.Prelude.{ℕ, ◌*◌, ◌/◌, length}
use mathlib.Core.List.{List, flatten}
use Rattle.fips.specs.Bits.{pieces}
use Rattle.slices.specs.AtFront.{at_front}
use Rattle.slices.specs.Parts.{part, put_part}
use Rattle.treerule.specs.Root.{node_bytes, Node, up}

-- the bytes of two nodes, which have one parent
abbrev pub pair_bytes : ℕ
pair_bytes = 2 * node_bytes

-- the first nodes of a buffer, so many
abbrev pub held : ℕ → List ℕ → List Node
held count buffer = pieces node_bytes count buffer

-- the node at place i
abbrev pub node_at : ℕ → List ℕ → Node
node_at i buffer = part buffer (i * node_bytes) node_bytes

-- the buffer with a node there
abbrev pub put_node : ℕ → Node → List ℕ → List ℕ
put_node i node buffer = put_part (i * node_bytes) node_bytes node buffer

-- the buffer with the level above all its nodes at its front, and behind that as it was
unfoldable pub levelled : List ℕ → List ℕ
levelled buffer = at_front (flatten (up (held (length buffer / node_bytes) buffer))) buffer
