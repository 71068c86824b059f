-- What becomes of a stream: a piece more, and its root. Both ask first whether it is sound. `stream_of` is the stream that a message leads
-- to. SPEC, "Tree over a stream".
use Rattle.std.specs.Prelude.{ℕ, ◌+◌, ◌*◌, ◌/◌, not, List, [], ◌∷◌, ◌++◌, map, ltb, length}
use Rattle.answers.specs.Judged.{Test, ◌when◌}
use Rattle.slices.specs.Blocks.{rest}
use Rattle.fips.specs.Bits.{pieces}
use Rattle.treerule.specs.Root.{chunk_bytes, node_bytes, Node, leaf, chunks}
use Rattle.streamrule.specs.Held.{subtrees, folded, grown}
use Rattle.stream.specs.declared.Stream.{Stream}
use Rattle.stream.specs.State.{most_chunks, state_of, held, bytes_of, sound}

-- the leaves of the finished chunks of bytes
unfoldable pub finished : List ℕ → List Node
finished bytes = map leaf (pieces chunk_bytes (length bytes / chunk_bytes) bytes)

-- the stream that bytes lead to: the roots of the full subtrees over their finished chunks, and the rest
unfoldable pub stream_of : List ℕ → Stream
stream_of bytes = state_of (length bytes / chunk_bytes) (subtrees (finished bytes)) (rest chunk_bytes bytes)

-- 2^42 bytes
abbrev pub stream_limit : ℕ
stream_limit = most_chunks * chunk_bytes

module _ (s : Stream) where
  -- the bytes taken
  abbrev pub taken : ℕ
  taken = s.chunks * chunk_bytes + s.further

  -- ---- add: 6, 7

  unfoldable pub add_tests : List ℕ → List Test
  add_tests piece = 6 when not (sound s) ∷ 7 when ltb stream_limit (taken + length piece) ∷ []

  -- the bytes after the finished chunks, once the piece has come
  abbrev pub waiting : List ℕ → List ℕ
  waiting piece = bytes_of s ++ piece

  -- each finished chunk of them is a leaf more, and the rest stays
  unfoldable pub added : List ℕ → Stream
  added piece =
      state_of (s.chunks + length (waiting piece) / chunk_bytes) (grown s.chunks (held s) (finished (waiting piece)))
      (rest chunk_bytes (waiting piece))

  -- ---- root: 6, 9

  unfoldable pub root_tests : List ℕ → List Test
  root_tests out = 6 when not (sound s) ∷ 9 when ltb (length out) node_bytes ∷ []

  -- the roots held, and behind them the leaf of the bytes after the chunks where there are any
  unfoldable pub stream_root : Node
  stream_root = folded (held s ++ map leaf (chunks (bytes_of s)))
