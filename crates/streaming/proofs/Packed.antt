-- Words that a stream was put in hold that stream: one of which nothing is taken (`begun-packed`), and what a piece makes of the stream in
-- the words (`added-packed`). For what words hold is bytes, and so are hashes. And they are words of 64 bits: `begun-words`, `added-words`.
use Prim.Native.Nat.{ℕ, zero, suc, ◌+◌, ◌*◌, ◌/◌, ◌^◌, ◌<◌, ◌≤◌}
use mathlib.Core.Bool.{true}
use mathlib.Core.List.{List, [], ◌∷◌, ◌++◌, flatten, map}
use mathlib.Core.Path.{◌≡◌}
use native.Mathlib.Omega.{arith}
use lib.Count.{ones}
use lib.Dec.{lit<}
use lib.ListN.{length, drop}
use Rattle.slices.specs.AtFront.{at_front}
use Rattle.slices.specs.Below.{Below, Bytes}
use Rattle.slices.specs.Parts.{part}
use Rattle.slices.proofs.Below.{below-nil, below-cons, below-append, below-take, below-drop}
use Rattle.slices.proofs.Padded.{padded-bytes}
use Rattle.bigendian.specs.Words.{to_words}
use Rattle.bigendian.proofs.Words.{from_words-bytes, to_words-below}
use Rattle.fips.specs.Bits.{pieces}
use Rattle.treerule.specs.Root.{chunk_bytes, node_bytes, Node, leaf}
use Rattle.treerule.proofs.Hashes.{bytes-sha256}
use Rattle.streamrule.specs.Held.{grown}
use Rattle.streamrule.proofs.Wholes.{Every, grown-every}
use Rattle.stream.specs.declared.Stream.{Stream}
use Rattle.stream.specs.State.{root_room, state_of, begun, held, bytes_of, sound}
use Rattle.stream.specs.Steps.{finished, stream_limit, taken, waiting, added}
use Rattle.stream.proofs.Appending.{begun-shaped, added-shaped, added-taken}
use Rattle.streamwords.specs.Words.{roots_from, root_words, bytes_from, byte_words, stream_words, stream_in, words_of}
use Rattle.streamwords.proofs.Packing.{packed-holds, holds-shaped}

-- ---- nodes of bytes

leaves-bytes : (chunks : List (List ℕ)) → Every Bytes (map leaf chunks)
unfolding leaf
leaves-bytes [] i = bytes-sha256 []
leaves-bytes (c ∷ cs) zero = bytes-sha256 (0 ∷ c)
leaves-bytes (c ∷ cs) (suc i) = leaves-bytes cs i

pieces-bytes : (n k : ℕ) (xs : List ℕ) → Bytes xs → Every Bytes (pieces n k xs)
unfolding pieces
pieces-bytes n zero xs h i = bytes-sha256 []
pieces-bytes n (suc k) xs h zero = below-take n xs h
pieces-bytes n (suc k) xs h (suc i) = pieces-bytes n k (drop n xs) (below-drop n xs h) i

flat-bytes : (ns : List Node) → Every Bytes ns → Bytes (flatten ns)
unfolding flatten
flat-bytes [] h = below-nil 256 (omega arith)
flat-bytes (n ∷ ns) h = below-append n (flatten ns) (h 0) (flat-bytes ns (λ i. h (suc i)))

-- ---- a stream of bytes, and a piece more

record OfBytes (s : Stream) : Type 0 where
  roots : Bytes s.roots
  bytes : Bytes s.bytes

form-bytes : (chunks : ℕ) (roots : List Node) (bytes : List ℕ) → Every Bytes roots → Bytes bytes → OfBytes (state_of chunks roots bytes)
unfolding state_of
form-bytes chunks roots bytes h small =
    record { roots = padded-bytes root_room (flatten roots) (flat-bytes roots h); bytes = padded-bytes chunk_bytes bytes small }

begun-bytes : OfBytes begun
begun-bytes = form-bytes 0 [] [] (λ i. bytes-sha256 []) (below-nil 256 (omega arith))

-- of any words
held_bytes : (ws : List ℕ) → OfBytes (stream_in ws)
unfolding stream_in
held_bytes ws =
    record {
      roots = from_words-bytes 8 (part ws roots_from root_words);
      bytes = from_words-bytes 8 (part ws bytes_from byte_words);
    }

added-bytes : (s : Stream) (piece : List ℕ) → OfBytes s → Bytes piece → OfBytes (added s piece)
unfolding added finished
added-bytes s piece h small =
    let w = waiting s piece in
    let whole = length w / chunk_bytes * chunk_bytes in
    form-bytes _ (grown s.chunks (held s) (finished w)) (drop whole w)
    (grown-every Bytes bytes-sha256 s.chunks (held s) (finished w) (pieces-bytes node_bytes (ones s.chunks) s.roots h.roots)
    (leaves-bytes (pieces chunk_bytes (length w / chunk_bytes) w)))
    (below-drop whole w (below-append (bytes_of s) piece (below-take s.further s.bytes h.bytes) small))

-- ---- its words

words-below : (s : Stream) → s.chunks < 2 ^ 64 → s.further < 2 ^ 64 → OfBytes s → Below (2 ^ 64) (words_of s)
unfolding words_of
words-below s c f h =
    let roots = to_words root_words 8 s.roots in
    let bytes = to_words byte_words 8 s.bytes in
    below-cons (s.further ∷ (roots ++ bytes)) c
    (below-cons (roots ++ bytes) f
    (below-append roots bytes (to_words-below root_words 8 s.roots h.roots) (to_words-below byte_words 8 s.bytes h.bytes)))

pub begun-words : Below (2 ^ 64) (words_of begun)
unfolding state_of
begun-words = words-below begun (lit< tt) (lit< tt) begun-bytes

-- ---- in words that are enough

module _ (ws : List ℕ) (enough : stream_words ≤ length ws) where
  pub begun-packed : stream_in (at_front (words_of begun) ws) ≡ begun
  begun-packed = packed-holds begun ws enough begun-shaped begun-bytes.roots begun-bytes.bytes

  pub added-packed : (piece : List ℕ) → sound (stream_in ws) ≡ true → Bytes piece →
      stream_in (at_front (words_of (added (stream_in ws) piece)) ws) ≡ added (stream_in ws) piece
  added-packed piece ok small =
      let s = stream_in ws in
      let b = added-bytes s piece (held_bytes ws) small in
      packed-holds (added s piece) ws enough (added-shaped s (holds-shaped ws enough) ok piece) b.roots b.bytes

  pub added-words : (piece : List ℕ) → sound (stream_in ws) ≡ true → taken (stream_in ws) + length piece ≤ stream_limit → Bytes piece →
      Below (2 ^ 64) (words_of (added (stream_in ws) piece))
  added-words piece ok within small =
      let s = stream_in ws in
      let many = added-taken s (holds-shaped ws enough) ok piece within in
      words-below (added s piece) (omega (arith, many)) (omega (arith, many)) (added-bytes s piece (held_bytes ws) small)
