-- A begun chunk is filled from the front of a piece, and the rest of the piece follows: the steps of `with_piece` are `added`. Main
-- statements: `fills-short`, where the chunk is not filled, and `fills-long`, where it is or none was begun.
use Prim.Native.Nat.{ℕ, ◌+◌, ◌-◌, ◌/◌, ◌≤◌, ◌<◌}
use mathlib.Core.Bool.{true}
use mathlib.Core.List.{List, ◌++◌, append_assoc}
use mathlib.Core.Path.{◌≡◌, refl, sym, ap, ap₂, ◌∙◌}
use native.Mathlib.Omega.{arith}
use lib.Count.{ones}
use lib.ListN.{length, take, drop, replicate, length-append, take-append-drop}
use lib.Seq.{length-take-le, take-append-add}
use Rattle.slices.specs.AtFront.{at_front}
use Rattle.slices.specs.Blocks.{rest}
use Rattle.slices.specs.Padded.{padded}
use Rattle.slices.proofs.Blocks.{lack, lack-whole, lack-short}
use Rattle.slices.proofs.Padded.{length-padded, front-behind, front-padded, zeros-behind}
use Rattle.slices.proofs.Parts.{part_to, part-all}
use Rattle.treerule.specs.Root.{chunk_bytes}
use Rattle.streamrule.specs.Held.{grown}
use Rattle.stream.specs.declared.Stream.{Stream}
use Rattle.stream.specs.State.{most_chunks, root_room, state_of, held, bytes_of, sound, Shaped, roots_in}
use Rattle.stream.specs.Steps.{finished, stream_limit, taken, waiting, added}
use Rattle.stream.proofs.Buffers.{held-form}
use Rattle.stream.proofs.Soundness.{sound-has, length-further}
use Rattle.stream.proofs.Adding.{same-stream, Chunked, built-short}

module _ (s : Stream) (shape : Shaped s) (ok : sound s ≡ true) (piece : List ℕ) where
  length-waiting : length (waiting s piece) ≡ s.further + length piece
  length-waiting = length-append (bytes_of s) piece ∙ ap (λ (n : ℕ). n + length piece) (length-further s shape ok)

  -- the piece behind the bytes, as much as there is room for
  pub filled : (mid : List ℕ) → mid ≡ at_front piece (take (chunk_bytes - s.further) (drop s.further s.bytes)) →
      take s.further s.bytes ++ (mid ++ drop (chunk_bytes - s.further) (drop s.further s.bytes)) ≡ padded chunk_bytes
      (waiting s piece)
  filled mid is_mid =
      let has = sound-has s ok in
      let zeros : drop s.further s.bytes ≡ replicate (chunk_bytes - s.further) 0 =
      zeros-behind s.further s.bytes has.bytes_end ∙ ap (λ (n : ℕ). replicate (n - s.further) 0) shape.bytes in
      front-behind chunk_bytes s.further s.bytes piece mid (omega (arith, has.counts.short)) shape.bytes zeros is_mid

  pub fills-short : {bytes : List ℕ} → bytes ≡ padded chunk_bytes (waiting s piece) → length piece < lack chunk_bytes s.further →
      record { chunks = s.chunks; further = s.further + length piece; roots = s.roots; bytes = bytes } ≡ added s piece
  unfolding added state_of
  fills-short is_bytes short =
      let has = sound-has s ok in
      let few : length (waiting s piece) < chunk_bytes =
      rw length-waiting (lack-short chunk_bytes s.further (length piece) has.counts.short short) in
      let room = has.few in
      same-stream _ (state_of s.chunks (held s) (waiting s piece)) refl
      (sym length-waiting)
      (held-form root_room (ones s.chunks) s.roots shape.roots (omega arith) has.roots_end)
      is_bytes
      ∙ sym (built-short s.chunks (held s) (waiting s piece) few)

  -- the two runs are what waits: the begun chunk, filled, and the rest of the piece
  module _ {bytes : List ℕ} (is_bytes : bytes ≡ padded chunk_bytes (waiting s piece)) (long : lack chunk_bytes
      s.further ≤ length piece) where
    abbrev lead : ℕ
    lead = lack chunk_bytes s.further

    abbrev begun : List ℕ
    begun = take (s.further + lead) bytes

    pub begun-within : s.further + lead ≤ length bytes
    begun-within =
        let whole = lack-whole chunk_bytes s.further (sound-has s ok).counts.short in
        omega (arith, whole.2, ap length is_bytes ∙ length-padded chunk_bytes (waiting s piece))

    pub runs : begun ++ part_to lead piece ≡ waiting s piece
    runs =
        let whole = lack-whole chunk_bytes s.further (sound-has s ok).counts.short in
        let front : begun ≡ bytes_of s ++ take lead piece =
        ap (take (s.further + lead)) is_bytes
        ∙ front-padded chunk_bytes (waiting s piece) (s.further + lead) whole.2 (rw length-waiting (omega arith))
        ∙ ap (λ (n : ℕ). take (n + lead) (waiting s piece)) (sym (length-further s shape ok))
        ∙ take-append-add (bytes_of s) piece lead in
        ap₂ (λ (a b : List ℕ). a ++ b) front (part-all lead piece)
        ∙ append_assoc (bytes_of s) (take lead piece) (drop lead piece)
        ∙ ap (λ (l : List ℕ). bytes_of s ++ l) (take-append-drop lead piece)

    pub begun-chunked : Chunked begun
    begun-chunked =
        let whole = lack-whole chunk_bytes s.further (sound-has s ok).counts.short in
        let size : length begun ≡ s.further + lead = length-take-le (s.further + lead) bytes begun-within in
        omega (arith, whole.1)

    pub runs-within : taken s + length piece ≤ stream_limit →
        s.chunks + length begun / chunk_bytes + length (part_to lead piece) / chunk_bytes ≤ most_chunks
    runs-within limit =
        omega (arith, begun-chunked, length-append begun (part_to lead piece), ap length runs ∙ length-waiting)

    pub fills-long : {r : Stream} →
        r ≡ state_of (s.chunks + length (begun ++ part_to lead piece) / chunk_bytes)
        (grown s.chunks (roots_in s.chunks s.roots) (finished (begun ++ part_to lead piece))) (rest chunk_bytes
        (begun ++ part_to lead piece)) →
        r ≡ added s piece
    unfolding added
    fills-long is_r =
        is_r
        ∙ ap
        (λ (l : List ℕ).
        state_of (s.chunks + length l / chunk_bytes) (grown s.chunks (roots_in s.chunks s.roots) (finished l)) (rest chunk_bytes l))
        runs
