-- The form of a stream. What it holds is read back (`form-held`, `form-further`), it is sound (`form-sound`), and a sound stream is the
-- form of what it holds (`one_form`), so that two which hold the same are the same (`same-form`).
use Prim.Native.Nat.{ℕ, ◌+◌, ◌*◌, ◌<◌, ◌≤◌}
use mathlib.Core.Bool.{true}
use mathlib.Core.List.{List, flatten}
use mathlib.Core.Path.{◌≡◌, refl, sym, ap, ap₂, ◌∙◌}
use native.Mathlib.Omega.{arith}
use lib.Count.{ones}
use lib.ListN.{length}
use Rattle.slices.specs.Tests.{holds}
use Rattle.slices.proofs.Padded.{length-padded, take-padded, zeros-padded, padded-clear}
use Rattle.treerule.specs.Root.{chunk_bytes, node_bytes, Node}
use Rattle.treerule.proofs.Levels.{Whole}
use Rattle.treerule.proofs.Pieces.{length-pieces}
use Rattle.tree.proofs.Held.{held_whole, length-flat}
use Rattle.stream.specs.declared.Stream.{Stream}
use Rattle.stream.specs.State.{root_room, state_of, count_rules, held, bytes_of, sound, Shaped}
use Rattle.stream.specs.Steps.{stream_limit}
use Rattle.stream.proofs.Limits.{few-roots}
use Rattle.stream.proofs.Buffers.{held-padded, held-form}
use Rattle.stream.proofs.Soundness.{counts-within, by_bytes, Sound, sound-has, length-further}
use Rattle.stream.proofs.Adding.{same-stream}

-- what a form is made of: as many whole roots as the number of chunks has ones, and the limit is kept
pub record Fits (chunks : ℕ) (roots : List Node) (bytes : List ℕ) : Type 0 where
  pub many : length roots ≡ ones chunks
  pub whole : Whole roots
  pub short : length bytes < chunk_bytes
  pub limit : chunks * chunk_bytes + length bytes ≤ stream_limit

module _ (chunks : ℕ) (roots : List Node) (bytes : List ℕ) where
  pub form-shaped : Shaped (state_of chunks roots bytes)
  unfolding state_of
  form-shaped = record { roots = length-padded root_room (flatten roots); bytes = length-padded chunk_bytes bytes }

  module _ (fits : Fits chunks roots bytes) where
    few : ones chunks ≤ 32
    few = few-roots chunks (omega (arith, fits.limit))

    flat-long : length (flatten roots) ≡ ones chunks * node_bytes
    flat-long = length-flat roots fits.whole ∙ ap (λ (n : ℕ). n * node_bytes) fits.many

    pub form-held : held (state_of chunks roots bytes) ≡ roots
    unfolding state_of
    form-held = held-padded root_room (ones chunks) roots fits.many (omega (arith, few)) fits.whole

    pub form-further : bytes_of (state_of chunks roots bytes) ≡ bytes
    unfolding state_of
    form-further = take-padded chunk_bytes bytes (length bytes) (omega (arith, fits.short)) refl

    counted : holds (count_rules chunks (length bytes)) ≡ true
    counted = counts-within chunks (length bytes) fits.short fits.limit

    pub form-sound : sound (state_of chunks roots bytes) ≡ true
    unfolding state_of
    form-sound =
        by_bytes (state_of chunks roots bytes) counted
        (padded-clear root_room (ones chunks * node_bytes) (flatten roots) flat-long (omega (arith, few)))
        ∙ padded-clear chunk_bytes (length bytes) bytes refl (omega (arith, fits.short))

-- ---- a sound stream

module _ (s : Stream) (shape : Shaped s) (ok : sound s ≡ true) where
  abbrev has : Sound s
  has = sound-has s ok

  pub sound-fits : Fits s.chunks (held s) (bytes_of s)
  sound-fits =
      let counts = has.counts in
      let room = has.few in
      let long = length-further s shape ok in
      record {
        many = length-pieces node_bytes (ones s.chunks) s.roots;
        whole = held_whole (ones s.chunks) s.roots (omega (arith, shape.roots));
        short = omega (arith, counts.short);
        limit = omega (arith, counts.limit);
      }

  pub one_form : s ≡ state_of s.chunks (held s) (bytes_of s)
  unfolding state_of
  one_form =
      let counts = has.counts in
      let room = has.few in
      same-stream s (state_of s.chunks (held s) (bytes_of s)) refl
      (sym (length-further s shape ok))
      (held-form root_room (ones s.chunks) s.roots shape.roots (omega arith) has.roots_end)
      (zeros-padded chunk_bytes s.further s.bytes shape.bytes (omega (arith, counts.short)) has.bytes_end)

-- two sound streams that hold the same are the same
pub same-form : (a b : Stream) → Shaped a → Shaped b → sound a ≡ true → sound b ≡ true →
    a.chunks ≡ b.chunks → held a ≡ held b → bytes_of a ≡ bytes_of b → a ≡ b
same-form a b shape_a shape_b ok_a ok_b c h f =
    one_form a shape_a ok_a
    ∙ ap (λ (n : ℕ). state_of n (held a) (bytes_of a)) c
    ∙ ap₂ (λ (r : List Node) (l : List ℕ). state_of b.chunks r l) h f
    ∙ sym (one_form b shape_b ok_b)
