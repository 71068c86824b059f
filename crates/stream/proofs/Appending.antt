-- Pieces one after the other. A sound stream stays sound (`added-fits`, `added-sound`); a piece and then another are the two in one
-- (`added-append`), and no bytes change nothing (`added_none`); what bytes lead to is what adding them from the beginning leaves
-- (`stream-added`); and its root is the root of the chunk tree (`stream-top`).
use Prim.Native.Nat.{ℕ, ◌+◌, ◌*◌, ◌/◌, ◌<◌, ◌≤◌}
use mathlib.Core.Bool.{true}
use mathlib.Core.List.{List, [], ◌++◌, append_assoc, append-nil, map, map-append}
use mathlib.Core.Path.{◌≡◌, refl, sym, ap, ap₂, ◌∙◌}
use native.Mathlib.Nat.{zero-add}
use native.Mathlib.Omega.{arith}
use lib.Count.{ones}
use lib.ListN.{length, take, length-append, length-map, take-append-drop}
use Rattle.slices.specs.Blocks.{rest}
use Rattle.slices.proofs.Blocks.{length_rest, length_whole}
use Rattle.fips.specs.Bits.{pieces}
use Rattle.treerule.specs.Root.{chunk_bytes, node_bytes, chunk_count, Node, leaf, chunks, top, root}
use Rattle.treerule.proofs.Levels.{Whole, leaves-whole}
use Rattle.treerule.proofs.Pieces.{pieces-front, pieces-append}
use Rattle.treerule.proofs.Root.{length-chunks}
use Rattle.streamrule.specs.Held.{subtrees_in, subtrees, folded, grown}
use Rattle.streamrule.proofs.Subtrees.{held-ones, folded-top, length-grown}
use Rattle.streamrule.proofs.Wholes.{length-folded, whole-none, whole_append, whole-grown, whole-subtrees, subtrees-grown}
use Rattle.stream.specs.declared.Stream.{Stream}
use Rattle.stream.specs.State.{state_of, begun, held, bytes_of, sound, Shaped}
use Rattle.stream.specs.Steps.{finished, stream_of, stream_limit, taken, waiting, added, stream_root}
use Rattle.stream.proofs.Soundness.{length-further}
use Rattle.stream.proofs.Adding.{length-finished, Chunked, built, built-short, built-append}
use Rattle.stream.proofs.Forms.{Fits, form-shaped, form-held, form-further, form-sound, sound-fits, one_form}

-- ---- bytes: their whole chunks, and the rest

whole_of : List ℕ → List ℕ
whole_of bytes = take (length bytes / chunk_bytes * chunk_bytes) bytes

module _ (bytes : List ℕ) where
  length_front : length (whole_of bytes) ≡ length bytes / chunk_bytes * chunk_bytes
  unfolding whole_of
  length_front = sym (length_whole chunk_bytes bytes)

  front-chunked : Chunked (whole_of bytes)
  front-chunked = omega (arith, length_front)

  front_rest : whole_of bytes ++ rest chunk_bytes bytes ≡ bytes
  unfolding whole_of
  front_rest = take-append-drop (length bytes / chunk_bytes * chunk_bytes) bytes

  -- the rest finishes no chunk
  front-finished : finished (whole_of bytes) ≡ finished bytes
  unfolding finished
  front-finished =
      let k = length bytes / chunk_bytes in
      let same : length (whole_of bytes) / chunk_bytes ≡ k = omega (arith, length_front) in
      ap (λ (n : ℕ). map leaf (pieces chunk_bytes n (whole_of bytes))) same
      ∙ ap (map leaf)
      (sym (pieces-front chunk_bytes k (whole_of bytes) (rest chunk_bytes bytes) (omega (arith, length_front)))
      ∙ ap (pieces chunk_bytes k) front_rest)

  rest-short : length (rest chunk_bytes bytes) < chunk_bytes
  rest-short = omega (arith, length_rest chunk_bytes bytes)

  -- chunks, the last of what is left
  chunks_rest : chunks bytes ≡ pieces chunk_bytes (length bytes / chunk_bytes) bytes ++ chunks (rest chunk_bytes bytes)
  unfolding chunks
  chunks_rest =
      let k = length bytes / chunk_bytes in
      let left = rest chunk_bytes bytes in
      let count : chunk_count (length bytes) ≡ k + chunk_count (length left) = omega (arith, length_rest chunk_bytes bytes) in
      ap₂ (λ (n : ℕ) (l : List ℕ). pieces chunk_bytes n l) count (sym front_rest)
      ∙ pieces-append chunk_bytes k (chunk_count (length left)) (whole_of bytes) left length_front
      ∙ ap (λ (l : List (List ℕ)). l ++ chunks left)
      (sym (pieces-front chunk_bytes k (whole_of bytes) left (omega (arith, length_front))) ∙ ap (pieces chunk_bytes k) front_rest)

leaves-finished : (bytes : List ℕ) → Whole (finished bytes)
unfolding finished
leaves-finished bytes = leaves-whole (pieces chunk_bytes (length bytes / chunk_bytes) bytes)

-- ---- a piece more

added-built : (s : Stream) (piece : List ℕ) → added s piece ≡ built s.chunks (held s) (waiting s piece)
unfolding added
added-built s piece = refl

module _ (s : Stream) (shape : Shaped s) (ok : sound s ≡ true) where
  abbrev fits : Fits s.chunks (held s) (bytes_of s)
  fits = sound-fits s shape ok

  pub added-fits : (piece : List ℕ) → taken s + length piece ≤ stream_limit →
      Fits (s.chunks + length (waiting s piece) / chunk_bytes) (grown s.chunks (held s) (finished (waiting s piece)))
      (rest chunk_bytes (waiting s piece))
  added-fits piece limit =
      let w = waiting s piece in
      record {
        many =
            length-grown s.chunks (held s) (finished w) fits.many
            ∙ ap (λ (n : ℕ). ones (s.chunks + n)) (length-finished w);
        whole = whole-grown s.chunks (held s) (finished w) fits.whole (leaves-finished w);
        short = rest-short w;
        limit = omega (arith, length_rest chunk_bytes w, length-append (bytes_of s) piece, length-further s shape ok);
      }

  pub added-shaped : (piece : List ℕ) → Shaped (added s piece)
  unfolding added
  added-shaped piece = form-shaped _ _ _

  -- no bytes change nothing
  pub added_none : added s [] ≡ s
  added_none =
      added-built s []
      ∙ ap (built s.chunks (held s)) (append-nil (bytes_of s))
      ∙ built-short s.chunks (held s) (bytes_of s) fits.short
      ∙ sym (one_form s shape ok)

  module _ (p : List ℕ) (limit : taken s + length p ≤ stream_limit) where
    abbrev w : List ℕ
    w = waiting s p

    abbrev n : ℕ
    n = s.chunks + length w / chunk_bytes

    abbrev roots : List Node
    roots = grown s.chunks (held s) (finished w)

    pub added-sound : sound (added s p) ≡ true
    unfolding added
    added-sound = form-sound n roots (rest chunk_bytes w) (added-fits p limit)

    pub added-taken : taken (added s p) ≡ taken s + length p
    unfolding added state_of
    added-taken = omega (arith, length_rest chunk_bytes w, length-append (bytes_of s) p, length-further s shape ok)

    -- once p has come, q is waiting behind what p left
    then-waiting : (q : List ℕ) → waiting (added s p) q ≡ rest chunk_bytes w ++ q
    unfolding added
    then-waiting q = ap (λ (l : List ℕ). l ++ q) (form-further n roots (rest chunk_bytes w) (added-fits p limit))

    then-held : held (added s p) ≡ roots
    unfolding added
    then-held = form-held n roots (rest chunk_bytes w) (added-fits p limit)

    then-chunks : (added s p).chunks ≡ n
    unfolding added state_of
    then-chunks = refl

    -- the whole chunks before, and what is left of them with q
    both : (q : List ℕ) → whole_of w ++ (rest chunk_bytes w ++ q) ≡ waiting s (p ++ q)
    both q =
        sym (append_assoc (whole_of w) (rest chunk_bytes w) q)
        ∙ ap (λ (l : List ℕ). l ++ q) (front_rest w)
        ∙ append_assoc (bytes_of s) p q

    pub added-append : (q : List ℕ) → added (added s p) q ≡ added s (p ++ q)
    added-append q =
        let count : length (whole_of w) / chunk_bytes ≡ length w / chunk_bytes = omega (arith, length_front w) in
        added-built (added s p) q
        ∙ ap₂ (λ (r : List Node) (l : List ℕ). built (added s p).chunks r l) then-held (then-waiting q)
        ∙ ap (λ (m : ℕ). built m roots (rest chunk_bytes w ++ q)) then-chunks
        ∙ sym
        (ap (built s.chunks (held s)) (sym (both q))
        ∙ built-append s.chunks (held s) (whole_of w) (rest chunk_bytes w ++ q) (front-chunked w)
        ∙ ap₂ (λ (m : ℕ) (l : List Node). built (s.chunks + m) (grown s.chunks (held s) l) (rest chunk_bytes w ++ q))
        count (front-finished w))
        ∙ sym (added-built s (p ++ q))

-- ---- from the beginning

none-fits : Fits 0 [] []
unfolding ones
none-fits = record { many = refl; whole = whole-none; short = omega arith; limit = omega arith }

pub begun-shaped : Shaped begun
begun-shaped = form-shaped 0 [] []

pub begun-sound : sound begun ≡ true
begun-sound = form-sound 0 [] [] none-fits

pub begun-taken : taken begun ≡ 0
unfolding state_of
begun-taken = refl

begun-chunks : begun.chunks ≡ 0
unfolding state_of
begun-chunks = refl

pub stream-added : (bytes : List ℕ) → stream_of bytes ≡ added begun bytes
unfolding stream_of
stream-added bytes =
    sym
    (added-built begun bytes
    ∙ ap (λ (n : ℕ). built n (held begun) (waiting begun bytes)) begun-chunks
    ∙ ap₂ (λ (r : List Node) (l : List ℕ). built 0 r (l ++ bytes)) (form-held 0 [] [] none-fits) (form-further 0 [] [] none-fits)
    ∙ ap₂ (λ (n : ℕ) (r : List Node). state_of n r (rest chunk_bytes bytes))
    (zero-add (length bytes / chunk_bytes)) (sym (subtrees-grown (finished bytes))))

pub stream-none : stream_of [] ≡ begun
unfolding stream_of finished pieces subtrees subtrees_in
stream-none = refl

module _ (bytes : List ℕ) (limit : length bytes ≤ stream_limit) where
  from-begun : taken begun + length bytes ≤ stream_limit
  from-begun = omega (arith, begun-taken)

  pub stream-taken : taken (stream_of bytes) ≡ length bytes
  stream-taken =
      ap taken (stream-added bytes) ∙ added-taken begun begun-shaped begun-sound bytes from-begun ∙ omega (arith, begun-taken)

  -- a piece more to what bytes lead to is what both lead to
  pub stream-more : (piece : List ℕ) → added (stream_of bytes) piece ≡ stream_of (bytes ++ piece)
  stream-more piece =
      ap (λ (s : Stream). added s piece) (stream-added bytes)
      ∙ added-append begun begun-shaped begun-sound bytes from-begun piece
      ∙ sym (stream-added (bytes ++ piece))

-- ---- the root

-- of a sound stream, whatever its roots are
pub root-length : (s : Stream) → Shaped s → sound s ≡ true → length (stream_root s) ≡ node_bytes
unfolding stream_root
root-length s shape ok =
    let last = map leaf (chunks (bytes_of s)) in
    length-folded (held s ++ last) (whole_append (held s) last (sound-fits s shape ok).whole (leaves-whole (chunks (bytes_of s))))

module _ (bytes : List ℕ) (limit : length bytes ≤ stream_limit) where
  stream-fits : Fits (length bytes / chunk_bytes) (subtrees (finished bytes)) (rest chunk_bytes bytes)
  stream-fits =
      record {
        many = held-ones (finished bytes) ∙ ap ones (length-finished bytes);
        whole = whole-subtrees (finished bytes) (leaves-finished bytes);
        short = rest-short bytes;
        limit = omega (arith, length_rest chunk_bytes bytes);
      }

  pub stream-sound : sound (stream_of bytes) ≡ true
  unfolding stream_of
  stream-sound = form-sound _ _ _ stream-fits

  pub stream-top : stream_root (stream_of bytes) ≡ root bytes
  unfolding stream_root stream_of root finished
  stream-top =
      let n = length bytes / chunk_bytes in
      let left = rest chunk_bytes bytes in
      let last = map leaf (chunks left) in
      let one : length last ≤ 1 = omega (arith, length-map (chunks left) leaf, length-chunks left, rest-short bytes) in
      ap₂ (λ (r : List Node) (l : List ℕ). folded (r ++ map leaf (chunks l)))
      (form-held n (subtrees (finished bytes)) left stream-fits) (form-further n (subtrees (finished bytes)) left stream-fits)
      ∙ folded-top (finished bytes) last one
      ∙ ap top (sym (map-append leaf (pieces chunk_bytes n bytes) (chunks left)) ∙ ap (map leaf) (sym (chunks_rest bytes)))
