-- Bytes that follow the finished chunks of a stream, in two runs of which the first is whole chunks: `taken-law`. The chunks of both are
-- the chunks of one after the other: `finished-append`. What roots and bytes behind them make is `built`.
use Prim.Native.Nat.{ℕ, ◌+◌, ◌-◌, ◌*◌, ◌/◌, ◌<◌, ◌≤◌}
use mathlib.Core.List.{List, [], ◌++◌, map, map-append, flatten}
use mathlib.Core.Path.{◌≡◌, sym, ap, ap₂, ◌∙◌}
use native.Mathlib.Omega.{arith}
use lib.Count.{ones}
use lib.ListN.{length, take, drop, length-append, length-map}
use Rattle.slices.specs.Blocks.{rest}
use Rattle.slices.specs.Padded.{padded}
use Rattle.slices.proofs.Blocks.{length_rest, rest-small, rest-append}
use Rattle.slices.proofs.Parts.{part_to, part-all}
use Rattle.fips.specs.Bits.{pieces}
use Rattle.treerule.specs.Root.{chunk_bytes, node_bytes, Node, leaf}
use Rattle.treerule.proofs.Pieces.{length-pieces, pieces-append}
use Rattle.tree.proofs.Held.{flat-held}
use Rattle.streamrule.specs.Held.{grown}
use Rattle.streamrule.proofs.Subtrees.{grown-append}
use Rattle.stream.specs.declared.Stream.{Stream}
use Rattle.stream.specs.State.{most_chunks, root_room, state_of, roots_in}
use Rattle.stream.specs.Steps.{finished}
use Rattle.stream.proofs.Limits.{few-roots}

-- two streams with the same fields
pub same-stream : (a b : Stream) → a.chunks ≡ b.chunks → a.further ≡ b.further → a.roots ≡ b.roots → a.bytes ≡ b.bytes → a ≡ b
same-stream a b c f r s = λ i. record { chunks = c i; further = f i; roots = r i; bytes = s i }

pub length-finished : (bytes : List ℕ) → length (finished bytes) ≡ length bytes / chunk_bytes
unfolding finished
length-finished bytes =
    let n = length bytes / chunk_bytes in
    length-map (pieces chunk_bytes n bytes) leaf ∙ length-pieces chunk_bytes n bytes

-- whole chunks
abbrev pub Chunked : List ℕ → Type 0
Chunked bytes = length bytes / chunk_bytes * chunk_bytes ≡ length bytes

module _ (xs ys : List ℕ) (whole : Chunked xs) where
  pub count-append : length (xs ++ ys) / chunk_bytes ≡ length xs / chunk_bytes + length ys / chunk_bytes
  count-append = omega (arith, length-append xs ys)

  pub finished-append : finished (xs ++ ys) ≡ finished xs ++ finished ys
  unfolding finished
  finished-append =
      let j = length xs / chunk_bytes in
      let k = length ys / chunk_bytes in
      ap (λ (n : ℕ). map leaf (pieces chunk_bytes n (xs ++ ys))) count-append
      ∙ ap (map leaf) (pieces-append chunk_bytes j k xs ys (sym whole))
      ∙ map-append leaf (pieces chunk_bytes j xs) (pieces chunk_bytes k ys)

-- leaves of both runs
grown-both : (n : ℕ) (roots : List Node) (xs ys : List ℕ) → Chunked xs →
    grown (n + length xs / chunk_bytes) (grown n roots (finished xs)) (finished ys) ≡ grown n roots (finished (xs ++ ys))
grown-both n roots xs ys whole =
    ap (λ (m : ℕ). grown (n + m) (grown n roots (finished xs)) (finished ys)) (sym (length-finished xs))
    ∙ sym (ap (grown n roots) (finished-append xs ys whole) ∙ grown-append n roots (finished xs) (finished ys))

pub taken-law : (n : ℕ) (roots xs ys one two : List ℕ) {count at : ℕ} {kept behind : List ℕ} → Chunked xs →
    n + length xs / chunk_bytes + length ys / chunk_bytes ≤ most_chunks → length two ≡ root_room →
    roots_in (n + length xs / chunk_bytes) one ≡ grown n (roots_in n roots) (finished xs) →
    roots_in (n + length xs / chunk_bytes + length ys / chunk_bytes) two
    ≡ grown (n + length xs / chunk_bytes) (roots_in (n + length xs / chunk_bytes) one) (finished ys) →
    count ≡ ones (n + length xs / chunk_bytes + length ys / chunk_bytes) → at ≡ length ys / chunk_bytes * chunk_bytes →
    kept ≡ padded chunk_bytes (take (count * node_bytes) two) → behind ≡ padded chunk_bytes (part_to at ys) →
    record { chunks = n + length xs / chunk_bytes + length ys / chunk_bytes; further = length ys - at; roots = kept; bytes = behind }
    ≡ state_of (n + length (xs ++ ys) / chunk_bytes) (grown n (roots_in n roots) (finished (xs ++ ys))) (rest chunk_bytes (xs ++ ys))
unfolding state_of
taken-law n roots xs ys one two {count} {at} {kept} {behind} whole most room is_one is_two is_count is_at is_kept is_behind =
    let last = n + length xs / chunk_bytes + length ys / chunk_bytes in
    let few = few-roots last most in
    let over : rest chunk_bytes (xs ++ ys) ≡ rest chunk_bytes ys = rest-append chunk_bytes (length xs / chunk_bytes) xs ys
    (omega arith) whole in
    let tail : part_to at ys ≡ rest chunk_bytes (xs ++ ys) = part-all at ys ∙ ap (λ (m : ℕ). drop m ys) is_at ∙ sym over in
    let held : roots_in last two ≡ grown n (roots_in n roots) (finished (xs ++ ys)) =
    is_two
    ∙ ap (λ (l : List Node). grown (n + length xs / chunk_bytes) l (finished ys)) is_one
    ∙ grown-both n (roots_in n roots) xs ys whole in
    same-stream _ _
    (omega (arith, count-append xs ys whole))
    (sym (ap length over ∙ length_rest chunk_bytes ys ∙ omega arith))
    (is_kept
    ∙ ap (padded chunk_bytes)
    (ap (λ (m : ℕ). take (m * node_bytes) two) is_count ∙ sym (flat-held (ones last) two (omega arith)) ∙ ap flatten held))
    (is_behind ∙ ap (padded chunk_bytes) tail)

-- ---- the stream that roots and bytes behind them make

abbrev pub built : ℕ → List Node → List ℕ → Stream
built n roots bytes = state_of (n + length bytes / chunk_bytes) (grown n roots (finished bytes)) (rest chunk_bytes bytes)

-- fewer bytes than a chunk has finish none
pub finished-none : (bytes : List ℕ) → length bytes < chunk_bytes → finished bytes ≡ []
unfolding finished pieces
finished-none bytes short =
    let none : length bytes / chunk_bytes ≡ 0 = omega arith in
    ap (λ (n : ℕ). map leaf (pieces chunk_bytes n bytes)) none

pub built-short : (n : ℕ) (roots : List Node) (bytes : List ℕ) → length bytes < chunk_bytes → built n roots bytes ≡ state_of n roots bytes
unfolding grown
built-short n roots bytes short =
    let count : n + length bytes / chunk_bytes ≡ n = omega arith in
    ap₂ (λ (m : ℕ) (l : List Node). state_of m (grown n roots l) (rest chunk_bytes bytes)) count (finished-none bytes short)
    ∙ ap (state_of n roots) (rest-small chunk_bytes bytes short)

-- whole chunks may be taken first
pub built-append : (n : ℕ) (roots : List Node) (xs ys : List ℕ) → Chunked xs →
    built n roots (xs ++ ys) ≡ built (n + length xs / chunk_bytes) (grown n roots (finished xs)) ys
built-append n roots xs ys whole =
    let count : n + length (xs ++ ys) / chunk_bytes ≡ n + length xs / chunk_bytes + length ys / chunk_bytes =
    omega (arith, count-append xs ys whole) in
    ap (λ (m : ℕ). state_of m (grown n roots (finished (xs ++ ys))) (rest chunk_bytes (xs ++ ys))) count
    ∙ ap₂ (λ (r : List Node) (l : List ℕ). state_of (n + length xs / chunk_bytes + length ys / chunk_bytes) r l)
    (sym (grown-both n roots xs ys whole)) (rest-append chunk_bytes (length xs / chunk_bytes) xs ys (omega arith) whole)
