-- A stream and its words: as the code unpacks and packs them (`unpacked`, `packed`), that the first words hold what all do (`held-front`),
-- that words which were packed hold that stream again (`packed-holds`), and that the words of the stream which words hold are those words
-- (`holds-packed`).
use Prim.Native.Nat.{ℕ, ◌+◌, ◌*◌, ◌^◌, ◌≤◌}
use mathlib.Core.List.{List, [], ◌∷◌, ◌++◌, append_assoc, append-nil, map}
use mathlib.Core.Path.{◌≡◌, refl, sym, ap, ap₂, ◌∙◌}
use native.Mathlib.Omega.{arith}
use lib.ListN.{length, take, drop, get_or, set, length-append, length-set, take-append-drop}
use lib.Seq.{take_at, drop_at, take-take, drop-drop}
use Rattle.std.proofs.lemmas.List.{drop-take, get_or-take}
use Rattle.slices.specs.AtFront.{at_front}
use Rattle.slices.specs.Below.{Below, Bytes}
use Rattle.slices.specs.Parts.{part, put_part}
use Rattle.slices.proofs.AtFront.{at_front-room}
use Rattle.slices.proofs.Below.{below-take, below-drop}
use Rattle.slices.proofs.Parts.{length_part, front-put, length-put, drop-put}
use Rattle.bigendian.specs.BigEndian.{word64}
use Rattle.bigendian.specs.Words.{from_words, to_words, with_words}
use Rattle.bigendian.proofs.Words.{length-from_words, length-to_words, to_words-word64, from_words-to_words-all, to_words-from_words}
use Rattle.bigendian.proofs.Words.{with_words-all}
use Rattle.treerule.specs.Root.{chunk_bytes}
use Rattle.stream.specs.declared.Stream.{Stream}
use Rattle.stream.specs.State.{root_room, Shaped}
use Rattle.stream.proofs.Adding.{same-stream}
use Rattle.streamwords.specs.Words.{chunks_word, further_word, roots_from, root_words}
use Rattle.streamwords.specs.Words.{bytes_from, byte_words, stream_words, stream_in, words_of}

-- ---- unpacked

-- words put as bytes over as many zeros
bytes_of : (at k : ℕ) (ws room : List ℕ) {bytes : List ℕ} → at + k ≤ length ws → length room ≡ k * 8 →
    bytes ≡ with_words 8 (part ws at k) room →
    bytes ≡ from_words 8 (part ws at k)
bytes_of at k ws room within long e =
    e ∙ with_words-all 8 (part ws at k) room (omega arith) (long ∙ ap (λ (n : ℕ). n * 8) (sym (length_part at k ws within)))

pub unpacked : (ws : List ℕ) (roots_room bytes_room : List ℕ) {roots bytes : List ℕ} → stream_words ≤ length ws →
    length roots_room ≡ root_room → length bytes_room ≡ chunk_bytes →
    roots ≡ with_words 8 (part ws roots_from root_words) roots_room → bytes ≡ with_words 8 (part ws bytes_from byte_words) bytes_room →
    record { chunks = get_or ws chunks_word 0; further = get_or ws further_word 0; roots = roots; bytes = bytes } ≡ stream_in ws
unfolding stream_in
unpacked ws roots_room bytes_room enough long_r long_b is_r is_b =
    same-stream _ _ refl refl (bytes_of roots_from root_words ws roots_room (omega arith) long_r is_r)
    (bytes_of bytes_from byte_words ws bytes_room (omega arith) long_b is_b)

-- the first words hold what all of them do, since each part of a stream lies in them
part-front : (at k m : ℕ) (ws : List ℕ) → k ≤ m → part (take (at + m) ws) at k ≡ part ws at k
part-front at k m ws h = ap (take k) (drop-take at m ws) ∙ take-take k m (drop at ws) h

pub held-front : (ws : List ℕ) → stream_in (take stream_words ws) ≡ stream_in ws
unfolding stream_in
held-front ws =
    same-stream _ _ (get_or-take stream_words ws chunks_word 0 (omega arith)) (get_or-take stream_words ws further_word 0 (omega arith))
    (ap (from_words 8) (part-front roots_from root_words (root_words + byte_words) ws (omega arith)))
    (ap (from_words 8) (part-front bytes_from byte_words byte_words ws (omega arith)))

-- ---- packed

pub length-words_of : (s : Stream) → length (words_of s) ≡ stream_words
unfolding words_of
length-words_of s = simp (length-append, length-to_words)

two-set : (b : List ℕ) (c f : ℕ) → roots_from ≤ length b → take roots_from (set (set b chunks_word c) further_word f) ≡ c ∷ f ∷ []
two-set [] c f h = absurd (omega arith)
two-set (x ∷ []) c f h = absurd (omega arith)
two-set (x ∷ y ∷ xs) c f h = refl

behind-set : (n : ℕ) (b : List ℕ) (c f : ℕ) → roots_from ≤ length b →
    drop (roots_from + n) (set (set b chunks_word c) further_word f) ≡ drop (roots_from + n) b
behind-set n [] c f h = absurd (omega arith)
behind-set n (x ∷ []) c f h = absurd (omega arith)
behind-set n (x ∷ y ∷ xs) c f h = sym (drop-drop n roots_from (c ∷ f ∷ xs)) ∙ drop-drop n roots_from (x ∷ y ∷ xs)

-- the words that bytes make, as many as the part has that they are put in
words-of : (at k : ℕ) (b bs : List ℕ) {new : List ℕ} → at + k ≤ length b → Bytes bs →
    new ≡ map word64 (to_words (length (part b at k)) 8 bs) →
    new ≡ to_words k 8 bs
words-of at k b bs within small e =
    e ∙ ap (λ (n : ℕ). map word64 (to_words n 8 bs)) (length_part at k b within) ∙ to_words-word64 k 8 bs small (omega arith)

-- two words set, then two parts, each behind the one before
module _ (b : List ℕ) (s : Stream) (enough : stream_words ≤ length b) where
  abbrev set-two : List ℕ
  set-two = set (set b chunks_word s.chunks) further_word s.further

  set_long : length set-two ≡ length b
  set_long = simp length-set refl

  module _ {new : List ℕ} (small : Bytes s.roots) (came : new ≡ map word64 (to_words (length (part set-two roots_from root_words)) 8
      s.roots)) where
    abbrev with-roots : List ℕ
    with-roots = put_part roots_from root_words new set-two

    is-new : new ≡ to_words root_words 8 s.roots
    is-new = words-of roots_from root_words set-two s.roots (omega (arith, set_long)) small came

    new-long : length new ≡ root_words
    new-long = ap length is-new ∙ length-to_words root_words 8 s.roots

    pub with-long : length with-roots ≡ length b
    with-long =
        length-put roots_from root_words set-two new (new-long ∙ sym (length_part roots_from root_words set-two (omega
        (arith, set_long)))) ∙ set_long

    front : take bytes_from with-roots ≡ (s.chunks ∷ s.further ∷ []) ++ new
    front =
        ap (λ (n : ℕ). take (roots_from + n) with-roots) (sym new-long)
        ∙ front-put roots_from root_words set-two new (s.chunks ∷ s.further ∷ []) new [] (two-set b s.chunks s.further
        (omega arith)) refl
        (sym (append-nil new))

    pub packed : {last : List ℕ} → Bytes s.bytes →
        last ≡ map word64 (to_words (length (part with-roots bytes_from byte_words)) 8 s.bytes) →
        put_part bytes_from byte_words last with-roots ≡ at_front (words_of s) b
    unfolding words_of
    packed {last} small_b came_b =
        let a = to_words root_words 8 s.roots in
        let z = to_words byte_words 8 s.bytes in
        let is_last : last ≡ z = words-of bytes_from byte_words with-roots s.bytes (omega (arith, with-long)) small_b came_b in
        let behind : drop byte_words (drop bytes_from with-roots) ≡ drop stream_words b =
        drop-drop byte_words bytes_from with-roots
        ∙ drop-put roots_from root_words new set-two new-long (omega (arith, set_long)) stream_words (omega arith)
        ∙ behind-set (root_words + byte_words) b s.chunks s.further (omega arith) in
        ap₂ (λ (l r : List ℕ). l ++ (last ++ r)) front behind
        ∙ ap₂ (λ (l r : List ℕ). s.chunks ∷ s.further ∷ (l ++ (r ++ drop stream_words b))) is-new is_last
        ∙ ap (λ (l : List ℕ). s.chunks ∷ s.further ∷ l) (sym (append_assoc a z (drop stream_words b)))
        ∙ sym
        (at_front-room (words_of s) b (omega (arith, length-words_of s))
        ∙ ap (λ (n : ℕ). words_of s ++ drop n b) (length-words_of s))

-- ---- there and back

pub packed-holds : (s : Stream) (b : List ℕ) → stream_words ≤ length b → Shaped s → Bytes s.roots → Bytes s.bytes →
    stream_in (at_front (words_of s) b) ≡ s
unfolding stream_in words_of
packed-holds s b enough shape small small_b =
    let a = to_words root_words 8 s.roots in
    let z = to_words byte_words 8 s.bytes in
    let d = drop stream_words b in
    let front : at_front (words_of s) b ≡ s.chunks ∷ s.further ∷ (a ++ (z ++ d)) =
    at_front-room (words_of s) b (omega (arith, length-words_of s))
    ∙ ap (λ (n : ℕ). words_of s ++ drop n b) (length-words_of s)
    ∙ ap (λ (l : List ℕ). s.chunks ∷ s.further ∷ l) (append_assoc a z d) in
    let long_a : length a ≡ root_words = length-to_words root_words 8 s.roots in
    let long_z : length z ≡ byte_words = length-to_words byte_words 8 s.bytes in
    ap stream_in front
    ∙ same-stream _ _ refl refl
    (ap (from_words 8) (take_at a (z ++ d) root_words long_a) ∙ from_words-to_words-all root_words 8 s.roots small shape.roots)
    (ap (λ (l : List ℕ). from_words 8 (take byte_words l)) (drop_at a (z ++ d) root_words long_a)
    ∙ ap (from_words 8) (take_at z d byte_words long_z)
    ∙ from_words-to_words-all byte_words 8 s.bytes small_b shape.bytes)

-- what words hold is bytes, as many as a stream has
pub holds-shaped : (ws : List ℕ) → stream_words ≤ length ws → Shaped (stream_in ws)
unfolding stream_in
holds-shaped ws enough =
    record {
      roots = length-from_words 8 (part ws roots_from root_words)
          ∙ ap (λ (n : ℕ). n * 8) (length_part roots_from root_words ws (omega arith));
      bytes = length-from_words 8 (part ws bytes_from byte_words)
          ∙ ap (λ (n : ℕ). n * 8) (length_part bytes_from byte_words ws (omega arith));
    }

two-words : (ws : List ℕ) → roots_from ≤ length ws → get_or ws chunks_word 0 ∷ get_or ws further_word 0 ∷ drop roots_from ws ≡ ws
two-words [] h = absurd (omega arith)
two-words (x ∷ []) h = absurd (omega arith)
two-words (x ∷ y ∷ ws) h = refl

-- a part of words is the words of its bytes
part-words : (at k : ℕ) (ws : List ℕ) → at + k ≤ length ws → Below (2 ^ 64) ws → to_words k 8 (from_words 8 (part ws at k)) ≡ part ws at k
part-words at k ws within small =
    ap (λ (n : ℕ). to_words n 8 (from_words 8 (part ws at k))) (sym (length_part at k ws within))
    ∙ to_words-from_words 8 (part ws at k) (below-take k (drop at ws) (below-drop at ws small))

pub holds-packed : (ws : List ℕ) → stream_words ≤ length ws → Below (2 ^ 64) ws → at_front (words_of (stream_in ws)) ws ≡ ws
unfolding stream_in words_of
holds-packed ws enough small =
    let c = get_or ws chunks_word 0 in
    let f = get_or ws further_word 0 in
    let a = part ws roots_from root_words in
    let z = part ws bytes_from byte_words in
    let behind : z ++ drop stream_words ws ≡ drop bytes_from ws =
    ap (λ (l : List ℕ). z ++ l) (sym (drop-drop byte_words bytes_from ws)) ∙ take-append-drop byte_words (drop bytes_from ws) in
    let all : a ++ drop bytes_from ws ≡ drop roots_from ws =
    ap (λ (l : List ℕ). a ++ l) (sym (drop-drop root_words roots_from ws)) ∙ take-append-drop root_words (drop roots_from ws) in
    at_front-room (words_of (stream_in ws)) ws (omega (arith, length-words_of (stream_in ws)))
    ∙ ap (λ (n : ℕ). words_of (stream_in ws) ++ drop n ws) (length-words_of (stream_in ws))
    ∙ ap₂ (λ (l r : List ℕ). c ∷ f ∷ ((l ++ r) ++ drop stream_words ws))
    (part-words roots_from root_words ws (omega arith) small) (part-words bytes_from byte_words ws (omega arith) small)
    ∙ ap (λ (l : List ℕ). c ∷ f ∷ l) (append_assoc a z (drop stream_words ws) ∙ ap (λ (l : List ℕ). a ++ l) behind ∙ all)
    ∙ two-words ws (omega arith)
