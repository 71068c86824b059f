-- A record written part behind part into a buffer that has room for the longest. Main statement: `record-law`, which the code cites.
use Prim.Native.Nat.{ℕ, ◌+◌, ◌-◌, ◌*◌, ◌/◌, ◌≤◌}
use mathlib.Core.List.{List, [], ◌∷◌, ◌++◌, append_assoc}
use mathlib.Core.Path.{◌≡◌, sym, ap, ap₂, ◌∙◌}
use native.Mathlib.Omega.{arith}
use lib.ListN.{length, take, drop, replicate, length-append, length-take, length-drop, length-replicate}
use lib.Seq.{take_at}
use Rattle.slices.specs.AtFront.{at_front}
use Rattle.slices.specs.Parts.{part, put_part}
use Rattle.slices.proofs.AtFront.{at_front-room}
use Rattle.slices.proofs.Parts.{front-put, length-put}
use Rattle.bigendian.specs.Rows.{sizes, values, row_bytes, row_length}
use Rattle.bigendian.specs.Words.{from_words, with_words}
use Rattle.bigendian.specs.Code.PutRow.{put_row}
use Rattle.bigendian.proofs.RowLaws.{put-row}
use Rattle.bigendian.proofs.Words.{length-from_words, with_words-room, length-with_words}
use Rattle.fips.specs.Editions.{width}
use Rattle.fips.proofs.Editions.{width_some}
use Rattle.fips.proofs.Sizes.{bytes-within}
use Rattle.halfread.specs.declared.HalfRead.{HalfRead}
use Rattle.halfread.specs.State.{block_of, tail_length, pending, tail_room}
use Rattle.halfread.proofs.Rules.{tail_within}
use Rattle.halfread.proofs.Tails.{length-pending}
use Rattle.records.specs.Record.{Form, word_count, words_at, tail_at, length_in, header, record_in}
use Rattle.records.proofs.Forms.{length-header, length_front}

module _ (f : Form) where
  -- eight words of 64 bits, and a tail of 127 bytes
  abbrev pub longest : ℕ
  longest = words_at f + word_count * 8 + 127

  pub tail_at-within : (e : ℕ) → tail_at f e ≤ words_at f + word_count * 8
  tail_at-within e = omega (arith, bytes-within e)

  pub length_in-within : (h : HalfRead) → length_in f h ≤ longest
  length_in-within h = omega (arith, tail_at-within h.edition, tail_within h)

  module _ (h : HalfRead) (eight : length h.words ≡ word_count) (wide : length h.tail ≡ tail_room) where
    abbrev n : ℕ
    n = (width h.edition).bytes

    abbrev H : List ℕ
    H = row_bytes (header f h)

    abbrev W : List ℕ
    W = from_words n h.words

    length-W : length W ≡ word_count * n
    length-W = length-from_words n h.words ∙ ap (λ (i : ℕ). i * n) eight

    -- the header at the front of the buffer
    first : {b : List ℕ} → b ≡ put_row (sizes (header f h)) (values (header f h)) (replicate longest 0) →
        (length b ≡ longest) × (take (words_at f) b ≡ H)
    first {b} is_b =
        let size : length {A = ℕ} (replicate longest 0) ≡ longest = length-replicate {A = ℕ} longest 0 in
        let whole : b ≡ H ++ drop (row_length (header f h)) (replicate longest 0) =
        is_b ∙ put-row (header f h) (replicate longest 0) (omega (arith, length-header f h)) in (
          ap length whole
              ∙ length-append H (drop (row_length (header f h)) (replicate longest 0))
              ∙ ap₂ ◌+◌ (length_front f h) (length-drop (row_length (header f h)) (replicate longest 0))
              ∙ omega (arith, length-header f h),
          ap (take (words_at f)) whole ∙ take_at H _ (words_at f) (length_front f h),
        )

    pub record-law : {b m k : List ℕ} {size at end : ℕ} →
        b ≡ put_row (sizes (header f h)) (values (header f h)) (replicate longest 0) → size ≡ block_of h →
        m ≡ with_words (size / 16) h.words (part b (words_at f) (longest - words_at f)) → at ≡ tail_at f h.edition → end ≡ tail_length h →
        k ≡ at_front (take end h.tail) (part (put_part (words_at f) (longest - words_at f) m b) at (longest - at)) →
        take (length_in f h) (put_part at (longest - at) k (put_part (words_at f) (longest - words_at f) m b)) ≡ record_in f h
    unfolding record_in
    record-law {b} {m} {k} {size} {at} {end} is_b is_size is_m is_at is_end is_k =
        let a = words_at f in
        let e = h.edition in
        let P = pending h in
        let lb = (first is_b).0 in
        let p₀ = part b a (longest - a) in
        let lp₀ : length p₀ ≡ longest - a = simp (length-take, length-drop) (omega arith) in
        let sixteenth : size / 16 ≡ n = omega arith in
        let is_m' : m ≡ with_words n h.words p₀ = is_m ∙ ap (λ (i : ℕ). with_words i h.words p₀) sixteenth in
        let room : length h.words * n ≤ length p₀ = omega (arith, ap (λ (i : ℕ). i * n) eight, bytes-within e) in
        let b₁ = put_part a (longest - a) m b in
        let l₁ : length b₁ ≡ longest = length-put a (longest - a) b m (ap length is_m' ∙ length-with_words n h.words p₀) ∙ lb in
        let second : take at b₁ ≡ H ++ W =
        ap (λ (i : ℕ). take i b₁) (is_at ∙ ap (λ (i : ℕ). a + i) (sym length-W))
        ∙ front-put a (longest - a) b m H W _ (first is_b).1 (length_front f h)
        (is_m' ∙ with_words-room n h.words p₀ (width_some e) room) in
        let l_a : length (H ++ W) ≡ at = length-append H W ∙ ap₂ ◌+◌ (length_front f h) length-W ∙ sym is_at in
        let p₁ = part b₁ at (longest - at) in
        let l_p : length P ≡ tail_length h = length-pending h wide in
        let lp₁ : length p₁ ≡ longest - at = simp (length-take, length-drop) (omega arith) in
        let is_k' : k ≡ P ++ drop (length P) p₁ =
        is_k ∙ ap (λ (i : ℕ). at_front (take i h.tail) p₁) is_end ∙ at_front-room P p₁ (omega (arith, length_in-within h)) in
        ap (λ (i : ℕ). take i (put_part at (longest - at) k b₁)) (ap₂ ◌+◌ (sym is_at) (sym l_p))
        ∙ front-put at (longest - at) b₁ k (H ++ W) P (drop (length P) p₁) second l_a is_k'
        ∙ append_assoc H W P

-- the row as the code has it, its values asked of other functions
pub header_row : (f : Form) (h : HalfRead) {at end whole : ℕ} → at ≡ tail_at f h.edition → end ≡ tail_length h → whole ≡ length_in f h →
    h.edition ∷ word_count ∷ words_at f ∷ at ∷ h.count ∷ end ∷ whole ∷ 0 ∷ [] ≡ values (header f h)
unfolding header
header_row f h is_at is_end is_whole = rw (is_at, is_end, is_whole)
