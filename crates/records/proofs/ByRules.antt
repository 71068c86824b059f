-- Bytes are a record exactly where they keep the rules of SPEC, "The saved record": `form-record-rules`, of any form whose longest
-- record can say its own length. How long the records of an edition are: `form-lengths`.
use Prim.Native.Nat.{ℕ, ◌+◌, ◌-◌, ◌*◌, ◌%◌, ◌^◌, ◌≤◌, ◌<◌}
use mathlib.Core.Bool.{true, false}
use mathlib.Core.List.{List, ◌∷◌, ◌++◌}
use mathlib.Core.Path.{◌≡◌, refl, sym, ap, ap₂, ◌∙◌}
use native.Mathlib.Nat.{mod-eq_of_lt}
use native.Mathlib.Omega.{arith}
use lib.Dec.{lit<}
use lib.ListN.{length, get_or, take, drop, replicate, length-drop, length-replicate, take-append-drop}
use lib.Seq.{drop-drop, get_or-drop}
use Rattle.slices.specs.Below.{Bytes}
use Rattle.slices.proofs.Below.{below-drop, below-replicate}
use Rattle.slices.proofs.Tests.{holds_on, holds-last, eq-same}
use Rattle.bigendian.specs.BigEndian.{number}
use Rattle.bigendian.specs.Rows.{Reads, read_row, row_bytes, field_in}
use Rattle.bigendian.specs.Words.{from_words}
use Rattle.bigendian.proofs.BigEndian.{pow-256-pos}
use Rattle.bigendian.proofs.RowLaws.{no_field, field-read, row_is}
use Rattle.bigendian.proofs.Words.{length-to_words, get_or-to_words, from_words-to_words}
use Rattle.fips.specs.Words.{block_bytes}
use Rattle.fips.specs.Editions.{known, width}
use Rattle.fips.proofs.Sizes.{block-some, block_within, known_small}
use Rattle.dwsha2.specs.Limit.{too_long}
use Rattle.dwsha2.proofs.Limits.{within-limit}
use Rattle.halfread.specs.declared.HalfRead.{HalfRead}
use Rattle.halfread.specs.State.{tail_room, tail_length, pending, sound, Shaped}
use Rattle.halfread.specs.Steps.{opened, added}
use Rattle.halfread.proofs.Adding.{added-shaped, added-sound}
use Rattle.halfread.proofs.ByRules.{sound-rules, keeps-alike}
use Rattle.halfread.proofs.Opening.{opened-shaped, opened-sound}
use Rattle.halfread.proofs.Rules.{tail-lt}
use Rattle.halfread.proofs.Tails.{length-padded, take-padded, get_or-padded}
use Rattle.records.specs.Record.{Form, word_count, number_bytes, words_at, tail_at, header}
use Rattle.records.specs.Record.{record_in, read_in, is_record_in}
use Rattle.records.specs.Rules.{Rules, Lengths, edition_told, left_in, chain_in, tail_in, longest_of}
use Rattle.records.proofs.Forms.{header-in-order, length-header, length-record, form-loaded-sound, form-loaded-saves}
use Rattle.records.proofs.Forms.{length-record_in, record_in-bytes, form-saved-loads}

-- ---- what the fields give, as numbers

module _ (f : Form) (bytes : List ℕ) where
  abbrev H : HalfRead
  H = read_in f bytes

  abbrev n : ℕ
  n = (width (edition_told bytes)).bytes

  abbrev tail_from : ℕ
  tail_from = tail_at f (edition_told bytes)

  eight : length H.words ≡ word_count
  unfolding read_in
  eight = length-to_words word_count n (drop (words_at f) bytes)

  wide : length H.tail ≡ tail_room
  unfolding read_in
  wide = length-padded (drop tail_from bytes)

  chain-read : (j : ℕ) → j < word_count → get_or H.words j 0 ≡ chain_in f bytes j
  unfolding read_in
  chain-read j p =
      get_or-to_words word_count n (drop (words_at f) bytes) j p ∙ ap (λ (l : List ℕ). number (take n l))
      (drop-drop (j * n) (words_at f) bytes)

  tail-read : length bytes ≡ tail_from + left_in f bytes → (k : ℕ) → k < tail_room → get_or H.tail k 0 ≡ tail_in f bytes k
  unfolding read_in
  tail-read long k p =
      get_or-padded (drop tail_from bytes) (simp length-drop (omega (arith, tail-lt H, block_within (edition_told bytes)))) k
      ∙ get_or-drop tail_from bytes k 0

  -- a record is as long as its fields say
  record-long : is_record_in f bytes ≡ true → length bytes ≡ tail_from + left_in f bytes
  unfolding read_in
  record-long is_one = ap length (sym (form-loaded-saves f bytes is_one)) ∙ length-record f H eight wide

-- ---- a record keeps the rules

module _ (f : Form) where
  -- one field of what is written
  written : (h : HalfRead) (i : ℕ) → (get_or (header f h) i no_field).value < 256 ^ (get_or (header f h) i no_field).bytes →
      field_in (record_in f h) (get_or (header f h) i no_field).place (get_or (header f h) i no_field).bytes ≡
      (get_or (header f h) i no_field).value
  unfolding record_in
  written h i p = field-read (header f h) (from_words (width h.edition).bytes h.words ++ pending h) i (header-in-order f h) p

  module _ (fits : (e : ℕ) → longest_of f e < 256 ^ number_bytes) (bytes : List ℕ) (is_one : is_record_in f bytes ≡ true) where
    saves : record_in f (H f bytes) ≡ bytes
    saves = form-loaded-saves f bytes is_one

    -- the same in the bytes
    stands : (i : ℕ) → (get_or (header f (H f bytes)) i no_field).value < 256 ^ (get_or (header f (H f bytes)) i no_field).bytes →
        field_in bytes (get_or (header f (H f bytes)) i no_field).place (get_or (header f (H f bytes)) i no_field).bytes
        ≡ (get_or (header f (H f bytes)) i no_field).value
    stands i p =
        ap (λ (l : List ℕ). field_in l (get_or (header f (H f bytes)) i no_field).place (get_or (header f (H f bytes)) i no_field).bytes)
        (sym saves)
        ∙ written (H f bytes) i p

    pub form-record-keeps : Rules f bytes
    unfolding header read_in
    form-record-keeps =
        let e = edition_told bytes in
        let small = tail-lt (H f bytes) in
        let whole = stands 6 (omega (arith, fits e, small)) in
        record {
          counted = stands 1 (omega arith);
          words_from = stands 2 (omega (arith, fits e));
          tail_from = stands 3 (omega (arith, fits e, small));
          tail_long = stands 5 (omega (arith, fits e, small));
          whole_long = whole;
          zeros = stands 7 (pow-256-pos f.zero_bytes);
          lent = record-long f bytes is_one ∙ sym whole;
          keeps =
              keeps-alike refl refl (chain-read f bytes) (tail-read f bytes (record-long f bytes is_one))
              ((sound-rules (H f bytes) (eight f bytes) (wide f bytes)).0 (form-loaded-sound f bytes is_one));
        }

-- ---- and bytes that keep them are a record

module _ (f : Form) (bytes : List ℕ) (all : Bytes bytes) (r : Rules f bytes) where
  sized : length bytes ≡ tail_from f bytes + left_in f bytes
  sized = r.lent ∙ r.whole_long

  sound-read : sound (H f bytes) ≡ true
  unfolding read_in
  sound-read =
      (sound-rules (H f bytes) (eight f bytes) (wide f bytes)).1
      (keeps-alike refl refl (λ j p. sym (chain-read f bytes j p)) (λ k p. sym (tail-read f bytes sized k p)) r.keeps)

  header-reads : Reads (header f (H f bytes)) bytes
  unfolding header read_in read_row
  header-reads =
      ap₂ ◌∷◌ refl
      (ap₂ ◌∷◌ r.counted
      (ap₂ ◌∷◌ r.words_from
      (ap₂ ◌∷◌ r.tail_from
      (ap₂ ◌∷◌ refl
      (ap₂ ◌∷◌ r.tail_long
      (ap₂ ◌∷◌ r.whole_long
      (ap₂ ◌∷◌ r.zeros refl)))))))

  front-is : row_bytes (header f (H f bytes)) ≡ take (words_at f) bytes
  front-is =
      let size = length-header f (H f bytes) in
      sym (row_is (header f (H f bytes)) bytes all (header-in-order f (H f bytes)) header-reads (omega (arith, sized)))
      ∙ ap (λ (k : ℕ). take k bytes) size

  words_are : from_words (n f bytes) (H f bytes).words ≡ take (word_count * n f bytes) (drop (words_at f) bytes)
  unfolding read_in
  words_are =
      from_words-to_words word_count (n f bytes) (drop (words_at f) bytes) (below-drop (words_at f) bytes all)
      (simp length-drop (omega (arith, sized)))

  tail-is : pending (H f bytes) ≡ drop (tail_from f bytes) bytes
  unfolding read_in
  tail-is =
      take-padded (drop (tail_from f bytes) bytes) (left_in f bytes) (omega (arith, tail-lt (H f bytes), block_within (edition_told bytes)))
      (simp length-drop (omega (arith, sized)))

  made : record_in f (H f bytes) ≡ bytes
  unfolding record_in read_in
  made =
      let m = word_count * n f bytes in
      let a = words_at f in
      ap₂ ◌++◌ front-is
      (ap₂ ◌++◌ words_are (tail-is ∙ sym (drop-drop m a bytes)) ∙ take-append-drop m (drop a bytes))
      ∙ take-append-drop a bytes

  pub form-keeps-record : is_record_in f bytes ≡ true
  unfolding is_record_in
  form-keeps-record = holds_on _ _ sound-read ∙ holds-last _ ∙ eq-same (record_in f (H f bytes)) bytes made

pub form-record-rules : (f : Form) → ((e : ℕ) → longest_of f e < 256 ^ number_bytes) → (bytes : List ℕ) → Bytes bytes →
    (is_record_in f bytes ≡ true → Rules f bytes) × (Rules f bytes → is_record_in f bytes ≡ true)
form-record-rules f fits bytes all = (form-record-keeps f fits bytes, form-keeps-record f bytes all)

-- ---- how long a record is

module _ (f : Form) where
  -- the tail begins behind the words and wants at least a byte of a block
  inside : (e : ℕ) (bytes : List ℕ) → is_record_in f bytes ≡ true → edition_told bytes ≡ e →
      (tail_at f e ≤ length bytes) × (length bytes ≤ longest_of f e)
  unfolding read_in
  inside e bytes is_one is_e =
      rw (← is_e) (omega (arith, record-long f bytes is_one), omega (arith, record-long f bytes is_one, tail-lt (H f bytes)))

  -- the record of a message of k bytes, fewer than a block
  module _ (room : 2 ^ 64 ≤ 256 ^ f.count_bytes) (e k : ℕ) (is_e : known e ≡ true) (short : k < block_bytes (width e)) where
    abbrev message : List ℕ
    message = replicate k 0

    abbrev taken : HalfRead
    taken = added (opened e) message

    message-bytes : Bytes message
    message-bytes = below-replicate k (lit< tt)

    begun-shaped : Shaped (opened e)
    begun-shaped = opened-shaped e (omega (arith, known_small e is_e))

    allowed : too_long e 0 (length message) ≡ false
    allowed = within-limit e 0 (length message) (omega (arith, length-replicate {A = ℕ} k 0, block_within e))

    taken-shaped : Shaped taken
    unfolding opened
    taken-shaped = added-shaped (opened e) begun-shaped message message-bytes allowed

    taken-sound : sound taken ≡ true
    unfolding opened
    taken-sound = added-sound (opened e) begun-shaped message message-bytes (opened-sound e is_e) allowed

    waits : tail_length taken ≡ k
    unfolding opened added
    waits =
        let size : 0 + length message ≡ k = omega (arith, length-replicate {A = ℕ} k 0) in
        ap (λ (m : ℕ). m % block_bytes (width e)) size ∙ mod-eq_of_lt short

    met : (bytes : List ℕ) × Bytes bytes × (is_record_in f bytes ≡ true) × (edition_told bytes ≡ e) × (length bytes ≡ tail_at f e + k)
    unfolding opened added read_in
    met =
        let both = form-saved-loads f room taken taken-sound taken-shaped in (
          record_in f taken,
          record_in-bytes f taken taken-shaped,
          both.1,
          ap (λ (h : HalfRead). h.edition) both.0,
          length-record_in f taken taken-shaped ∙ ap (λ (m : ℕ). tail_at f e + m) waits,
        )

  pub form-lengths : 2 ^ 64 ≤ 256 ^ f.count_bytes → (e : ℕ) → known e ≡ true → Lengths f e (tail_at f e) (longest_of f e)
  form-lengths room e is_e =
      record {
        within = inside e;
        met = λ n p q.
            let m = met room e (n - tail_at f e) is_e (omega (arith, block-some e)) in
            (m.0, m.1, m.2, m.3, m.4 ∙ omega arith);
      }
