-- The ledger's entries and the half-read messages that stand for them. The state of a fine entry is sound, a piece
-- added to it is the piece added to the entry, and its digest is the entry's.
use Prim.Native.Nat.{ℕ, zero, suc, ◌+◌, ◌-◌, ◌*◌, ◌/◌, ◌%◌, ◌^◌, ◌≤◌, ◌<◌}
use mathlib.Core.Bool.{true, false}
use mathlib.Core.List.{List, [], ◌∷◌, ◌++◌, append_assoc}
use mathlib.Core.Path.{◌≡◌, refl, sym, ap, ap₂, subst, ◌∙◌}
use native.Mathlib.Nat.{lt_of_lt_of_le, mod-lt, mod-le, div-add-mod', mul-add-mod_self_right, mod-eq_of_lt, div-eq_of_lt}
use native.Mathlib.Nat.{add-mul, zero-mul, suc-mul, add_assoc}
use native.Mathlib.Omega.{arith}
use lib.ListN.{length, take, drop, replicate, length-append, take-append-drop}
use lib.Pow.{pow_mono}
use lib.Seq.{drop-nil}
use Rattle.slices.specs.Below.{Below, Bytes}
use Rattle.bigendian.specs.BigEndian.{be}
use Rattle.slices.proofs.Below.{below-take, below-drop, below-append}
use Rattle.fips.specs.Words.{Width, word, block_bytes}
use Rattle.fips.specs.Padding.{zeros, parse}
use Rattle.fips.specs.Constants.{chain}
use Rattle.fips.specs.Editions.{known, width, start}
use Rattle.fips.specs.Code.ByteForm.{closing_byte, ending, parse_bytes}
use Rattle.fips.proofs.Sizes.{known_small}
use Rattle.fips.proofs.Editions.{width_some}
use Rattle.fips.proofs.ByteForm.{behind-bytes, parse-bytes, ending-bytes}
use Rattle.dwsha2.proofs.Limits.{length-fits, same_sum, no_length}
use Rattle.slices.specs.Blocks.{rest}
use Rattle.slices.proofs.Blocks.{length_rest, rest-append, length_whole}
use Rattle.fips.proofs.Padding.{zeros-period}
use Rattle.fips.proofs.Rules.{start-lt, length-start}
use Rattle.slices.specs.AtFront.{at_front}
use Rattle.dwsha2.specs.Limit.{too_long}
use Rattle.dwsha2.specs.Code.Hashing.{absorbed, last_bytes, digest_from}
use Rattle.slices.proofs.AtFront.{length-at_front}
use Rattle.fips.proofs.Sizes.{bytes-within, block-some, block_within}
use Rattle.dwsha2.proofs.Absorbed.{length-absorbed, absorbed-below, absorbed-none, absorbed-append, absorbed-rest, absorbed-chain}
use Rattle.dwsha2.proofs.Finished.{finished-absorbed}
use Rattle.halfread.specs.declared.HalfRead.{HalfRead}
use Rattle.halfread.specs.State.{block_of, tail_length, pending, padded, Shaped, tail_room}
use Rattle.halfread.specs.Steps.{opened, added}
use Rattle.halfread.specs.Steps as Steps
use Rattle.records.specs.Record.{record_of, read_in, loaded, is_record}
use Rattle.halfread.proofs.Fields.{same-state}
use Rattle.records.proofs.Records.{loaded-sound, loaded-shaped}
use Rattle.halfread.proofs.Rules.{tail-lt}
use Rattle.halfread.proofs.Soundness.{Sound, sound-facts}
use Rattle.halfread.proofs.Tails.{take-padded, padded-bytes, length-pending}
use Rattle.ledger.specs.Records.{record_bytes, read_edition, read_length, read_words}
use Rattle.ledger.specs.Ledger.{Entry, Fine, opened_entry, loaded_entry, with, entry_length, entry_words, entry_record, closed_bits}
use Rattle.ledger.specs.Ledger.{entry_digest}
use Rattle.ledger.proofs.OwnRecord.{record-agrees, tail-long, pending-read}

-- the half-read message that stands for an entry: every whole block is absorbed, and what is left over waits
unfoldable pub state_of : Entry → HalfRead
state_of en =
    let p : Width = width en.edition in
    record {
      edition = en.edition;
      count = entry_length en;
      words = chain p en.start_words (parse_bytes p en.since);
      tail = padded (rest (block_bytes p) en.since);
    }

-- ---- a list cut at its last whole block of n

abbrev front : ℕ → List ℕ → List ℕ
front n s = take (length s / n * n) s

rest_lt : (n : ℕ) (s : List ℕ) → 0 < n → length (rest n s) < n
rest_lt n s some = rw (length_rest n s) (mod-lt (length s) some)

joined : (n : ℕ) (s : List ℕ) → s ≡ front n s ++ rest n s
joined n s = sym (take-append-drop (length s / n * n) s)

-- no whole block is in less than a block
no_block : (k n m : ℕ) → k * n + m < n → k ≡ 0
no_block zero n m h = refl
no_block (suc k) n m h = absurd (omega (arith, suc-mul k n))

-- ---- an entry's state

module _ (en : Entry) (fine : Fine en) where
  abbrev p : Width
  p = width en.edition

  abbrev n : ℕ
  n = block_bytes p

  abbrev s : List ℕ
  s = en.since

  some : 0 < n
  some = block-some en.edition

  pub tail-state : tail_length (state_of en) ≡ length s % n
  unfolding state_of
  tail-state = ap (λ (m : ℕ). (m + length s) % n) fine.whole ∙ mul-add-mod_self_right fine.blocks n (length s)

  pub pending-state : pending (state_of en) ≡ rest n s
  unfolding state_of
  pending-state =
      let h : tail_length (state_of en) < n = rw tail-state (mod-lt (length s) some) in
      take-padded (rest n s) (tail_length (state_of en)) (omega (arith, block_within en.edition)) (length_rest n s ∙ sym tail-state)

  -- the words, in hashing's terms
  words-absorbed : (bytes : List ℕ) → chain p en.start_words (parse_bytes p bytes) ≡ absorbed en.edition en.start_words bytes
  words-absorbed bytes = absorbed-chain en.edition en.start_words bytes fine.below

  words-front : (state_of en).words ≡ absorbed en.edition en.start_words (front n s)
  unfolding state_of
  words-front =
      words-absorbed s
      ∙ ap (absorbed en.edition en.start_words) (joined n s)
      ∙ absorbed-rest en.edition en.start_words (length s / n) (front n s) (rest n s) (length_whole n s) (rest_lt n s some)

  below-words : Below (2 ^ word p) (state_of en).words
  below-words = subst (Below (2 ^ word p)) (sym words-front) (absorbed-below en.edition en.start_words (front n s))

  begun-words : entry_length en < n → chain p en.start_words (parse_bytes p s) ≡ start en.edition
  begun-words h =
      let none : fine.blocks ≡ 0 = no_block fine.blocks n (length s) (omega (arith, fine.whole)) in
      let zero : en.before ≡ 0 = fine.whole ∙ ap (λ (k : ℕ). k * n) none ∙ zero-mul n in
      words-absorbed s ∙ absorbed-none en.edition en.start_words s fine.below (omega arith) ∙ fine.begun zero

  pub state-facts : Sound (state_of en)
  unfolding state_of
  state-facts =
      record {
        known = fine.is_known;
        limited = fine.within;
        below = below-words;
        tail = ap padded (sym pending-state);
        begun = begun-words;
      }

  pub state-shaped : Shaped (state_of en)
  unfolding state_of
  state-shaped =
      record {
        eight = ap length words-front ∙ length-absorbed en.edition en.start_words (front n s) fine.eight;
        wide = length-at_front (rest n s) (replicate tail_room 0);
        number = omega (arith, known_small en.edition fine.is_known);
        counted = omega (arith, length-fits en.edition (entry_length en) 0 fine.within);
        fitting = λ i. lt_of_lt_of_le (below-words i) (pow_mono {j = 64} (omega (arith, bytes-within en.edition)));
        bytes = padded-bytes (rest n s) (below-drop (length s / n * n) s fine.bytes);
      }

  -- and its record is the state's
  pub record-entry : entry_record en ≡ record_of (state_of en)
  unfolding entry_record entry_words state_of
  record-entry =
      ap₂ (record_bytes en.edition (entry_length en))
      (ap (chain p en.start_words) (parse-bytes p s fine.bytes)) (sym pending-state)
      ∙ record-agrees (state_of en) (length-pending (state_of en) state-shaped.wide)

  -- the bytes that wait, and those of the entry with a piece more
  all-bytes : (piece : List ℕ) → s ++ piece ≡ front n s ++ (rest n s ++ piece)
  all-bytes piece = ap (λ (l : List ℕ). l ++ piece) (joined n s) ∙ append_assoc (front n s) (rest n s) piece

  -- whatever follows the bytes since is absorbed behind the whole blocks
  behind-front : (bytes : List ℕ) →
      chain p en.start_words (parse_bytes p (front n s ++ bytes)) ≡ absorbed en.edition (state_of en).words bytes
  behind-front bytes =
      words-absorbed (front n s ++ bytes)
      ∙ absorbed-append en.edition en.start_words (length s / n) (front n s) bytes (length_whole n s)
      ∙ ap (λ (H : List ℕ). absorbed en.edition H bytes) (sym words-front)

  more-words : (piece : List ℕ) →
      chain p en.start_words (parse_bytes p (s ++ piece)) ≡ absorbed en.edition (state_of en).words (pending (state_of en) ++ piece)
  more-words piece =
      ap (λ (l : List ℕ). chain p en.start_words (parse_bytes p l)) (all-bytes piece)
      ∙ behind-front (rest n s ++ piece)
      ∙ ap (λ (l : List ℕ). absorbed en.edition (state_of en).words (l ++ piece)) (sym pending-state)

  more-rest : (piece : List ℕ) → rest n (s ++ piece) ≡ rest n (pending (state_of en) ++ piece)
  more-rest piece =
      ap (rest n) (all-bytes piece)
      ∙ rest-append n (length s / n) (front n s) (rest n s ++ piece) some (length_whole n s)
      ∙ ap (λ (l : List ℕ). rest n (l ++ piece)) (sym pending-state)

  -- a piece added to the state is the piece added to the entry
  pub added-entry : (piece : List ℕ) → state_of (with en piece) ≡ added (state_of en) piece
  unfolding added state_of
  added-entry piece =
      same-state _ _ refl
      (ap (λ (k : ℕ). en.before + k) (length-append s piece) ∙ sym (add_assoc en.before (length s) (length piece)))
      (more-words piece) (ap padded (more-rest piece))

  -- the last bytes of an entry: whole blocks before them change neither the zeros nor the length
  last_entry : (x b : ℕ) → s ++ ending p (entry_length en) x b ≡ front n s ++ last_bytes p (entry_length en) (rest n s) x b
  unfolding ending last_bytes
  last_entry x b =
      let k = fine.blocks in
      let m = length s / n in
      let place : entry_length en ≡ (k + m) * n + length (rest n s) =
      ap₂ ◌+◌ fine.whole (sym (div-add-mod' (length s) n) ∙ ap (λ (j : ℕ). m * n + j) (sym (length_rest n s)))
      ∙ sym (add_assoc (k * n) (m * n) (length (rest n s)))
      ∙ ap (λ (j : ℕ). j + length (rest n s)) (sym (add-mul k m n))
      in
      let count : zeros p.bytes (entry_length en) ≡ zeros p.bytes (length (rest n s)) =
      ap (zeros p.bytes) place ∙ zeros-period p.bytes (k + m) (length (rest n s)) in
      rw count
      (all-bytes _
      ∙ ap (λ (l : List ℕ). front n s ++ l)
      (sym (append_assoc (rest n s) (closing_byte x b ∷ replicate (zeros p.bytes (length (rest n s))) 0)
      (be (2 * p.bytes) (8 * entry_length en + b)))))

  -- the standard's padding of bits, in bytes
  digest-in-bytes : (x b : ℕ) → x < 256 → b ≤ 7 →
      entry_digest en x b ≡ digest_from en.edition (chain p en.start_words (parse_bytes p (s ++ ending p (entry_length en) x b)))
  unfolding entry_digest closed_bits digest_from
  digest-in-bytes x b small few =
      let last = ending p (entry_length en) x b in
      ap (λ (blocks : List (List ℕ)). digest_from en.edition (chain p en.start_words blocks))
      (ap (parse p) (behind-bytes p (width_some en.edition) en.before s x b (omega arith))
      ∙ parse-bytes p (s ++ last) (below-append s last fine.bytes (ending-bytes p (entry_length en) x b small (omega arith))))

  -- the entry's digest is the state's
  pub digest-entry : (x b : ℕ) → x < 256 → b ≤ 7 → entry_digest en x b ≡ Steps.closed_digest (state_of en) x b
  unfolding Steps.closed_digest state_of
  digest-entry x b small few =
      digest-in-bytes x b small few
      ∙ ap (digest_from en.edition)
      (ap (λ (l : List ℕ). chain p en.start_words (parse_bytes p l)) (last_entry x b)
      ∙ behind-front (last_bytes p (entry_length en) (rest n s) x b)
      ∙ ap₂ (λ (t : List ℕ) (k : ℕ). absorbed en.edition (state_of en).words (last_bytes p (entry_length en) t x k))
      (sym pending-state) (sym (mod-eq_of_lt (omega arith)))
      ∙ sym (finished-absorbed en.edition (state_of en).words (entry_length en) (pending (state_of en)) x b))

  pub with-fine : (piece : List ℕ) → Bytes piece → too_long en.edition (entry_length en) (length piece) ≡ false → Fine (with en piece)
  with-fine piece all room =
      record {
        is_known = fine.is_known;
        eight = fine.eight;
        below = fine.below;
        blocks = fine.blocks;
        whole = fine.whole;
        bytes = below-append s piece fine.bytes all;
        within =
            sym (same_sum en.edition (entry_length en) (length piece) (entry_length (with en piece)) 0
            (omega (arith, length-append s piece))) ∙ room;
        begun = fine.begun;
      }

-- ---- where entries come from

pub opened-state : (e : ℕ) → state_of (opened_entry e) ≡ opened e
unfolding state_of opened at_front
opened-state e =
    let p = width e in
    same-state _ _ refl refl (absorbed-chain e (start e) [] (start-lt e) ∙ absorbed-none e (start e) [] (start-lt e) (block-some e))
    (ap padded (drop-nil (0 / block_bytes p * block_bytes p)))

pub opened-fine : (e : ℕ) → known e ≡ true → Fine (opened_entry e)
opened-fine e k =
    record {
      is_known = k;
      eight = length-start e;
      below = start-lt e;
      blocks = 0;
      whole = sym (zero-mul (block_bytes (width e)));
      bytes = λ i. omega arith;
      within = no_length e;
      begun = λ _. refl;
    }

-- an entry made of a sound state stands for that state
module _ (h : HalfRead) (shaped : Shaped h) (facts : Sound h) where
  abbrev entry_of : Entry
  entry_of = record { edition = h.edition; start_words = h.words; before = h.count - tail_length h; since = pending h }

  pending-long : length (pending h) ≡ tail_length h
  pending-long = length-pending h shaped.wide

  entry-count : h.count - tail_length h + length (pending h) ≡ h.count
  entry-count = omega (arith, pending-long, mod-le h.count (block_of h))

  entry-state : state_of entry_of ≡ h
  unfolding state_of
  entry-state =
      let p = width h.edition in
      let small : length (pending h) < block_of h = rw pending-long (tail-lt h) in
      same-state _ _ refl entry-count
      (absorbed-chain h.edition h.words (pending h) facts.below
      ∙ absorbed-none h.edition h.words (pending h) facts.below small)
      (ap (λ (k : ℕ). padded (drop (k * block_of h) (pending h))) (div-eq_of_lt small)
      ∙ ap (λ (k : ℕ). padded (drop k (pending h))) (zero-mul (block_of h))
      ∙ sym facts.tail)

  entry-fine : Fine entry_of
  entry-fine =
      record {
        is_known = facts.known;
        eight = shaped.eight;
        below = facts.below;
        blocks = h.count / block_of h;
        whole = omega (arith, div-add-mod' h.count (block_of h));
        bytes = below-take (tail_length h) h.tail shaped.bytes;
        within = rw entry-count facts.limited;
        begun = λ z. facts.begun (omega (arith, tail-lt h, mod-le h.count (block_of h)));
      }

module _ (bytes : List ℕ) (all : Bytes bytes) (is_one : is_record bytes ≡ true) where
  shape : Shaped (loaded bytes)
  shape = loaded-shaped bytes all

  facts-of : Sound (loaded bytes)
  facts-of = sound-facts (loaded bytes) (loaded-sound bytes is_one) shape

  -- the entry that the ledger loads is the one of the state
  entry-loaded : loaded_entry bytes ≡ entry_of (loaded bytes) shape facts-of
  unfolding loaded_entry read_in
  entry-loaded =
      let long = tail-long bytes all is_one in
      λ i.
      record {
        edition = read_edition bytes;
        start_words = read_words bytes;
        before = read_length bytes - long i;
        since = sym (pending-read bytes all long) i;
      }

  pub loaded-state : state_of (loaded_entry bytes) ≡ loaded bytes
  loaded-state = ap state_of entry-loaded ∙ entry-state (loaded bytes) shape facts-of

  pub loaded-fine : Fine (loaded_entry bytes)
  loaded-fine = subst Fine (sym entry-loaded) (entry-fine (loaded bytes) shape facts-of)
