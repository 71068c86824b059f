-- The ledger's own record is the one of records: `record-agrees`, the same bytes, and `loads-agree`, the same bytes load.
use Prim.Native.Nat.{ℕ, ◌+◌, ◌^◌}
use mathlib.Core.Bool.{Bool, true, false, ◌||◌}
use mathlib.Core.List.{List, [], ◌++◌, append_assoc}
use mathlib.Core.Path.{◌≡◌, sym, ap, subst, ◌∙◌}
use native.Mathlib.Omega.{arith}
use lib.ListN.{length, drop, length-drop}
use borrow.Author.Tests.{not-true, eq-eqb, eqb-true, lt-leb}
use Rattle.slices.specs.Below.{Below, Bytes}
use Rattle.slices.proofs.Below.{below-drop}
use Rattle.slices.proofs.Tests.{tests_agree, holds_at, holds_on, holds-last, same-eq, eq-same}
use Rattle.bigendian.specs.BigEndian.{be}
use Rattle.bigendian.specs.Rows.{row_bytes}
use Rattle.bigendian.specs.Words.{from_words}
use Rattle.bigendian.proofs.BigEndian.{pow-256}
use Rattle.bigendian.proofs.Words.{to_words-below}
use Rattle.fips.specs.Words.{word}
use Rattle.fips.specs.Editions.{width}
use Rattle.halfread.specs.declared.HalfRead.{HalfRead}
use Rattle.halfread.specs.State.{tail_length, pending, padded, rules, sound}
use Rattle.halfread.proofs.Rules.{tail_within}
use Rattle.halfread.proofs.Soundness.{facts-sound}
use Rattle.halfread.proofs.Tails.{take-padded}
use Rattle.records.specs.Record.{header, record_in, record_of, record_length, read_in, loaded, is_record_in, is_record}
use Rattle.records.proofs.Records.{length-record_of, loaded-shaped, loaded-sound, loaded-saves}
use Rattle.ledger.specs.Records.{tail_place, record_bytes, read_edition, read_length, read_words, read_tail, loads}

-- ---- what is written

flat : (a b c d e f g h w t : List ℕ) →
    (a ++ (b ++ (c ++ (d ++ (e ++ (f ++ (g ++ (h ++ [])))))))) ++ (w ++ t) ≡ a ++ b ++ c ++ d ++ e ++ f ++ g ++ h ++ w ++ t
flat a b c d e f g h w t = simp append_assoc

pub record-agrees : (h : HalfRead) → length (pending h) ≡ tail_length h →
    record_bytes h.edition h.count h.words (pending h) ≡ record_of h
unfolding record_bytes record_in header row_bytes
record-agrees h e =
    let at : ℕ = tail_place h.edition in
    let k : ℕ = tail_length h in
    rw e
    (sym (flat (be 2 h.edition) (be 2 8) (be 2 24) (be 2 at) (be 8 h.count) (be 2 k) (be 2 (at + k)) (be 4 0)
    (from_words (width h.edition).bytes h.words) (pending h)))

-- ---- what loads

module _ (bytes : List ℕ) (all : Bytes bytes) where
  abbrev half : HalfRead
  half = loaded bytes

  -- where the tail is as long as the length says
  module _ (long : length (read_tail bytes) ≡ tail_length half) where
    pub pending-read : pending half ≡ read_tail bytes
    unfolding read_in
    pending-read = take-padded (read_tail bytes) (tail_length half) (omega (arith, tail_within half)) long

    written : record_bytes (read_edition bytes) (read_length bytes) (read_words bytes) (read_tail bytes) ≡ record_of half
    unfolding read_in
    written =
        ap (record_bytes (read_edition bytes) (read_length bytes) (read_words bytes)) (sym pending-read)
        ∙ record-agrees half (ap length pending-read ∙ long)

  pub tail-long : is_record bytes ≡ true → length (read_tail bytes) ≡ tail_length half
  unfolding read_in
  tail-long ok =
      let size : length bytes ≡ record_length half =
      ap length (sym (loaded-saves bytes ok)) ∙ length-record_of half (loaded-shaped bytes all) in
      omega (arith, size, length-drop (tail_place (read_edition bytes)) bytes)

  to : is_record bytes ≡ true → loads bytes ≡ true
  unfolding loads sound read_in
  to ok =
      let at = holds_at (rules half) (loaded-sound bytes ok) in
      let long = tail-long ok in
      holds_on _ _ (at 0) ∙ holds_on _ _ (at 1) ∙ holds_on _ _ (eq-eqb _ _ long) ∙ holds_on _ _ (at 4) ∙ holds-last _
      ∙ eq-same _ _ (written long ∙ loaded-saves bytes ok)

  either : {a b : Bool} → a ≡ false → (a || b) ≡ true → b ≡ true
  either p q = rw p at q

  from : loads bytes ≡ true → is_record bytes ≡ true
  unfolding loads is_record_in read_in
  from ok =
      let at = holds_at _ ok in
      let e = read_edition bytes in
      let long = eqb-true _ _ (at 2) in
      let small : Below (2 ^ word (width e)) (read_words bytes) =
      subst (λ (m : ℕ). Below m (read_words bytes)) (pow-256 (width e).bytes)
      (to_words-below 8 (width e).bytes (drop 24 bytes) (below-drop 24 bytes all)) in
      let is_sound : sound half ≡ true =
      facts-sound half (loaded-shaped bytes all)
      (record {
        known = at 0;
        limited = not-true _ (at 1);
        below = small;
        tail = ap padded (sym (pending-read long));
        begun = λ p. same-eq _ _ (either (lt-leb _ _ p) (at 3));
      }) in
      holds_on _ _ is_sound ∙ holds-last _ ∙ eq-same _ _ (sym (written long) ∙ same-eq _ _ (at 4))

  pub loads-agree : loads bytes ≡ is_record bytes
  loads-agree = tests_agree (loads bytes) (is_record bytes) from to
