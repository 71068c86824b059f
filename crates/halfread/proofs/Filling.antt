-- A begun block is filled from the front of a piece, and the rest of the piece follows: the steps that `with_piece` takes are `added`.
-- Main statements: `fills-short`, where the block is not filled, and `fills-long`, where it is or none was begun.
use Prim.Native.Nat.{ℕ, ◌+◌, ◌-◌, ◌*◌, ◌/◌, ◌≤◌, ◌<◌}
use mathlib.Core.Bool.{true}
use mathlib.Core.List.{List, ◌++◌, append_assoc}
use mathlib.Core.Path.{◌≡◌, refl, sym, ap, ap₂, ◌∙◌}
use native.Mathlib.Omega.{arith}
use lib.ListN.{length, take, drop, replicate, length-append, take-append-drop}
use lib.Seq.{length-take-le, take-append-add}
use Rattle.slices.specs.AtFront.{at_front}
use Rattle.dwsha2.specs.Code.Hashing.{absorbed}
use Rattle.halfread.specs.declared.HalfRead.{HalfRead}
use Rattle.halfread.specs.State.{block_of, tail_length, pending, padded, sound, tail_room}
use Rattle.slices.specs.Blocks.{rest}
use Rattle.halfread.specs.Steps.{waiting, added}
use Rattle.dwsha2.proofs.Absorbed.{absorbed-none, absorbed-append}
use Rattle.halfread.proofs.Adding.{length-waiting}
use Rattle.slices.proofs.Blocks.{rest-small, rest-append, lack, lack-whole, lack-short}
use Rattle.slices.proofs.Padded.{front-behind, front-padded}
use Rattle.halfread.proofs.Fields.{same-state}
use Rattle.halfread.proofs.Rules.{tail-lt, tail_within}
use Rattle.fips.proofs.Sizes.{block-some, block_within}
use Rattle.halfread.proofs.Soundness.{facts-of, zeros-behind}
use Rattle.halfread.proofs.Tails.{length-pending}
use Rattle.slices.proofs.Parts.{part_to, part-all}

-- ---- the code's steps

module _ (h : HalfRead) (long : length h.tail ≡ tail_room) (ok : sound h ≡ true) (piece : List ℕ) where
  -- the piece behind the tail's bytes, as much as there is room for
  pub filled : {from : ℕ} (mid : List ℕ) → from ≡ tail_length h → mid ≡ at_front piece (take (tail_room - from) (drop from h.tail)) →
      take from h.tail ++ (mid ++ drop (tail_room - from) (drop from h.tail)) ≡ padded (waiting h piece)
  filled {from} mid is_from is_mid =
      let zeros : drop from h.tail ≡ replicate (tail_room - from) 0 =
      rw is_from (zeros-behind h ok long) in
      front-behind tail_room from h.tail piece mid (omega (arith, tail_within h)) long zeros is_mid
      ∙ ap (λ (n : ℕ). padded (take n h.tail ++ piece)) is_from

  pub fills-short : {size from : ℕ} {tail : List ℕ} → size ≡ block_of h → from ≡ tail_length h → tail ≡ padded (waiting h piece) →
      length piece < lack size from →
      record { edition = h.edition; count = h.count + length piece; words = h.words; tail = tail } ≡ added h piece
  unfolding added
  fills-short {size} {from} {tail} is_size is_from is_tail short =
      let short' : length piece < lack (block_of h) (tail_length h) = rw (is_size, is_from) at short in
      let small : length (waiting h piece) < block_of h =
      rw (length-waiting h long piece) (lack-short (block_of h) (tail_length h) (length piece) (tail-lt h) short') in
      let f = facts-of h ok long in
      same-state (record { edition = h.edition; count = h.count + length piece; words = h.words; tail = tail }) (added h piece) refl refl
      (sym (absorbed-none h.edition h.words (waiting h piece) f.below small))
      (is_tail ∙ ap padded (sym (rest-small (block_of h) (waiting h piece) small)))

  pub fills-long : {size from : ℕ} {tail last g v : List ℕ} →
      size ≡ block_of h → from ≡ tail_length h → tail ≡ padded (waiting h piece) →
      lack size from ≤ length piece →
      g ≡ absorbed h.edition h.words (take (from + lack size from) tail) →
      v ≡ absorbed h.edition g (part_to (lack size from) piece) →
      {cut : ℕ} → cut ≡ length (part_to (lack size from) piece) / size * size → last ≡ padded (part_to cut (part_to (lack size from) piece))
      →
      record { edition = h.edition; count = h.count + length piece; words = v; tail = last } ≡ added h piece
  unfolding added
  fills-long {size} {from} {tail} {last} {g} {v} is_size is_from is_tail enough is_g is_v {cut} is_cut is_last =
      let e = h.edition in
      let b = block_of h in
      let n = tail_length h in
      let P = pending h in
      let m = lack b n in
      let is_m : lack size from ≡ m = ap₂ lack is_size is_from in
      let A = P ++ take m piece in
      let R = drop m piece in
      let w = lack-whole b n (tail-lt h) in
      let lp : length P ≡ n = length-pending h long in
      let la : w.0 * b ≡ length A = w.1 ∙ sym (length-append P (take m piece) ∙ ap₂ ◌+◌ lp (length-take-le m piece (omega arith))) in
      let all : waiting h piece ≡ A ++ R =
      ap (λ (l : List ℕ). P ++ l) (sym (take-append-drop m piece)) ∙ sym (append_assoc P (take m piece) R) in
      let front : take (from + lack size from) tail ≡ A =
      ap₂ take (ap₂ ◌+◌ is_from is_m) is_tail
      ∙ front-padded tail_room (waiting h piece) (n + m) (omega (arith, w.2, block_within e)) (rw (length-waiting h long piece)
      (omega arith))
      ∙ ap (λ (k : ℕ). take (k + m) (P ++ piece)) (sym lp)
      ∙ take-append-add P piece m in
      let after : part_to (lack size from) piece ≡ R = part-all (lack size from) piece ∙ ap (λ (k : ℕ). drop k piece) is_m in
      let back : part_to cut (part_to (lack size from) piece) ≡ rest b R =
      part-all cut (part_to (lack size from) piece)
      ∙ ap₂ (λ (k : ℕ) (l : List ℕ). drop k l) (is_cut ∙ ap₂ (λ (l : List ℕ) (k : ℕ). length l / k * k) after is_size) after in
      same-state (record { edition = h.edition; count = h.count + length piece; words = v; tail = last }) (added h piece) refl refl
      (is_v
      ∙ ap₂ (absorbed e) (is_g ∙ ap (absorbed e h.words) front) after
      ∙ sym (absorbed-append e h.words w.0 A R la)
      ∙ ap (absorbed e h.words) (sym all))
      (is_last
      ∙ ap padded (back ∙ sym (rest-append b w.0 A R (block-some e) la))
      ∙ ap (λ (l : List ℕ). padded (rest b l)) (sym all))
