-- A message of bytes that was opened, added to and closed has the standard's digest: `closed-digest`. A whole block added to nothing
-- leaves no tail: `given-block`.
use Prim.Native.Nat.{ℕ, ◌*◌, ◌/◌, ◌<◌}
use mathlib.Core.List.{List, [], ◌++◌, append-nil}
use mathlib.Core.Path.{◌≡◌, refl, sym, ap, ap₂, ◌∙◌}
use native.Mathlib.Nat.{zero-mod, mod-lt}
use native.Mathlib.Omega.{arith}
use lib.ListN.{length, take, replicate, take-append-drop}
use Rattle.slices.specs.AtFront.{at_front}
use Rattle.slices.specs.Below.{Bytes}
use Rattle.slices.specs.Blocks.{rest}
use Rattle.slices.proofs.Blocks.{length_rest, length_whole, rest-small, rest-append}
use Rattle.fips.specs.Words.{block_bytes}
use Rattle.fips.specs.Editions.{width, start, digest}
use Rattle.fips.specs.Message.{message}
use Rattle.fips.proofs.Sizes.{block-some}
use Rattle.dwsha2.specs.Code.Hashing.{absorbed, finished, digest_from}
use Rattle.dwsha2.proofs.Absorbed.{absorbed-rest}
use Rattle.dwsha2.proofs.AtOnce.{digest-at-once}
use Rattle.dwsha2.proofs.Finished.{finished-after}
use Rattle.halfread.specs.State.{pending, padded, tail_room}
use Rattle.halfread.specs.Steps.{opened, waiting, added, closed_digest}
use Rattle.halfread.proofs.Adding.{pending-added}
use Rattle.halfread.proofs.Fields.{same-state}

module _ (e : ℕ) where
  abbrev B : ℕ
  B = block_bytes (width e)

  -- nothing waits before a first piece
  first-waiting : (m : List ℕ) → waiting (opened e) m ≡ m
  unfolding opened
  first-waiting m = ap (λ (n : ℕ). take n (replicate tail_room 0) ++ m) (zero-mod B)

  pub given-block : (block : List ℕ) → length block ≡ B →
      added (opened e) block ≡ record { edition = e; count = B; words = absorbed e (start e) block; tail = replicate tail_room 0 }
  unfolding added opened at_front
  given-block block long =
      let none : rest B (waiting (opened e) block) ≡ [] =
      ap (rest B) (first-waiting block ∙ sym (append-nil block))
      ∙ rest-append B 1 block [] (block-some e) (omega arith)
      ∙ rest-small B [] (block-some e) in
      same-state _ _ refl (omega arith) (ap (absorbed e (start e)) (first-waiting block)) (ap padded none)

  -- the whole blocks are absorbed, and the last bytes are those of the rest
  closed-words : (m : List ℕ) (x b : ℕ) →
      finished e (absorbed e (start e) m) (length m) (rest B m) x b ≡ finished e (start e) (length m) m x b
  closed-words m x b =
      let k = length m / B in
      let A = take (k * B) m in
      let R = rest B m in
      let whole : length A ≡ k * B = sym (length_whole B m) in
      let small : length R < B = rw (length_rest B m) (mod-lt (length m) (block-some e)) in
      let all : A ++ R ≡ m = take-append-drop (k * B) m in
      ap (λ (H : List ℕ). finished e H (length m) R x b)
      (ap (absorbed e (start e)) (sym all) ∙ absorbed-rest e (start e) k A R (sym whole) small)
      ∙ finished-after e (start e) (length m) k A R x b whole
      ∙ ap (λ (l : List ℕ). finished e (start e) (length m) l x b) all

  pub closed-digest : (m : List ℕ) (x b : ℕ) → Bytes m → x < 256 → b < 8 →
      closed_digest (added (opened e) m) x b ≡ digest e (message m x b)
  unfolding closed_digest added opened
  closed-digest m x b all small few =
      let is = first-waiting m in
      let h = added (opened e) m in
      let count : h.count ≡ length m = omega arith in
      ap (digest_from e)
      (ap (λ (c : ℕ). finished e h.words c (pending h) x b) count
      ∙ ap₂ (λ (H t : List ℕ). finished e H (length m) t x b) (ap (absorbed e (start e)) is)
      (pending-added (opened e) refl m ∙ ap (rest B) is)
      ∙ closed-words m x b)
      ∙ digest-at-once e m x b all small (omega arith)
