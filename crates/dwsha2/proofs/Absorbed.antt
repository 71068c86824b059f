-- Absorbing at an edition's number: laws of `absorbed`, which the layers above cite.
-- Eight words, `length-absorbed`, of the width, `absorbed-below`; less than a block changes nothing, `absorbed-none`; whole blocks may be
-- taken in any pieces, `absorbed-append`, and a rest is not looked at, `absorbed-rest`. It is the block rule: `absorbed-chain`.
use Prim.Native.Nat.{ℕ, ◌*◌, ◌^◌, ◌<◌}
use mathlib.Core.List.{List, ◌++◌}
use mathlib.Core.Path.{◌≡◌, sym, ap, ◌∙◌}
use lib.ListN.{length}
use Rattle.slices.specs.Below.{Below}
use Rattle.fips.specs.Words.{Width, word, block_bytes}
use Rattle.fips.specs.Constants.{chain, round_words}
use Rattle.fips.specs.Editions.{width}
use Rattle.fips.specs.Code.ByteForm.{parse_bytes}
use Rattle.blockrule.proofs.Blocks.{blocks-none, blocks-lt, length-blocks}
use Rattle.blockrule.proofs.Parse.{parse-none, parse-rest, absorb-append}
use Rattle.dwsha2.specs.Code.Hashing.{fit, absorbed}
use Rattle.dwsha2.proofs.Widths.{fit_same, fit-below, length-fit}

pub absorbed-at : (e : ℕ) (p : Width) (H bytes : List ℕ) → width e ≡ p → absorbed e H bytes ≡ chain p (fit p H) (parse_bytes p bytes)
unfolding absorbed
absorbed-at e p H bytes q = ap (λ (x : Width). chain x (fit x H) (parse_bytes x bytes)) q

-- what is absorbed has words of the edition's width
pub absorbed-below : (e : ℕ) (H bytes : List ℕ) → Below (2 ^ word (width e)) (absorbed e H bytes)
unfolding absorbed
absorbed-below e H bytes =
    let p = width e in
    blocks-lt p (round_words p) (fit p H) (parse_bytes p bytes) (fit-below p H)

module _ (e : ℕ) (H : List ℕ) where
  pub length-absorbed : (bytes : List ℕ) → length H ≡ 8 → length (absorbed e H bytes) ≡ 8
  unfolding absorbed
  length-absorbed bytes l =
      length-blocks (width e) (round_words (width e)) (fit (width e) H) (parse_bytes (width e) bytes) (length-fit (width e) H ∙ l)

  -- less than a block changes nothing
  pub absorbed-none : (bytes : List ℕ) → Below (2 ^ word (width e)) H → length bytes < block_bytes (width e) → absorbed e H bytes ≡ H
  unfolding absorbed
  absorbed-none bytes b h =
      ap (chain (width e) (fit (width e) H)) (parse-none (width e) bytes h)
      ∙ blocks-none (width e) (round_words (width e)) (fit (width e) H)
      ∙ fit_same (width e) H b

  pub absorbed-append : (k : ℕ) (a b : List ℕ) → k * block_bytes (width e) ≡ length a → absorbed e H (a ++ b) ≡ absorbed e (absorbed e H a)
      b
  unfolding absorbed
  absorbed-append k a b l =
      absorb-append (width e) k (fit (width e) H) a b l
      ∙ ap (λ (W : List ℕ). chain (width e) W (parse_bytes (width e) b)) (sym (fit_same (width e) (absorbed e H a) (absorbed-below e H a)))

  pub absorbed-rest : (k : ℕ) (a b : List ℕ) → k * block_bytes (width e) ≡ length a → length b < block_bytes (width e) →
      absorbed e H (a ++ b) ≡ absorbed e H a
  unfolding absorbed
  absorbed-rest k a b l h = ap (chain (width e) (fit (width e) H)) (parse-rest (width e) k a b l h)

  -- of words of the width, absorbing is the block rule over the blocks
  pub absorbed-chain : (bytes : List ℕ) → Below (2 ^ word (width e)) H → chain (width e) H (parse_bytes (width e) bytes) ≡ absorbed e H
      bytes
  unfolding absorbed
  absorbed-chain bytes b = ap (λ (W : List ℕ). chain (width e) W (parse_bytes (width e) bytes)) (sym (fit_same (width e) H b))
