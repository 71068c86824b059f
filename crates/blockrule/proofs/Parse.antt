-- The whole blocks of a list of bytes: one after another, as the loop of `absorb` takes them, and in pieces.
-- Main statement: `absorb-append`, that whole blocks may be taken in any pieces. A rest of less than a block is not looked at.
use Prim.Native.Nat.{ℕ, zero, suc, ◌*◌, ◌≤◌, ◌<◌}
use mathlib.Core.List.{List, [], ◌∷◌, ◌++◌, append-nil}
use mathlib.Core.Path.{◌≡◌}
use native.Mathlib.Nat.{div-eq_of_lt, div-eq-sub-div, zero-div, mul-zero, suc-mul}
use native.Mathlib.Numerals.{add-one}
use native.Mathlib.Omega.{arith}
use lib.ListN.{length, take, drop, length-append, length-drop}
use lib.Seq.{take-append-le, drop-append-le, take-append_seam, drop-append_seam}
use Rattle.bigendian.specs.Words.{to_words}
use Rattle.fips.specs.Bits.{pieces}
use Rattle.fips.specs.Words.{Width, block_bytes}
use Rattle.fips.specs.Block.{block}
use Rattle.fips.specs.Constants.{chain, round_words}
use Rattle.fips.specs.Code.ByteForm.{parse_bytes}
use Rattle.blockrule.proofs.Blocks.{blocks-none, blocks-cons, blocks-append}

positive : (k n x : ℕ) → k * n ≡ suc x → 0 < n
positive k zero x e = absurd (omega (arith, mul-zero k))
positive k (suc n) x e = omega arith

module _ (p : Width) where
  pub parse-none : (s : List ℕ) → length s < block_bytes p → parse_bytes p s ≡ []
  unfolding parse_bytes pieces
  parse-none s h = rw (div-eq_of_lt h)

  pub parse-nil : parse_bytes p [] ≡ []
  unfolding parse_bytes pieces
  parse-nil = rw (zero-div (block_bytes p))

  -- a block, and the blocks of what follows it
  pub parse-cons : (s : List ℕ) → 0 < block_bytes p → block_bytes p ≤ length s
      → parse_bytes p s ≡ to_words 16 p.bytes (take (block_bytes p) s) ∷ parse_bytes p (drop (block_bytes p) s)
  unfolding parse_bytes pieces
  parse-cons s z h = rw (div-eq-sub-div z h, add-one, length-drop (block_bytes p) s)

  parse-whole : 0 < block_bytes p → (k : ℕ) (a b : List ℕ) → k * block_bytes p ≡ length a
      → parse_bytes p (a ++ b) ≡ parse_bytes p a ++ parse_bytes p b
  parse-whole z zero [] b e = rw parse-nil
  parse-whole z zero (x ∷ a) b e = absurd (omega arith)
  parse-whole z (suc k) a b e =
      let n : ℕ = block_bytes p in
      let fits : n ≤ length a = omega (arith, suc-mul k n) in
      let rest : k * n ≡ length (drop n a) = rw (length-drop n a) (omega (arith, suc-mul k n)) in
      rw (
        parse-cons (a ++ b) z (rw (length-append a b) (omega arith)),
        parse-cons a z fits,
        take-append-le n a b fits,
        drop-append-le n a b fits,
        parse-whole z k (drop n a) b rest,
      )

  -- whole blocks, and the blocks of what follows them
  pub parse-append : (k : ℕ) (a b : List ℕ) → k * block_bytes p ≡ length a → parse_bytes p (a ++ b) ≡ parse_bytes p a ++ parse_bytes p b
  parse-append k [] b e = rw parse-nil
  parse-append k (x ∷ a) b e = parse-whole (positive k (block_bytes p) (length a) e) k (x ∷ a) b e

  -- a rest of less than a block is not looked at
  pub parse-rest : (k : ℕ) (a b : List ℕ) → k * block_bytes p ≡ length a → length b < block_bytes p
      → parse_bytes p (a ++ b) ≡ parse_bytes p a
  parse-rest k a b e h = rw (parse-append k a b e, parse-none b h, append-nil)

  -- whole blocks may be taken in any pieces
  pub absorb-append : (k : ℕ) (H a b : List ℕ) → k * block_bytes p ≡ length a
      → chain p H (parse_bytes p (a ++ b)) ≡ chain p (chain p H (parse_bytes p a)) (parse_bytes p b)
  absorb-append k H a b e = rw (parse-append k a b e, blocks-append p (round_words p))

  -- ---- the loop over blocks: what is left decides

  -- a block m is taken from the front of what is left, and v becomes n
  pub chain-more : (v m rest : List ℕ) {n : List ℕ} → length m ≡ block_bytes p → 0 < block_bytes p
      → n ≡ block p (round_words p) v (to_words 16 p.bytes m)
      → chain p n (parse_bytes p rest) ≡ chain p v (parse_bytes p (m ++ rest))
  chain-more v m rest e z d =
      let front : take (block_bytes p) (m ++ rest) ≡ m = rw (← e) (take-append_seam m rest) in
      let behind : drop (block_bytes p) (m ++ rest) ≡ rest = rw (← e) (drop-append_seam m rest) in
      rw (parse-cons (m ++ rest) z (rw (length-append m rest) (omega arith)), front, behind, blocks-cons p (round_words p), d)

  -- less than a block decides nothing more
  pub chain-rest : (v rest : List ℕ) → length rest < block_bytes p → chain p v (parse_bytes p rest) ≡ v
  chain-rest v rest h = rw (parse-none rest h, blocks-none p (round_words p))
