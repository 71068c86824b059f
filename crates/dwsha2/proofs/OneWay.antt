-- Every message of bits within the limit is passed in exactly one way that is refused neither with 7 nor with 8: `one_way`.
-- What is not refused so is a message within the limit: `message-within`. Of hash at once: `passed-hashed` and `taken-passes`; of the
-- function itself, by its own contract: `message-hashed` and `taken-within`.
use Prim.Native.Nat.{ℕ, ◌+◌, ◌*◌, ◌/◌, ◌≤◌, ◌<◌}
use mathlib.Core.Bool.{Bool, true, false, not, cond}
use mathlib.Core.List.{List}
use mathlib.Core.Path.{◌≡◌, refl, sym, ap, ◌∙◌}
use native.Mathlib.Omega.{arith}
use lib.Dec.{ltb}
use lib.ListN.{length}
use borrow.Author.Tests.{le-ltb}
use Rattle.contracts.specs.Says.{Made, exit}
use Rattle.answers.specs.Judged.{first}
use Rattle.answers.specs.Numbers.{number_of}
use Rattle.fips.specs.Editions.{known, digest_bytes, digest}
use Rattle.fips.specs.Message.{bytes_in}
use Rattle.fips.proofs.Parts.{bits_behind, closing_in, few-behind, bytes_in-bytes, length-bytes_in, closing_in-byte, closing_in-zeros}
use Rattle.fips.proofs.Parts.{parts-message, message-wholes, message-bits, message-bytes, message-closing}
use Rattle.slices.specs.AtFront.{at_front}
use Rattle.slices.specs.Below.{Bytes}
use Rattle.dwsha2.specs.Closing.{closing_fits}
use Rattle.dwsha2.specs.Hash.{Hashes, hash_tests, hashed}
use Rattle.dwsha2.specs.Limit.{limit, too_long}
use Rattle.dwsha2.proofs.Limits.{within-limit, limit-within}
use Rattle.dwsha2.specs.Passing.{Way, meant, Within, Passes}
use Rattle.dwsha2.proofs.AtOnce.{closing-few, closing-zeros, closing-fits}
use Rattle.dwsha2.specs.contracts.hash.hash as hash
use Rattle.dwsha2.proofs.hash.hash.Reads as hash-reads

-- the way that the message itself tells
abbrev pub way_of : List Bool → Way
way_of m = record { bytes = bytes_in m; closing = closing_in m; bits = bits_behind m }

-- within the limit: at most so many whole bytes, and seven bits
pub within-bits : (e : ℕ) (m : List Bool) → (Within e m → length m ≤ 8 * limit + 7) × (length m ≤ 8 * limit + 7 → Within e m)
within-bits e m =
    (λ h. omega (arith, limit-within e 0 (length m / 8) h), λ h. within-limit e 0 (length m / 8) (omega arith))

-- what is refused neither with 7 nor with 8 is a message within the limit
pub message-within : (e : ℕ) (w : Way) → too_long e 0 (length w.bytes) ≡ false → closing_fits w.closing w.bits ≡ true →
    Within e (meant w)
message-within e w short fits =
    ap (too_long e 0) (message-wholes w.bytes w.closing w.bits (omega (arith, closing-few w.closing w.bits fits))) ∙ short

module _ (e : ℕ) (m : List Bool) where
  pub message-passed : Within e m → Passes e m (way_of m)
  message-passed h =
      record {
        whole = bytes_in-bytes m;
        byte = closing_in-byte m;
        short = ap (too_long e 0) (length-bytes_in m) ∙ h;
        fits = closing-fits (closing_in m) (bits_behind m) (omega (arith, few-behind m)) (closing_in-zeros m);
        means = parts-message m;
      }

  module _ (w : Way) (p : Passes e m w) where
    few : w.bits < 8
    few = omega (arith, closing-few w.closing w.bits p.fits)

    -- a message that is passed is within the limit
    pub passed-within : Within e m
    passed-within = ap (λ (l : List Bool). too_long e 0 (length l / 8)) (sym p.means) ∙ message-within e w p.short p.fits

    -- and is so in the way that it tells
    passed-as : w ≡ way_of m
    passed-as =
        let bytes : bytes_in m ≡ w.bytes =
        ap bytes_in (sym p.means) ∙ message-bytes w.bytes w.closing w.bits few p.whole in
        let closing : closing_in m ≡ w.closing =
        ap closing_in (sym p.means)
        ∙ message-closing w.bytes w.closing w.bits few p.byte (closing-zeros w.closing w.bits p.fits) in
        let bits : bits_behind m ≡ w.bits = ap bits_behind (sym p.means) ∙ message-bits w.bytes w.closing w.bits few in
        λ i. record { bytes = sym bytes i; closing = sym closing i; bits = sym bits i }

  pub passed-once : (v w : Way) → Passes e m v → Passes e m w → v ≡ w
  passed-once v w p q = passed-as v p ∙ sym (passed-as w q)

  -- exactly one way
  pub one_way : Within e m → (w : Way) × (Passes e m w × ((v : Way) → Passes e m v → v ≡ w))
  one_way h = (way_of m, (message-passed h, passed-as))

-- ---- hash at once

other-numbers : (k s : Bool) {n : ℕ} → n ≡ cond k 5 (cond s 9 0) → (n ≡ 7 → ⊥) × (n ≡ 8 → ⊥)
other-numbers true s e = (λ q. omega arith, λ q. omega arith)
other-numbers false true e = (λ q. omega arith, λ q. omega arith)
other-numbers false false e = (λ q. omega arith, λ q. omega arith)

module _ (e : ℕ) (w : Way) {out left : List ℕ} {n : ℕ} (j : Hashes e w.bytes w.closing w.bits out n left) where
  module _ (m : List Bool) (p : Passes e m w) where
    -- a message that is passed is answered neither with 7 nor with 8
    pub passed-taken : (n ≡ 7 → ⊥) × (n ≡ 8 → ⊥)
    unfolding hash_tests first
    passed-taken =
        other-numbers (not (known e)) (ltb (length out) (digest_bytes e))
        (j.answer ∙ rw (p.short, p.fits))

    -- and with an edition that there is, and room for it, its digest is written
    pub passed-hashed : known e ≡ true → digest_bytes e ≤ length out → (n ≡ 0) × (left ≡ at_front (digest e m) out)
    unfolding hash_tests first hashed
    passed-hashed k room =
        let passed : first (hash_tests e w.bytes w.closing w.bits out) ≡ 0 =
        rw (k, p.short, p.fits, le-ltb (length out) (digest_bytes e) room) in
        (j.answer ∙ passed, j.leaves ∙ rw passed (ap (λ (l : List Bool). at_front (digest e l) out) p.means))

  -- what is answered neither with 7 nor with 8, in an edition that there is, is a message that is passed
  module _ (k : known e ≡ true) (h7 : n ≡ 7 → ⊥) (h8 : n ≡ 8 → ⊥) where
    neither : (l f : Bool) → too_long e 0 (length w.bytes) ≡ l → closing_fits w.closing w.bits ≡ f → (l ≡ false) × (f ≡ true)
    unfolding hash_tests first
    neither true true p q = absurd (omega (arith, simp (k, p, q) at j.answer, h7, h8))
    neither true false p q = absurd (omega (arith, simp (k, p, q) at j.answer, h7, h8))
    neither false true p q = (refl, refl)
    neither false false p q = absurd (omega (arith, simp (k, p, q) at j.answer, h7, h8))

    both-pass : (too_long e 0 (length w.bytes) ≡ false) × (closing_fits w.closing w.bits ≡ true)
    both-pass = neither (too_long e 0 (length w.bytes)) (closing_fits w.closing w.bits) refl refl

    pub taken-passes : Bytes w.bytes → w.closing < 256 → Passes e (meant w) w
    taken-passes whole byte = record { whole = whole; byte = byte; short = both-pass.0; fits = both-pass.1; means = refl }

-- ---- the function itself, by its own contract

-- a call of `dwsha2::hash::hash` that was made: the edition, the way that it was lent, and the output before and after
module _ (c : Made hash.ended hash-reads.Learnt) where
  abbrev asked : ℕ
  asked = c.args.0

  abbrev lent_way : Way
  lent_way = record { bytes = c.args.1.0.now; closing = c.args.1.1.0; bits = c.args.1.1.1.0 }

  abbrev lent_out : List ℕ
  lent_out = c.args.1.1.1.1.0.now

  abbrev left_out : List ℕ
  left_out = (exit c).1.1.1.1.0.now

  -- one that passes a message, in an edition that there is and with room for its digest, is done and writes that digest
  pub message-hashed : (m : List Bool) → Passes asked m lent_way → known asked ≡ true → digest_bytes asked ≤ length lent_out →
      (number_of c.result ≡ 0) × (left_out ≡ at_front (digest asked m) lent_out)
  message-hashed m = passed-hashed asked lent_way c.learnt m

  -- one that answers neither 7 nor 8, in an edition that there is, was lent a message within the limit
  pub taken-within : known asked ≡ true → (number_of c.result ≡ 7 → ⊥) → (number_of c.result ≡ 8 → ⊥) → Within asked (meant lent_way)
  taken-within k h7 h8 =
      let both = both-pass asked lent_way c.learnt k h7 h8 in
      message-within asked lent_way both.0 both.1
