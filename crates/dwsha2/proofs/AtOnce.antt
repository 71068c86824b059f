-- Hash at once: what its tests tell, and that finishing the whole message from the starting words gives the standard's digest.
-- Main: `digest-at-once`.
use Prim.Native.Nat.{ℕ, ◌+◌, ◌-◌, ◌*◌, ◌%◌, ◌^◌, ◌≤◌, ◌<◌}
use mathlib.Core.Bool.{true, and-eq-true_iff}
use mathlib.Core.List.{List, ◌∷◌, ◌++◌, append_assoc}
use mathlib.Core.Path.{◌≡◌, sym, ap, ap₂, ◌∙◌}
use native.Mathlib.Nat.{mod-eq_of_lt}
use native.Mathlib.Omega.{arith}
use lib.Dec.{leb, eqb}
use lib.ListN.{length, take, replicate}
use borrow.Author.Tests.{leb-true, eqb-true, le-leb, eq-eqb}
use Rattle.bigendian.specs.BigEndian.{be}
use Rattle.slices.specs.Below.{Bytes}
use Rattle.bigendian.specs.Words.{from_words}
use Rattle.fips.specs.Words.{Width}
use Rattle.fips.specs.Padding.{zeros}
use Rattle.fips.specs.Constants.{chain}
use Rattle.fips.specs.Editions.{width, digest_bytes, start, digest}
use Rattle.fips.specs.Message.{message}
use Rattle.fips.specs.Code.ByteForm.{closing_byte, ending, parse_bytes, hash_bytes, digest_of_bytes}
use Rattle.fips.proofs.ByteForm.{digest-bytes}
use Rattle.fips.proofs.Rules.{start-lt}
use Rattle.dwsha2.specs.Closing.{closing_fits}
use Rattle.dwsha2.specs.Code.Hashing.{last_bytes, finished, digest_from}
use Rattle.dwsha2.proofs.Widths.{fit_same}

-- ---- the tests

pub closing-few : (x b : ℕ) → closing_fits x b ≡ true → b ≤ 7
unfolding closing_fits
closing-few x b p = leb-true b 7 ((and-eq-true_iff (leb b 7) (eqb (x % 2 ^ (8 - b)) 0)).0 p).0

pub closing-zeros : (x b : ℕ) → closing_fits x b ≡ true → x % 2 ^ (8 - b) ≡ 0
unfolding closing_fits
closing-zeros x b p = eqb-true (x % 2 ^ (8 - b)) 0 ((and-eq-true_iff (leb b 7) (eqb (x % 2 ^ (8 - b)) 0)).0 p).1

pub closing-fits : (x b : ℕ) → b ≤ 7 → x % 2 ^ (8 - b) ≡ 0 → closing_fits x b ≡ true
unfolding closing_fits
closing-fits x b few none = rw (le-leb b 7 few, eq-eqb (x % 2 ^ (8 - b)) 0 none)

-- ---- the digest

whole-message : (p : Width) (bytes : List ℕ) (x b : ℕ) → last_bytes p (length bytes) bytes x b ≡ bytes ++ ending p (length bytes) x b
unfolding last_bytes ending
whole-message p bytes x b = append_assoc bytes (closing_byte x b ∷ replicate (zeros p.bytes (length bytes)) 0)
    (be (2 * p.bytes) (8 * length bytes + b))

pub digest-at-once : (e : ℕ) (bytes : List ℕ) (x b : ℕ) → Bytes bytes → x < 256 → b ≤ 7 →
    digest_from e (finished e (start e) (length bytes) bytes x b) ≡ digest e (message bytes x b)
unfolding digest_from finished hash_bytes digest_of_bytes
digest-at-once e bytes x b all small few =
    let p = width e in
    let few' : b < 8 = omega arith in
    ap (λ (H : List ℕ). take (digest_bytes e) (from_words p.bytes H))
    (ap₂ (λ (H m : List ℕ). chain p H (parse_bytes p m)) (fit_same p (start e) (start-lt e))
    (ap (last_bytes p (length bytes) bytes x) (mod-eq_of_lt few') ∙ whole-message p bytes x b))
    ∙ sym (digest-bytes e bytes x b all small few')
