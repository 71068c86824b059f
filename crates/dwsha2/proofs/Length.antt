-- The length in bits of c bytes and b closing bits, as two words of 64 bits: FIPS 180-4 §5.1.
use Prim.Native.Nat.{ℕ, ◌+◌, ◌*◌, ◌/◌, ◌%◌, ◌^◌, ◌<◌}
use mathlib.Core.List.{List, [], ◌∷◌, ◌++◌, append-nil}
use mathlib.Core.Path.{◌≡◌, sym, ap, ap₂, ◌∙◌}
use native.Mathlib.Omega.{arith}
use lib.ListN.{drop}
use lib.Seq.{drop_at}
use Rattle.bigendian.specs.BigEndian.{be}
use Rattle.bigendian.specs.Words.{from_words}
use Rattle.bigendian.proofs.BigEndian.{be-append, be-mod, length-be}

pub length-words : (c b : ℕ) → b < 8 → from_words 8 (c / 2 ^ 61 ∷ (c % 2 ^ 61 * 8 + b) ∷ []) ≡ be 16 (8 * c + b)
unfolding from_words
length-words c b h =
    let l = 8 * c + b in
    let high : c / 2 ^ 61 ≡ l / 256 ^ 8 = omega arith in
    let low : c % 2 ^ 61 * 8 + b ≡ l % 256 ^ 8 = omega arith in
    ap₂ (λ (x y : List ℕ). x ++ y) (ap (be 8) high) (append-nil (be 8 (c % 2 ^ 61 * 8 + b)) ∙ ap (be 8) low ∙ be-mod 8 l)
    ∙ sym (be-append 8 8 l)

-- the lower m bytes alone
pub be-low : (n m l : ℕ) → drop n (be (n + m) l) ≡ be m l
be-low n m l = ap (drop n) (be-append n m l) ∙ drop_at (be n (l / 256 ^ m)) (be m l) n (length-be n (l / 256 ^ m))
