-- A number in decimal: the fewest digits that hold it, as `io::decimal` has them, are those of `decimal`.
use Rattle.std.proofs.Common.{◌≡◌, ℕ, zero, suc, ◌+◌, ◌-◌, ◌*◌, ◌/◌, ◌%◌, ◌^◌, ◌<◌, ◌≤◌, [], ◌∷◌, ◌++◌, ap, ap₂, mod-lt, pow-suc, arith}
use Rattle.std.proofs.Common.{le-ltb, lt-ltb}
use native.Mathlib.Nat.{one-le-pow}
use native.Mathlib.Numerals.{unary_clauses}
use Rattle.io.specs.Digits.{hex_digit_ascii, IsDigitCount}
use Rattle.io.specs.Digits.{last_digits as io-digits}
use Rattle.lines.specs.Lines.{digits, decimal}

digit : (n : ℕ) → hex_digit_ascii (n % 10) ≡ 48 + n % 10
digit n = rw (lt-ltb (n % 10) 10 (mod-lt n (omega arith)))

few : (k fuel n : ℕ) → IsDigitCount 10 1 n k → k ≤ fuel → io-digits 10 k n ≡ digits fuel n
unfolding digits
few zero fuel n f h = absurd (omega (arith, f.0))
few (suc k) zero n f h = absurd (omega arith)
few (suc zero) (suc fuel) n f h = rw (lt-ltb n 10 f.1, digit n)
few (suc (suc k)) (suc fuel) n f h =
    let least : 10 ^ k * 10 ≤ n = simp unary_clauses at (f.2 (omega arith)) in
    let ten : 10 ≤ n = omega (arith, least, one-le-pow k 10 (omega arith)) in
    let rest : IsDigitCount 10 1 (n / 10) (suc k) =
    (omega arith, omega (arith, f.1, pow-suc 10 (suc k)), λ g. simp unary_clauses (omega (arith, least))) in
    rw (le-ltb n 10 ten) (ap₂ ◌++◌ (few (suc k) fuel (n / 10) rest (omega arith)) (ap (λ (g : ℕ). g ∷ []) (digit n)))

below-pow : (k : ℕ) → k < 10 ^ k
below-pow zero = omega arith
below-pow (suc k) = omega (arith, below-pow k, pow-suc 10 k)

pub decimal-digits : (k n : ℕ) → IsDigitCount 10 1 n k → io-digits 10 k n ≡ decimal n
unfolding decimal
decimal-digits zero n f = absurd (omega (arith, f.0))
decimal-digits (suc zero) n f = few 1 (n + 1) n f (omega arith)
decimal-digits (suc (suc k)) n f =
    few (suc (suc k)) (n + 1) n f (omega (arith, f.2 (omega arith), below-pow (suc (suc k) - 1)))
