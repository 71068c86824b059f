-- The limit of a stream: how many roots are held below it, `few-roots`, and when a piece passes it, `past_room`. Counts of bits are small:
-- `count_fits`.
use Prim.Native.Nat.{ℕ, ◌+◌, ◌-◌, ◌*◌, ◌^◌, ◌≤◌}
use mathlib.Core.Bool.{Bool, true, false}
use mathlib.Core.Path.{◌≡◌, refl, sym, ap, ◌∙◌}
use native.Mathlib.Omega.{arith}
use borrow.Author.Tests.{ltb-true, ltb-false, lt-ltb, le-ltb}
use mir.Syntax.{w64}
use mir.Val.{Fits}
use lib.Count.{ones, ones-le, ones_cat}
use lib.Dec.{ltb}
use Rattle.stream.specs.State.{most_chunks}

-- what is left of a limit is less than n just where n more pass it
pub past_room : (limit t n : ℕ) → t ≤ limit → ltb (limit - t) n ≡ ltb limit (t + n)
past_room limit t n within = go (ltb (limit - t) n) refl
  where
    go : (b : Bool) → ltb (limit - t) n ≡ b → ltb (limit - t) n ≡ ltb limit (t + n)
    go true e = e ∙ sym (lt-ltb limit (t + n) (omega (arith, ltb-true (limit - t) n e)))
    go false e = e ∙ sym (le-ltb limit (t + n) (omega (arith, ltb-false (limit - t) n e)))

-- 2^32 has one, and what is below it has at most as many as it has digits
at-limit : (n : ℕ) → n ≡ 2 ^ 32 → ones n ≤ 32
unfolding ones
at-limit n e =
    let one : 2 ^ 32 ≡ 1 * 2 ^ 32 + 0 = omega arith in
    omega (arith, ap ones (e ∙ one) ∙ ones_cat 32 1 0 (omega arith))

pub few-roots : (n : ℕ) → n ≤ most_chunks → ones n ≤ 32
few-roots n most = go (ltb n most_chunks) refl
  where
    go : (b : Bool) → ltb n most_chunks ≡ b → ones n ≤ 32
    go true e = ones-le 32 n (ltb-true n most_chunks e)
    go false e = at-limit n (omega (arith, ltb-false n most_chunks e))

-- a count of the bits of a word fits any integer
pub count_fits : (n : ℕ) → n ≤ 64 → Fits w64 n
count_fits n few = record { fits = omega arith }
