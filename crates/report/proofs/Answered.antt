-- What the answer of a read says, by the bits in which the machine holds its two numbers: `not_there`, `no-permission`, `folder` and
-- `failed` are the reasons of an error's number, and `compared`, `again` and `nothing` what was brought.
use Prim.Native.Nat.{ℕ, zero, suc, ◌<◌}
use mathlib.Core.Bool.{true, false, cond}
use mathlib.Core.List.{[], ◌∷◌}
use mathlib.Core.Logic.{inl, inr}
use mathlib.Core.Path.{◌≡◌, refl, sym, ap, ◌∙◌}
use native.Mathlib.Omega.{arith}
use lib.IntN.{ℤ, pos, negsuc}
use mir.Facts.{to_z-of_z}
use mir.Syntax.{w32, w64}
use mir.Val.{of_z, to_z, SFits}
use types.Run.{OneOf}
use Rattle.std.proofs.Common.{Ordering, Less, Equal, Greater, int_cmp}
use borrow.Author.Tests.{lt-ltb, le-ltb, ne_eqb}
use Rattle.lines.specs.declared.Why.{Why}
use Rattle.report.specs.declared.Brought.{Brought}
use Rattle.report.specs.Reads.{why_of, interrupted, brought}

-- ---- the reason

none : (n : ℕ) → (n ≡ 2 → ⊥) → (n ≡ 20 → ⊥) → (n ≡ 40 → ⊥) → (n ≡ 1 → ⊥) → (n ≡ 13 → ⊥) → (n ≡ 21 → ⊥) → why_of (pos n) ≡ Why.Failed
unfolding why_of
none n a b c d e f = rw (ne_eqb n 2 a, ne_eqb n 20 b, ne_eqb n 40 c, ne_eqb n 1 d, ne_eqb n 13 e, ne_eqb n 21 f)

large : (n : ℕ) → 40 < n → why_of (pos n) ≡ Why.Failed
large n h = none n (λ e. omega arith) (λ e. omega arith) (λ e. omega arith) (λ e. omega arith) (λ e. omega arith) (λ e. omega arith)

by_bits : (z : ℤ) → SFits w32 z → why_of (pos (of_z w32 z)) ≡ why_of z
unfolding why_of
by_bits (pos n) f = refl
by_bits (negsuc n) f = large (of_z w32 (negsuc n)) (omega (arith, f.sfits))

module _ (z : ℤ) (f : SFits w32 z) where
  -- the number that the bits are
  at : (k : ℕ) → of_z w32 z ≡ k → why_of (pos k) ≡ why_of z
  at k e = ap (λ (n : ℕ). why_of (pos n)) (sym e) ∙ by_bits z f

  pub not_there : OneOf (2 ∷ 20 ∷ 40 ∷ []) (of_z w32 z) → Why.NotThere ≡ why_of z
  unfolding why_of
  not_there (inl e) = at 2 e
  not_there (inr (inl e)) = at 20 e
  not_there (inr (inr e)) = at 40 e

  pub no-permission : OneOf (1 ∷ 13 ∷ []) (of_z w32 z) → Why.NoPermission ≡ why_of z
  unfolding why_of
  no-permission (inl e) = at 1 e
  no-permission (inr e) = at 13 e

  pub folder : of_z w32 z ≡ 21 → Why.Folder ≡ why_of z
  unfolding why_of
  folder e = at 21 e

  pub failed : (OneOf (2 ∷ 20 ∷ 40 ∷ []) (of_z w32 z) → ⊥) → (OneOf (1 ∷ 13 ∷ []) (of_z w32 z) → ⊥) → (of_z w32 z ≡ 21 → ⊥) →
      Why.Failed ≡ why_of z
  failed p q r =
      sym
      (none (of_z w32 z) (λ e. p (inl e)) (λ e. p (inr (inl e))) (λ e. p (inr (inr e))) (λ e. q (inl e)) (λ e. q (inr e)) r) ∙ by_bits z f

-- ---- what was brought

-- by how the read's answer compares with 0
abbrev by_order : Ordering → ℤ → Brought
by_order Greater e = Brought.Bytes
by_order Equal e = Brought.End
by_order Less e = cond (interrupted e) Brought.Again (Brought.Nothing (why_of e))

ordered : (z e : ℤ) → by_order (int_cmp z (pos 0)) e ≡ brought z e
unfolding brought
ordered (pos zero) e = refl
ordered (pos (suc n)) e = rw (le-ltb (suc n) 0 (omega arith), lt-ltb 0 (suc n) (omega arith))
ordered (negsuc n) e = refl

module _ (z e : ℤ) (f : SFits w64 z) {o : Ordering} (is : o ≡ int_cmp (to_z w64 (of_z w64 z)) (pos 0)) where
  pub compared : (r : Ordering) → o ≡ r → by_order r e ≡ brought z e
  compared r h = ap (λ (p : Ordering). by_order p e) (sym h ∙ is ∙ ap (λ (y : ℤ). int_cmp y (pos 0)) (to_z-of_z f)) ∙ ordered z e

  module _ (less : o ≡ Less) where
    pub again : SFits w32 e → of_z w32 e ≡ 4 → Brought.Again ≡ brought z e
    again g h = rw (signal e g h) at (compared Less less)
      where
        signal : (y : ℤ) → SFits w32 y → of_z w32 y ≡ 4 → interrupted y ≡ true
        signal (pos n) g k = rw k
        signal (negsuc n) g k = absurd (omega (arith, g.sfits))

    pub nothing : (w : Why) → w ≡ why_of e → (of_z w32 e ≡ 4 → ⊥) → Brought.Nothing w ≡ brought z e
    nothing w is h = ap Brought.Nothing is ∙ rw (no-signal e h) at (compared Less less)
      where
        no-signal : (y : ℤ) → (of_z w32 y ≡ 4 → ⊥) → interrupted y ≡ false
        no-signal (pos n) k = ne_eqb n 4 k
        no-signal (negsuc n) k = refl
