-- The parts of a line around its first space.
use mathlib.Core.Path.{◌≡◌, ◌∙◌}
use mathlib.Core.List.{List}
use Prim.Native.Nat.{ℕ, ◌+◌}
use native.Mathlib.Omega.{arith}
use native.Mathlib.Numerals.{add-one}
use lib.ListN.{length, take, drop, length-drop}
use lib.Seq.{take_all}
use Rattle.hexlines.specs.Fields.{place, first_field, other_fields}

module _ (s : List ℕ) (end : ℕ) (e : end ≡ place 32 s) where
  pub before-space : take end s ≡ first_field s
  unfolding first_field
  before-space = rw e

  pub after-space : take (length s) (drop (end + 1) s) ≡ other_fields s
  unfolding other_fields
  after-space = take_all (length s) (drop (end + 1) s) (simp length-drop (omega arith)) ∙ rw (add-one, e)
