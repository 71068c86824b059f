-- The three cases of `size_within`: no hexadecimal, no room, and the bytes of the text. Assumes nothing.
use Rattle.std.proofs.Common.{arith, ◌≡◌, refl, sym, ◌∙◌, ℕ, ◌/◌, ◌≤◌, ◌<◌, List, ◌++◌, Some, None, true, false, length, drop, min}
use borrow.Author.Tests.{le-leb, lt-leb}
use Rattle.hexlines.specs.Digits.{is_hex, bytes_of, size_within}
use Rattle.hexlines.proofs.unhex_all.Goals as goal
use Rattle.hexlines.proofs.unhex_all.Goals.{then-not-is_hex-via-then-not-is_hex, then-not-is_hex-via-else-not-is_hex+then-d-s}

nothing : (s d : List ℕ) → d ≡ bytes_of s 0 ++ drop 0 d
unfolding bytes_of
nothing s d = refl

module _ (room : ℕ) (s : List ℕ) where
  no_hex : false ≡ is_hex s → None ≡ size_within room s
  unfolding size_within
  no_hex h = simp (← h)

  no_room : true ≡ is_hex s → room < length s / 2 → None ≡ size_within room s
  unfolding size_within
  no_room h l = simp (← h, lt-leb (length s / 2) room l)

  all_there : (n : ℕ) → true ≡ is_hex s → length s / 2 ≤ room → n ≡ min (length s / 2) room → Some n ≡ size_within room s
  unfolding size_within
  all_there n h l e = let m : n ≡ length s / 2 = omega arith in rw m (simp (← h, le-leb (length s / 2) room l))

pub returns-then-not-is_hex-clause-value : goal.returns-then-not-is_hex-clause-value
returns-then-not-is_hex-clause-value c = elim c.then-not-is_hex.branch [
  | then-not-is_hex-via-then-not-is_hex w ↦ no_hex _ _ (sym w.if-not-is_hex.true ∙ c.is_hex.ensures)
  | then-not-is_hex-via-else-not-is_hex+then-d-s w ↦ no_room _ _ (sym w.if-not-is_hex.false ∙ c.is_hex.ensures) w.if-d-s.true
]

pub returns-then-not-is_hex-clause-d_after : goal.returns-then-not-is_hex-clause-d_after
returns-then-not-is_hex-clause-d_after c = nothing _ _

pub returns-clause-value : goal.returns-clause-value
returns-clause-value c = all_there _ _ _ c.if-not-is_hex.ensures c.if-d-s.false c.unhex.ensures.value
