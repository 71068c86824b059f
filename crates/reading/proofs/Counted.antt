-- Where bytes came, as many as are told are at the front of the buffer: `counted`.
use Prim.Native.Nat.{ℕ}
use mathlib.Core.List.{List}
use mathlib.Core.Path.{◌≡◌, subst}
use Rattle.std.specs.Prelude.{Option, Some}
use Rattle.reading.specs.Filled.{Fills}

pub counted : (buffer : List ℕ) {r : Option ℕ} {n : ℕ} → r ≡ Some n → Fills r buffer → Fills (Some n) buffer
counted buffer e f = subst (λ (q : Option ℕ). Fills q buffer) e f
