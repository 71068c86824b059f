-- `dwsha2::finish::with_closing` meets its contract: the tail at the front of zeros, and the closing byte behind it. Assumes nothing.
use Prim.Native.Nat.{ℕ}
use mathlib.Core.List.{List}
use mathlib.Core.Path.{ap₂, ◌∙◌}
use native.Mathlib.Omega.{arith}
use lib.ListN.{length, set}
use Rattle.dwsha2.proofs.Last.{tail-and-byte}
use Rattle.dwsha2.proofs.finish.with_closing.Goals as goal

pub returns : goal.returns
returns c = let tail = c.args.tail.now in
    ap₂ (λ (l : List ℕ) (x : ℕ). set l (length tail) x) c.put_front.ensures c.closing_byte.ensures
    ∙ tail-and-byte 255 tail _ (omega (arith, c.requires))
