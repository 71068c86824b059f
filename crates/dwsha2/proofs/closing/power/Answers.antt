-- `dwsha2::closing::power` meets its contract: a shift of 1 loses nothing. Assumes nothing.
use mathlib.Core.Path.{◌∙◌}
use native.Mathlib.Nat.{one-mul}
use native.Mathlib.Omega.{arith}
use Prim.Native.Nat.{◌^◌}
use lib.Pow.{shl_exact}
use Rattle.dwsha2.proofs.closing.power.Goals as goal

pub returns : goal.returns
returns c = shl_exact {a = 1} 1 c.args.k 64 (omega arith) (omega arith) ∙ one-mul (2 ^ c.args.k)
