-- `yardlist::put` meets its contract.
use Prim.Native.Nat.{ℕ, ◌≤◌}
use mathlib.Core.List.{List}
use mathlib.Core.Path.{◌≡◌, sym}
use native.Mathlib.Omega.{arith}
use lib.ListN.{length}
use lib.Seq.{length-take-le}
use Rattle.fips.specs.Editions.{digest_bytes}
use Rattle.fips.proofs.Editions.{digest-short}
use Rattle.yardlist.proofs.Entering.{closes}
use Rattle.yardlist.proofs.put.Goals as goal

short : (n e : ℕ) (to : List ℕ) → n ≡ digest_bytes e → length to ≡ 64 → n ≤ length to
short n e to p l = omega (arith, digest-short e)

pub slice_bounds-out-end : goal.slice_bounds-out-end
slice_bounds-out-end c = short _ _ c.close.new.out c.digest_bytes-size.ensures c.close.auto.out

pub slice_bounds-put-end : goal.slice_bounds-put-end
slice_bounds-put-end c =
    sym (length-take-le _ _ (short _ _ c.close.new.out c.digest_bytes-size.ensures c.close.auto.out))

pub returns : goal.returns
returns c =
    closes _ _ _ _ _ _ _ _ c.close.ensures.outcome (sym c.in_ok-map_err.ensures.variant) c.digest_bytes-size.ensures
    c.edition.ensures c.put.ensures.puts c.answered.ensures
