-- `bigendian::get` meets its contract. The invariant: x is the number that the bytes read so far make, kept as a word.
use mathlib.Core.Path.{◌≡◌, refl, ◌∙◌, ap}
use mathlib.Core.List.{List}
use Prim.Native.Nat.{ℕ, ◌+◌, ◌*◌, ◌%◌, ◌^◌, ◌<◌}
use native.Mathlib.Omega.{arith}
use native.Mathlib.Numerals.{add-one}
use lib.ListN.{length, take, get_or}
use lib.Seq.{take-suc, take_all}
use Rattle.bigendian.specs.BigEndian.{number, word64}
use Rattle.bigendian.proofs.BigEndian.{number_append}
use Rattle.bigendian.proofs.get.Goals as goal

-- one byte more

turn : (s : List ℕ) (i x : ℕ) → i < length s → get_or s i 0 < 256 → x ≡ word64 (number (take i s))
    → x % 2 ^ 56 * 256 + get_or s i 0 ≡ word64 (number (take (i + 1) s))
unfolding number
turn s i x h b e = rw (add-one, take-suc s i 0, number_append) (omega arith)

pub loop-b-init : goal.loop-b-init
unfolding number
loop-b-init c = refl

pub overflow_add-x : goal.overflow_add-x
overflow_add-x c = omega (arith, c.from.ensures, c.type_inv.s c.loop-b.b-index)

pub loop-b-preserved : goal.loop-b-preserved
loop-b-preserved c = let l = c.loop-b in
    ap (λ (b : ℕ). l.x % 2 ^ 56 * 256 + b) c.from.ensures
    ∙ turn _ l.b-index l.x c.loop-b-test.true (c.type_inv.s l.b-index).fits l.invariant

pub returns : goal.returns
returns c = let l = c.loop-b in
    l.invariant ∙ ap (λ (bs : List ℕ). word64 (number bs)) (take_all l.b-index c.args.s.now (omega arith))
