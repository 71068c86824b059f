-- `bigendian::put` meets its contract. It writes from the end: the invariant says that from i on stand the last bytes of x,
-- and that what is left of x is x without them.
use mathlib.Core.Path.{◌≡◌, refl, sym, ◌∙◌}
use mathlib.Core.List.{List}
use Prim.Native.Nat.{ℕ, suc, ◌-◌, ◌/◌, ◌%◌, ◌^◌, ◌<◌}
use native.Mathlib.Nat.{sub_self, sub-zero, pow-suc, div-div-eq-div-mul, div-one}
use native.Mathlib.Omega.{arith}
use lib.ListN.{length, drop, set, length-set}
use lib.Seq.{drop-cons, drop-set-lt, drop-length, get_or-set_same}
use Rattle.bigendian.specs.BigEndian.{be}
use Rattle.bigendian.proofs.put.Goals as goal
use Rattle.bigendian.proofs.put.Invariants.{Filled}

empty : (d : List ℕ) (x : ℕ) → Filled d x d x (length d)
unfolding be
empty d x = record { size = refl; within = omega arith; bytes = drop-length d ∙ rw sub_self; left = rw sub_self (sym (div-one x)) }

-- one byte more, where k stand already

turn : (d₀ : List ℕ) (x : ℕ) (d : List ℕ) (rest i j : ℕ) → i ≡ suc j → Filled d₀ x d rest i
    → Filled d₀ x (set d j (rest % 256)) (rest / 256) j
unfolding be
turn d₀ x d rest i j e f =
    let k = length d₀ - suc j in
    let n : length d₀ - j ≡ suc k = omega arith in
    let q : rest ≡ x / 256 ^ k = f.left ∙ rw e in
    let b : drop (suc j) d ≡ be k x = rw e at f.bytes in
    let l : j < length (set d j (rest % 256)) = simp length-set (omega arith) in
    record {
      size = length-set d j (rest % 256) ∙ f.size;
      within = omega arith;
      bytes =
          rw (
            n,
            drop-cons (set d j (rest % 256)) j 0 l,
            get_or-set_same d j (rest % 256) 0 (omega arith),
            drop-set-lt (suc j) d j (rest % 256) (omega arith),
            b,
            q,
          );
      left = rw (n, pow-suc, ← div-div-eq-div-mul x (256 ^ k) 256, q);
    }

whole : (d₀ : List ℕ) (x : ℕ) (d : List ℕ) (rest i : ℕ) → i ≡ 0 → Filled d₀ x d rest i → d ≡ be (length d₀) x
whole d₀ x d rest i e f = rw (e, sub-zero) at f.bytes

pub loop-i-preserved : goal.loop-i-preserved
loop-i-preserved c = turn _ _ _ _ c.loop-i.i (c.loop-i.i - 1) (omega arith) c.loop-i.invariant

pub returns : goal.returns
returns c = whole _ _ _ _ c.loop-i.i (omega arith) c.loop-i.invariant

pub loop-i-init : goal.loop-i-init
loop-i-init c = empty _ _
