-- `lists::entries::digest` meets its contract: the digest stands in the entry, behind the two numbers.
use mathlib.Core.Path.{refl}
use Prim.Native.Nat.{◌<◌}
use native.Mathlib.Omega.{arith}
use Rattle.lists.specs.Layout.{count_in}
use Rattle.slices.proofs.LiesAt.{lies-first, lies-also}
use Rattle.lists.proofs.ByNumber.{no-digest, digest-at, digest-place}
use Rattle.lists.proofs.entries.digest.Goals as goal
use Rattle.lists.proofs.entries.digest.Goals.{Else-count-i}

pub returns-then-count-i : goal.returns-then-count-i
returns-then-count-i c = record {
  result_value = no-digest _ c.args.list.now (omega (arith, c.count.ensures, c.if-count-i.true));
  lies_at =
      lies-first refl refl refl;
}

inside : (c : Else-count-i) → c.args.i < count_in c.args.list.now
inside c = omega (arith, c.count.ensures, c.if-count-i.false)

pub returns : goal.returns
returns c = let bs = c.args.list.now in
    let at = c.entry_at-at.ensures.0 in
    record {
      result_value = digest-at bs _ (inside (goal.at.returns c).Else-count-i) _ at _ _ c.digest_size.ensures
          c.part.ensures.result_value;
      lies_at = lies-also (digest-place bs _ (inside (goal.at.returns c).Else-count-i) _ at)
          c.part.ensures.lies_at;
    }

pub entry_at-at-requires : goal.entry_at-at-requires
entry_at-at-requires c = inside c

pub overflow_add-at : goal.overflow_add-at
overflow_add-at c = omega (arith, c.entry_at-at.ensures.1)
