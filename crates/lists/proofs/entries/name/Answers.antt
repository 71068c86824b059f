-- `lists::entries::name` meets its contract: the entry says where its name stands.
use mathlib.Core.Path.{refl}
use Prim.Native.Nat.{◌<◌}
use native.Mathlib.Omega.{arith}
use Rattle.lists.specs.Layout.{count_in}
use Rattle.slices.proofs.LiesAt.{lies-first, lies-also}
use Rattle.lists.proofs.ByNumber.{no_name, name-at, name-place}
use Rattle.lists.proofs.entries.name.Goals as goal
use Rattle.lists.proofs.entries.name.Goals.{Else-count-i}

pub returns-then-count-i : goal.returns-then-count-i
returns-then-count-i c = record {
  result_value = no_name _ c.args.list.now (omega (arith, c.count.ensures, c.if-count-i.true));
  lies_at =
      lies-first refl refl refl;
}

inside : (c : Else-count-i) → c.args.i < count_in c.args.list.now
inside c = omega (arith, c.count.ensures, c.if-count-i.false)

pub returns : goal.returns
returns c = let bs = c.args.list.now in
    let at = c.entry_at-at.ensures.0 in
    let from = c.number.ensures in
    record {
      result_value = name-at bs _ (inside (goal.at.returns c).Else-count-i) _ at _ _ _ from c.name_length.ensures
          c.part.ensures.result_value;
      lies_at = lies-also (name-place bs _ (inside (goal.at.returns c).Else-count-i) _ at _ from)
          c.part.ensures.lies_at;
    }

pub entry_at-at-requires : goal.entry_at-at-requires
entry_at-at-requires c = inside c

pub name_length-requires : goal.name_length-requires
name_length-requires c = omega (arith, c.entry_at-at.ensures.1)
