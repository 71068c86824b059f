-- What stands after the space that `find` found: nothing where it found none. Assumes nothing.
use mathlib.Core.Path.{ap, ◌∙◌}
use Prim.Native.Nat.{suc}
use native.Mathlib.Numerals.{add-one}
use Rattle.slices.proofs.LiesAt.{lies-also}
use Rattle.hexlines.proofs.Fields.{after-space}
use Rattle.hexlines.proofs.other_fields.Goals as goal

pub returns : goal.returns
returns c = let e = c.find.ensures.0 in record {
  result_value = c.part.ensures.result_value ∙ after-space _ _ e;
  lies_at = lies-also (add-one _ ∙ ap suc e) c.part.ensures.lies_at;
}
