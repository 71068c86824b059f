-- `lists::lookup` meets its contract: the part at the place found is the digest, and where there is none it is empty. Assumes nothing.
use mathlib.Core.Path.{◌∙◌}
use Rattle.lists.proofs.Places.{found_at, found_none}
use Rattle.lists.proofs.lookup.Goals as goal

pub returns-in-Ok-clause-result_value : goal.returns-in-Ok-clause-result_value
returns-in-Ok-clause-result_value c = c.part.ensures.result_value ∙ (found_at _ _ c.find.ensures c.in-Ok.is).here

pub returns-in-Err-clause-result_value : goal.returns-in-Err-clause-result_value
returns-in-Err-clause-result_value c = found_none _ _ c.find.ensures c.in-Err.is
