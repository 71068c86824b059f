-- `halfread::state::blank` meets its contract: zeros. Assumes nothing.
use mathlib.Core.Path.{refl}
use Rattle.halfread.specs.State.{blank}
use Rattle.halfread.proofs.state.blank.Goals as goal

pub returns : goal.returns
unfolding blank
returns c = refl
