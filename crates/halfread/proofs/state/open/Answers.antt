-- `halfread::state::open` meets its contract: the words are the edition's starting words. Assumes nothing.
use mathlib.Core.Path.{refl}
use Rattle.halfread.specs.Steps.{opened}
use Rattle.halfread.proofs.Fields.{same-state}
use Rattle.halfread.proofs.state.open.Goals as goal

pub returns : goal.returns
unfolding opened
returns c = same-state _ _ refl refl c.starting_words-words.ensures refl
