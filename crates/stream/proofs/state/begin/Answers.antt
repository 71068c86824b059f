-- `stream::state::begin` meets its contract: all zeros are the form of nothing. Assumes nothing.
use mathlib.Core.List.{flatten}
use borrow.Author.Rules.{rules}
use Rattle.slices.specs.AtFront.{at_front}
use Rattle.stream.specs.State.{state_of}
use Rattle.stream.proofs.state.begin.Goals as goal

pub returns : goal.returns
unfolding state_of at_front flatten
returns c = search rules
