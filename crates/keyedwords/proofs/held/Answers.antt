-- `keyedwords::held` meets its contract: the first of the words hold what all of them do. Assumes nothing.
use mathlib.Core.Path.{ap, ◌∙◌}
use Rattle.keyedwords.specs.Words.{keyed_in}
use Rattle.keyedwords.proofs.Packing.{held-front}
use Rattle.keyedwords.proofs.held.Goals as goal

pub returns-in-Some : goal.returns-in-Some
returns-in-Some c = let front = c.in-Some.ensures.cases in
    (front.enough, ap keyed_in front.same ∙ held-front _)
