-- `streamwords::held` meets its contract: the first of the words hold what all of them do. Assumes nothing.
use mathlib.Core.Path.{ap, ◌∙◌}
use Rattle.streamwords.specs.Words.{stream_in}
use Rattle.streamwords.proofs.Packing.{held-front}
use Rattle.streamwords.proofs.held.Goals as goal

pub returns-in-Some : goal.returns-in-Some
returns-in-Some c = let front = c.in-Some.ensures.cases in
    (front.enough, ap stream_in front.same ∙ held-front _)
