-- `listing::says::refusal` meets its contract: the name as it is shown, and the reason behind it.
use mathlib.Core.Path.{ap}
use Rattle.lines.proofs.Putting.{then, renamed}
use Rattle.listing.specs.Shown.{shown}
use Rattle.listing.specs.Says.{refusal_line}
use Rattle.listing.proofs.says.refusal.Goals as goal

pub returns : goal.returns
unfolding refusal_line
returns c = let cut = ap shown c.part.ensures.result_value in
    then _ _ _ _ (renamed _ _ _ _ cut c.put_shown-at.ensures) (renamed _ _ _ _ c.words.ensures c.append.ensures)
