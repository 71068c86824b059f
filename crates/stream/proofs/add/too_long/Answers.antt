-- `stream::add::too_long` meets its contract: what is left of the limit is compared. Assumes nothing.
use Rattle.stream.specs.Steps.{stream_limit, taken}
use Rattle.stream.proofs.Limits.{past_room}
use Rattle.stream.proofs.add.too_long.Goals as goal

pub returns : goal.returns
returns c = past_room stream_limit (taken c.args.stream) c.args.n c.requires
