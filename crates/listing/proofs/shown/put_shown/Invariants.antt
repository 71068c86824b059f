-- `listing::shown::put_shown` meets its contract: after so many turns so many bytes are shown.
use Rattle.std.proofs.Common.{◌≡◌, length, take}
use Rattle.lines.specs.Code.Putting.{Put}
use Rattle.listing.specs.Shown.{shown}
use Rattle.listing.proofs.shown.put_shown.Given as goal

abbrev pub invariant-loop-b : goal.invariant-loop-b
invariant-loop-b l =
    (length l.out ≡ length l.initial.out) × Put l.at (shown (take l.b-index l.name)) l.initial.out l.end l.out
