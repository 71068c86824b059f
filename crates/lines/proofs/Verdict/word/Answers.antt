-- `lines::Verdict::word` meets its contract.
use Rattle.fips.specs.Constants.{ascii}
use Rattle.lines.proofs.Verdict.word.Goals as goal

pub returns-in-Ok : goal.returns-in-Ok
unfolding ascii
returns-in-Ok c = rw c.in-Ok.is

pub returns-in-Bad : goal.returns-in-Bad
unfolding ascii
returns-in-Bad c = rw c.in-Bad.is

pub returns-in-Missing : goal.returns-in-Missing
unfolding ascii
returns-in-Missing c = rw c.in-Missing.is
