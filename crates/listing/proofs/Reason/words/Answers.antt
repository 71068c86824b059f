-- `listing::Reason::words` meets its contract: in each arm of the match the reason is known.
use Rattle.fips.specs.Constants.{ascii}
use Rattle.listing.proofs.Reason.words.Goals as goal

pub returns-in-Empty : goal.returns-in-Empty
unfolding ascii
returns-in-Empty c = rw c.in-Empty.is

pub returns-in-Long : goal.returns-in-Long
unfolding ascii
returns-in-Long c = rw c.in-Long.is

pub returns-in-Byte : goal.returns-in-Byte
unfolding ascii
returns-in-Byte c = rw c.in-Byte.is

pub returns-in-Twice : goal.returns-in-Twice
unfolding ascii
returns-in-Twice c = rw c.in-Twice.is

pub returns-in-Full : goal.returns-in-Full
unfolding ascii
returns-in-Full c = rw c.in-Full.is

pub returns-in-Unended : goal.returns-in-Unended
unfolding ascii
returns-in-Unended c = rw c.in-Unended.is

pub returns-in-TooLong : goal.returns-in-TooLong
unfolding ascii
returns-in-TooLong c = rw c.in-TooLong.is

pub returns-in-Unfit : goal.returns-in-Unfit
unfolding ascii
returns-in-Unfit c = rw c.in-Unfit.is
