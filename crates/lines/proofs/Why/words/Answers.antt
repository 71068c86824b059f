-- `lines::Why::words` meets its contract.
use Rattle.fips.specs.Constants.{ascii}
use Rattle.lines.proofs.Why.words.Goals as goal

pub returns-in-NotThere : goal.returns-in-NotThere
unfolding ascii
returns-in-NotThere c = rw c.in-NotThere.is

pub returns-in-NoPermission : goal.returns-in-NoPermission
unfolding ascii
returns-in-NoPermission c = rw c.in-NoPermission.is

pub returns-in-Folder : goal.returns-in-Folder
unfolding ascii
returns-in-Folder c = rw c.in-Folder.is

pub returns-in-Failed : goal.returns-in-Failed
unfolding ascii
returns-in-Failed c = rw c.in-Failed.is
