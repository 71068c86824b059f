-- What a function's contract says, so that a theorem can be about the contract itself: SPEC, "How much each call says".
-- Rattle makes of each function the type `Reads.Learnt`, which is its `ensures` as a caller learns them. `Settles` says of such a
-- contract that two outcomes which it allows coincide; `Made` is a call of the function that was made.
use Rattle.std.specs.Prelude.{◌≡◌}
use denote.Triple.Clauses.{Ended, AtExit, Lasts, at_exit}
use denote.Triple.Entry.{Args, Res}
use contract.Lifetimes.{Lfts}

-- a contract: of the lifetimes, the arguments, the result and what is lent, at exit
abbrev pub Says : Ended → Type 1
Says T = (κs : Lfts T.signature.lifetimes) → Args T.signature κs → Res T.signature κs → AtExit T κs → Type 0

-- what is shown of an outcome: of the result, and of what is lent, at exit
abbrev pub Shows : Type 0 → Ended → Type 0
Shows A T = (κs : Lfts T.signature.lifetimes) → Res T.signature κs → AtExit T κs → A

-- two outcomes that the contract allows for the same arguments show the same
abbrev pub Settles : {A : Type 0} (T : Ended) → Says T → Shows A T → Type 0
Settles T L shown =
    (κs : Lfts T.signature.lifetimes) (a : Args T.signature κs) (r s : Res T.signature κs) (x y : AtExit T κs) →
    L κs a r x → L κs a s y → shown κs r x ≡ shown κs s y

-- a call of a function: its arguments, its result and the last values of what it was lent, of which its contract holds
pub record Made (T : Ended) (L : Says T) : Type 0 where
  pub κs : Lfts T.signature.lifetimes
  pub args : Args T.signature κs
  pub result : Res T.signature κs
  pub last : Lasts T κs args
  pub learnt : L κs args result (at_exit T κs args last)

-- what it was lent, at exit
abbrev pub exit : {T : Ended} {L : Says T} (m : Made T L) → AtExit T m.κs
exit {T} m = at_exit T m.κs m.args m.last
