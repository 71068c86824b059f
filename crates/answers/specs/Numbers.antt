-- The number of each answer: SPEC, "Calls and their numbers".
-- `refusal_number` has a clause for each refusal of that table; what is done has 0.
use Rattle.std.specs.Prelude.{ℕ, Result, Ok, Err}
use Rattle.answers.specs.declared.Refusal.{Refusal}

-- the answer of a call that hands out nothing
abbrev pub Answer : Type 0
Answer = Result Unit Refusal

abbrev pub refusal_number : Refusal → ℕ
refusal_number Refusal.BadTable = 1
refusal_number Refusal.NoSuchBay = 2
refusal_number Refusal.BayTaken = 3
refusal_number Refusal.BayEmpty = 4
refusal_number Refusal.NoSuchEdition = 5
refusal_number Refusal.NotSound = 6
refusal_number Refusal.TooLong = 7
refusal_number Refusal.BadClosing = 8
refusal_number Refusal.ShortOutput = 9
refusal_number Refusal.BadRecord = 10
refusal_number Refusal.BadLayout = 11
refusal_number Refusal.NotAList = 12
refusal_number Refusal.NotListed = 13
refusal_number Refusal.DigestDiffers = 14
refusal_number Refusal.ForbiddenName = 15
refusal_number Refusal.NameTaken = 16
refusal_number Refusal.ListFull = 17

-- what is done has the number 0, whatever is handed out
abbrev pub number_of : {A : Type 0} → Result A Refusal → ℕ
number_of (Ok a) = 0
number_of (Err r) = refusal_number r
