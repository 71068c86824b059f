-- A digit's value: `digit_small`.
use Rattle.std.proofs.Common.{arith, ℕ, ◌≤◌, unwrap_or}
use Rattle.std.proofs.lemmas.Grind.{common_steps}
use Rattle.hexlines.specs.Digits.{digit_of}

pub digit_small : (c : ℕ) → unwrap_or (digit_of c) 0 ≤ 15
unfolding digit_of
digit_small c = grind (arith, common_steps)
