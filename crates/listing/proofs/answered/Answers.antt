-- `listing::answered` meets its contract: of what is done, of the two refusals that it names, and of any other.
use mathlib.Core.Path.{◌≡◌}
use borrow.Author.Tests.{ne_eqb}
use Rattle.std.specs.Prelude.{Result, Err}
use Rattle.answers.specs.declared.Refusal.{Refusal}
use Rattle.answers.specs.Numbers.{refusal_number}
use Rattle.answers.proofs.Outcome.{refusing-number, refusal-injective}
use Rattle.listing.specs.declared.Reason.{Reason}
use Rattle.listing.specs.Rules.{answered}
use Rattle.listing.proofs.answered.Goals as goal

other : (r : Refusal) → (r ≡ Refusal.NameTaken → ⊥) → (r ≡ Refusal.ListFull → ⊥) →
    ◌≡◌ {A = Result Unit Reason} (Err Reason.Unfit) (answered (refusal_number r))
unfolding answered
other r p q =
    rw (
      ne_eqb (refusal_number r) 0 (λ e. rw e at (refusing-number r)),
      ne_eqb (refusal_number r) 16 (λ e. p (refusal-injective r Refusal.NameTaken e)),
      ne_eqb (refusal_number r) 17 (λ e. q (refusal-injective r Refusal.ListFull e)),
    )

pub returns-in-Ok : goal.returns-in-Ok
unfolding answered
returns-in-Ok c = rw c.in-Ok.is

pub returns-in-NameTaken : goal.returns-in-NameTaken
unfolding answered
returns-in-NameTaken c = rw (c.in-Err.is, c.in-NameTaken.is)

pub returns-in-ListFull : goal.returns-in-ListFull
unfolding answered
returns-in-ListFull c = rw (c.in-Err.is, c.in-ListFull.is)

pub returns-in_default : goal.returns-in_default
returns-in_default c = rw c.in-Err.is (other c.in-Err.refusal c.in_default.not-NameTaken c.in_default.not-ListFull)
