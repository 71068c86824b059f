-- `listing::judge` meets its contract: each test is one of `judged`.
use Prim.Native.Nat.{◌≤◌}
use mathlib.Core.Path.{sym, ◌∙◌}
use native.Mathlib.Omega.{arith}
use lib.ListN.{length}
use borrow.Author.Tests.{eqb-true}
use Rattle.std.proofs.lemmas.Bool.{eqb-false}
use Rattle.listing.proofs.Rules.{is-empty, is-long, has-byte, is-full, is-fine}
use Rattle.listing.proofs.judge.Goals as goal
use Rattle.listing.proofs.judge.Goals.{Else-is_empty}

some : (c : Else-is_empty) → 1 ≤ length c.args.name.now
some c = omega (arith, eqb-false _ 0 (sym c.is_empty.ensures ∙ c.if-is_empty.false))

pub returns-then-is_empty : goal.returns-then-is_empty
returns-then-is_empty c = is-empty _ _ (omega (arith, eqb-true _ 0 (sym c.is_empty.ensures ∙ c.if-is_empty.true)))

pub returns-then-name-gt-LONGEST : goal.returns-then-name-gt-LONGEST
returns-then-name-gt-LONGEST c =
    is-long _ _ (some (goal.at.returns-then-name-gt-LONGEST c).Else-is_empty) c.if-name-gt-LONGEST.true

pub returns-then-not-allowed : goal.returns-then-not-allowed
returns-then-not-allowed c =
    has-byte _ _ (some (goal.at.returns-then-not-allowed c).Else-is_empty) c.if-name-gt-LONGEST.false
    (sym c.allowed.ensures ∙ c.if-not-allowed.true)

pub returns-then-before-ge-MOST_ENTRIES : goal.returns-then-before-ge-MOST_ENTRIES
returns-then-before-ge-MOST_ENTRIES c =
    is-full _ _ (some (goal.at.returns-then-before-ge-MOST_ENTRIES c).Else-is_empty) c.if-name-gt-LONGEST.false
    (sym c.allowed.ensures ∙ c.if-not-allowed.false) c.if-before-ge-MOST_ENTRIES.true

pub returns : goal.returns
returns c =
    is-fine _ _ (some (goal.at.returns c).Else-is_empty) c.if-name-gt-LONGEST.false
    (sym c.allowed.ensures ∙ c.if-not-allowed.false) c.if-before-ge-MOST_ENTRIES.false
