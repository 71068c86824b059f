-- `fips::tables::start_row` meets its contract: the row of the edition, or eight zeros. Assumes nothing.
use mathlib.Core.Path.{sym, ap, ◌∙◌}
use mathlib.Core.List.{List, []}
use Prim.Native.Nat.{ℕ, ◌-◌}
use native.Mathlib.Omega.{arith}
use lib.ListN.{get_or}
use Rattle.fips.specs.Editions.{Edition, start, edition, editions}
use Rattle.fips.proofs.Editions.{unknown-none, start-row}
use Rattle.fips.proofs.tables.start_row.Goals as goal

pub returns-then-edition-eq0 : goal.returns-then-edition-eq0
unfolding edition editions
returns-then-edition-eq0 c = sym (ap start c.if-edition-eq0.true)

pub returns-then-edition-gt6 : goal.returns-then-edition-gt6
returns-then-edition-gt6 c = sym (ap (λ (x : Edition). x.start) (unknown-none _ c.if-edition-gt6.true))

pub returns : goal.returns
returns c = let e = c.args.edition in
    ap (λ (l : List (List ℕ)). get_or l (e - 1) []) c.rows-all.ensures
    ∙ start-row e (omega arith) (omega arith)
