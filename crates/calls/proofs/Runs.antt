-- The calls' outcomes are the steps of `run`: what an outcome has is what `run` gives, answer, table, output and what ask tells.
use Prim.Native.Nat.{ℕ}
use mathlib.Core.List.{List}
use mathlib.Core.Path.{◌≡◌, sym, ap}
use Rattle.answers.specs.Judged.{Lent}
use Rattle.calls.specs.Calls.{Call, asking, Told, run, Outcome, Asks}

pub runs : (t : List ℕ) (c : Call) {n : ℕ} {left out : List ℕ} → Outcome t c n left out →
    ((run t c).seen.answer ≡ n) × ((run t c).table ≡ left) × ((run t c).seen.output ≡ out)
unfolding run
runs t c j = (sym j.answer, ap (λ (l : Lent). l.table) (sym j.leaves), ap (λ (l : Lent). l.output) (sym j.leaves))

pub runs-ask : (t : List ℕ) (i : ℕ) {n : ℕ} {says : Told} → Asks t i n says →
    ((run t (asking i)).seen.answer ≡ n) × ((run t (asking i)).seen.says ≡ says)
unfolding run
runs-ask t i j = (sym j.answer, sym j.leaves)
