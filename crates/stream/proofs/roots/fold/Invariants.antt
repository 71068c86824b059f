-- `stream::roots::fold` meets its contract. The invariant: the roots that are left and the node behind them fold to the same. Assumes
-- nothing.
use mathlib.Core.List.{[], ◌∷◌, ◌++◌}
use mathlib.Core.Path.{◌≡◌}
use Rattle.std.specs.Iterator.Adapters.{rev_source}
use Rattle.std.specs.Slice.Iter.{iter_rest}
use Rattle.streamrule.specs.Held.{folded}
use Rattle.stream.proofs.roots.fold.Given as goal

abbrev pub invariant-loop-root : goal.invariant-loop-root
invariant-loop-root l =
    folded (iter_rest (rev_source l.root-iterator) ++ (l.node ∷ [])) ≡ folded (l.roots ++ (l.initial.node ∷ []))
