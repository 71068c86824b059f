-- Roots in a padded buffer: read back, `held-padded`, and the one form of those that a buffer holds, `held-form`.
use Prim.Native.Nat.{ℕ, ◌-◌, ◌*◌, ◌≤◌}
use mathlib.Core.Bool.{true}
use mathlib.Core.List.{List, flatten}
use mathlib.Core.Path.{◌≡◌, sym, ap, ap₂, ◌∙◌}
use native.Mathlib.Omega.{arith}
use lib.ListN.{length, drop, replicate}
use Rattle.slices.specs.Padded.{padded}
use Rattle.slices.specs.Tests.{all_zero}
use Rattle.slices.proofs.Padded.{padded-room, zeros-padded}
use Rattle.treerule.specs.Root.{node_bytes, Node}
use Rattle.treerule.proofs.Levels.{Whole}
use Rattle.tree.specs.Code.Held.{held}
use Rattle.tree.proofs.Held.{flat-held, held-flat, length-flat}

pub held-padded : (room k : ℕ) (ns : List Node) → length ns ≡ k → k * node_bytes ≤ room → Whole ns → held k (padded room (flatten ns)) ≡ ns
held-padded room k ns e h whole =
    let long = length-flat ns whole in
    ap₂ (λ (n : ℕ) (l : List ℕ). held n l) (sym e) (padded-room room (flatten ns) (omega arith))
    ∙ held-flat ns (replicate (room - length (flatten ns)) 0) whole

pub held-form : (room k : ℕ) (buffer : List ℕ) → length buffer ≡ room → k * node_bytes ≤ room →
    all_zero (drop (k * node_bytes) buffer) ≡ true →
    buffer ≡ padded room (flatten (held k buffer))
held-form room k buffer long h clear =
    zeros-padded room (k * node_bytes) buffer long h clear ∙ ap (padded room) (sym (flat-held k buffer (omega arith)))
