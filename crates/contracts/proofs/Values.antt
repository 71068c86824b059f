-- Contracts that say what the result is settle it: of one value, of two.
use mathlib.Core.Path.{◌≡◌, sym, ◌∙◌}

pub value-settled : {A : Type 0} {x r s : A} → r ≡ x → s ≡ x → r ≡ s
value-settled p q = p ∙ sym q

pub both-settled : {A B : Type 0} {x r s : A} {y l m : B} → (r ≡ x) × (l ≡ y) → (s ≡ x) × (m ≡ y) → ◌≡◌ {A = A × B} (r, l) (s, m)
both-settled p q = λ i. (value-settled p.0 q.0 i, value-settled p.1 q.1 i)
