-- The roots of the full subtrees of leaves: as many as their number has ones, `held-ones`; folded, with at most one node behind them, they
-- are the top of all, `folded-top`; a leaf more is joined with as many as that number had ones at its end, `subtrees-snoc` and `joins`.
use Prim.Native.Nat.{ℕ, zero, suc, ◌+◌, ◌-◌, ◌*◌, ◌^◌, ◌<◌, ◌≤◌}
use mathlib.Core.Bool.{Bool, true, false}
use mathlib.Core.List.{List, [], ◌∷◌, ◌++◌, append-nil, append_assoc}
use mathlib.Core.Path.{◌≡◌, refl, sym, ap, ap₂, ◌∙◌}
use native.Mathlib.Nat.{add-zero}
use native.Mathlib.Numerals.{add-one}
use native.Mathlib.Omega.{arith}
use borrow.Author.Tests.{leb-true, leb-false, le-leb, lt-leb}
use lib.Count.{ones, ones_cat, ones-ones}
use lib.Dec.{leb}
use lib.ListN.{length, take, drop, length-append, length-drop}
use lib.Seq.{take-append-le, drop-append-le, take_all}
use Rattle.fips.proofs.Roots.{lt-two-pow}
use Rattle.treerule.specs.Root.{Node, parent, climb, top}
use Rattle.treerule.proofs.Levels.{top_one, top-more}
use Rattle.streamrule.specs.Held.{subtrees_in, subtrees, folded, joined, ones_at_end, pushed, grown}
use Rattle.streamrule.proofs.Ones.{ends-le, ends_above, ends-all, ones-next}
use Rattle.streamrule.proofs.Folds.{folded-cons, length-joined, joined-cons, joined-all}

-- ---- one digit

with-digit : (d : ℕ) (ns : List Node) → 2 ^ d ≤ length ns → subtrees_in (suc d) ns ≡ top (take (2 ^ d) ns) ∷ subtrees_in d (drop (2 ^ d) ns)
unfolding subtrees_in
with-digit d ns h = rw (le-leb (2 ^ d) (length ns) h)

without-digit : (d : ℕ) (ns : List Node) → length ns < 2 ^ d → subtrees_in (suc d) ns ≡ subtrees_in d ns
unfolding subtrees_in
without-digit d ns h = rw (lt-leb (2 ^ d) (length ns) h)

-- a claim about leaves of one digit more, by whether they have it
by-digit : {P : Type 0} (d : ℕ) (ns : List Node) → (2 ^ d ≤ length ns → P) → (length ns < 2 ^ d → P) → P
by-digit {P} d ns has lacks = go (leb (2 ^ d) (length ns)) refl
  where
    go : (b : Bool) → leb (2 ^ d) (length ns) ≡ b → P
    go true e = has (leb-true (2 ^ d) (length ns) e)
    go false e = lacks (leb-false (2 ^ d) (length ns) e)

-- ---- how many

ones-top : (d n : ℕ) → 2 ^ d ≤ n → n < 2 ^ suc d → ones n ≡ suc (ones (n - 2 ^ d))
unfolding ones
ones-top d n h g =
    let e : n ≡ 1 * 2 ^ d + (n - 2 ^ d) = omega arith in
    ap ones e ∙ ones_cat d 1 (n - 2 ^ d) (omega arith) ∙ omega arith

held_in : (d : ℕ) (ns : List Node) → length ns < 2 ^ d → length (subtrees_in d ns) ≡ ones (length ns)
unfolding subtrees_in ones
held_in zero [] few = refl
held_in zero (n ∷ ns) few = absurd (omega arith)
held_in (suc d) ns few =
    by-digit d ns
    (λ h.
    ap length (with-digit d ns h)
    ∙ ap suc (held_in d (drop (2 ^ d) ns) (omega (arith, length-drop (2 ^ d) ns)) ∙ ap ones (length-drop (2 ^ d) ns))
    ∙ sym (ones-top d (length ns) h few))
    (λ h. ap length (without-digit d ns h) ∙ held_in d ns h)

pub held-ones : (ns : List Node) → length (subtrees ns) ≡ ones (length ns)
unfolding subtrees
held-ones ns = held_in (length ns) ns (lt-two-pow (length ns))

-- ---- folded they are the top

none-held : (d : ℕ) → subtrees_in d [] ≡ []
unfolding subtrees_in
none-held zero = refl
none-held (suc d) = without-digit d [] (omega (arith, lt-two-pow d)) ∙ none-held d

some-held : (d : ℕ) (ns : List Node) → length ns < 2 ^ d → 0 < length ns → 0 < length (subtrees_in d ns)
some-held zero ns few some = absurd (omega arith)
some-held (suc d) ns few some =
    by-digit d ns (λ h. omega (arith, ap length (with-digit d ns h)))
    (λ h. omega (arith, ap length (without-digit d ns h), some-held d ns h some))

no_length : (ns : List Node) → length ns ≡ 0 → ns ≡ []
no_length [] e = refl
no_length (n ∷ ns) e = absurd (omega arith)

none_or_some : {P : Type 0} (ns : List Node) → (length ns ≡ 0 → P) → (0 < length ns → P) → P
none_or_some [] none some = none refl
none_or_some (n ∷ ns) none some = some (omega arith)

-- the nodes behind a full subtree and those of its own, folded apart
module _ (d : ℕ) (ns ys : List Node) (more : 2 ^ d ≤ length ns) (few : length (ns ++ ys) ≤ 2 * 2 ^ d) where
  last-subtree : length (drop (2 ^ d) ns ++ ys) ≡ 0 →
      folded (top (take (2 ^ d) ns) ∷ (subtrees_in d (drop (2 ^ d) ns) ++ ys)) ≡ top (ns ++ ys)
  unfolding folded
  last-subtree none =
      let apart = length-append (drop (2 ^ d) ns) ys in
      let no_ns : drop (2 ^ d) ns ≡ [] = no_length (drop (2 ^ d) ns) (omega arith) in
      let no_ys : ys ≡ [] = no_length ys (omega arith) in
      ap₂ (λ (a b : List Node). folded (top (take (2 ^ d) ns) ∷ (subtrees_in d a ++ b))) no_ns no_ys
      ∙ ap (λ (a : List Node). folded (top (take (2 ^ d) ns) ∷ (a ++ []))) (none-held d)
      ∙ ap top (take_all (2 ^ d) ns (omega (arith, length-drop (2 ^ d) ns)) ∙ sym (append-nil ns) ∙ ap (λ (a : List Node). ns ++ a)
      (sym no_ys))

  more-subtrees : 0 < length (drop (2 ^ d) ns ++ ys) → 0 < length (subtrees_in d (drop (2 ^ d) ns) ++ ys) →
      folded (subtrees_in d (drop (2 ^ d) ns) ++ ys) ≡ top (drop (2 ^ d) ns ++ ys) →
      folded (top (take (2 ^ d) ns) ∷ (subtrees_in d (drop (2 ^ d) ns) ++ ys)) ≡ top (ns ++ ys)
  more-subtrees some held rest =
      let long = length-append (drop (2 ^ d) ns) ys in
      folded-cons (top (take (2 ^ d) ns)) (subtrees_in d (drop (2 ^ d) ns) ++ ys) held
      ∙ ap₂ (λ (a b : Node). parent a b)
      (ap top (sym (take-append-le (2 ^ d) ns ys more))) (rest ∙ ap top (sym (drop-append-le (2 ^ d) ns ys more)))
      ∙ sym (top-more d (ns ++ ys) (omega (arith, length-append ns ys, length-drop (2 ^ d) ns)) few)

held-behind : (d : ℕ) (ns ys : List Node) → length ns < 2 ^ d → 0 < length (ns ++ ys) → 0 < length (subtrees_in d ns ++ ys)
held-behind d ns ys few some =
    let held = length-append (subtrees_in d ns) ys in
    none_or_some ns (λ e. omega (arith, length-append ns ys)) (λ p. omega (arith, some-held d ns few p))

folded-in : (d : ℕ) (ns ys : List Node) → length ns < 2 ^ d → length ys ≤ 1 → folded (subtrees_in d ns ++ ys) ≡ top (ns ++ ys)
unfolding subtrees_in folded top climb
folded-in zero [] [] few one = refl
folded-in zero [] (y ∷ []) few one = sym (top_one y)
folded-in zero [] (y ∷ z ∷ ys) few one = absurd (omega arith)
folded-in zero (n ∷ ns) ys few one = absurd (omega arith)
folded-in (suc d) ns ys few one =
    let behind = drop (2 ^ d) ns in
    let both = length-append behind ys in
    by-digit d ns
    (λ h.
    let short : length behind < 2 ^ d = omega (arith, length-drop (2 ^ d) ns) in
    let all : length (ns ++ ys) ≤ 2 * 2 ^ d = omega (arith, length-append ns ys) in
    ap (λ (l : List Node). folded (l ++ ys)) (with-digit d ns h)
    ∙ none_or_some (behind ++ ys) (last-subtree d ns ys h all)
    (λ some.
    more-subtrees d ns ys h all some (held-behind d behind ys short some) (folded-in d behind ys short one)))
    (λ h. ap (λ (l : List Node). folded (l ++ ys)) (without-digit d ns h) ∙ folded-in d ns ys h one)

pub folded-top : (ns ys : List Node) → length ys ≤ 1 → folded (subtrees ns ++ ys) ≡ top (ns ++ ys)
unfolding subtrees
folded-top ns ys one = folded-in (length ns) ns ys (lt-two-pow (length ns)) one

-- ---- a leaf more

snoc-in : (d : ℕ) (ns : List Node) (m : Node) → suc (length ns) < 2 ^ d →
    subtrees_in d (ns ++ (m ∷ [])) ≡ joined (ones_at_end (length ns)) (subtrees_in d ns) m
snoc-in zero ns m few = absurd (omega arith)
snoc-in (suc d) ns m few =
    let behind = drop (2 ^ d) ns in
    let long = length-append ns (m ∷ []) in
    by-digit d ns
    (λ h.
    let short : length behind ≡ length ns - 2 ^ d = length-drop (2 ^ d) ns in
    let whole : length ns ≡ 2 ^ d + length behind = omega arith in
    let same : ones_at_end (length ns) ≡ ones_at_end (length behind) = ap ones_at_end whole ∙ ends_above d (length behind) (omega arith) in
    with-digit d (ns ++ (m ∷ [])) (omega arith)
    ∙ ap₂ (λ (a b : List Node). top a ∷ subtrees_in d b) (take-append-le (2 ^ d) ns (m ∷ []) h) (drop-append-le (2 ^ d) ns (m ∷ []) h)
    ∙ ap (λ (l : List Node). top (take (2 ^ d) ns) ∷ l) (snoc-in d behind m (omega arith))
    ∙ sym
    (ap₂ (λ (k : ℕ) (l : List Node). joined k l m) same (with-digit d ns h)
    ∙ joined-cons (ones_at_end (length behind)) (top (take (2 ^ d) ns)) (subtrees_in d behind) m
    (omega (arith, held_in d behind (omega arith), ends-le (length behind)))))
    (λ h.
    by-digit d (ns ++ (m ∷ []))
    (λ g.
    let full : suc (length ns) ≡ 2 ^ d = omega arith in
    let pred : length ns ≡ 2 ^ d - 1 = omega arith in
    let all : ones_at_end (length ns) ≡ length (subtrees_in d ns) =
    ends-all d (length ns) full ∙ sym (held_in d ns h ∙ ap ones pred ∙ ones-ones d) in
    with-digit d (ns ++ (m ∷ [])) g
    ∙ ap₂ (λ (a b : List Node). top a ∷ subtrees_in d b)
    (take_all (2 ^ d) (ns ++ (m ∷ [])) (omega arith)) (no_length (drop (2 ^ d) (ns ++ (m ∷ []))) (length-drop (2 ^ d) (ns ++
    (m ∷ [])) ∙ omega arith))
    ∙ ap₂ (λ (n : Node) (l : List Node). n ∷ l) (sym (folded-in d ns (m ∷ []) h (omega arith))) (none-held d)
    ∙ sym
    (ap (λ (l : List Node). joined (ones_at_end (length ns)) l m) (without-digit d ns h)
    ∙ joined-all (ones_at_end (length ns)) (subtrees_in d ns) m all))
    (λ g.
    without-digit d (ns ++ (m ∷ [])) g
    ∙ snoc-in d ns m (omega arith)
    ∙ sym (ap (λ (l : List Node). joined (ones_at_end (length ns)) l m) (without-digit d ns h))))

pub subtrees-snoc : (ns : List Node) (m : Node) → subtrees (ns ++ (m ∷ [])) ≡ pushed (length ns) (subtrees ns) m
unfolding subtrees pushed
subtrees-snoc ns m =
    let n = length ns in
    let next : length (ns ++ (m ∷ [])) ≡ suc n = length-append ns (m ∷ []) ∙ add-one n in
    ap (λ (d : ℕ). subtrees_in d (ns ++ (m ∷ []))) next
    ∙ snoc-in (suc n) ns m (lt-two-pow (suc n))
    ∙ ap (λ (l : List Node). joined (ones_at_end n) l m) (without-digit n ns (lt-two-pow n))

-- a leaf more is joined with as many roots as the number of leaves had ones at its end: so many fewer are left, and one more
pub length-pushed : (n : ℕ) (roots : List Node) (leaf : Node) → length roots ≡ ones n →
    length (pushed n roots leaf) + ones_at_end n ≡ suc (length roots)
unfolding pushed
length-pushed n roots leaf e = length-joined (ones_at_end n) roots leaf (omega (arith, ends-le n))

pub joins : (ns : List Node) (m : Node) → length (subtrees (ns ++ (m ∷ []))) + ones_at_end (length ns) ≡ suc (length (subtrees ns))
joins ns m =
    ap (λ (l : List Node). length l + ones_at_end (length ns)) (subtrees-snoc ns m)
    ∙ length-pushed (length ns) (subtrees ns) m (held-ones ns)

-- ---- leaves more

pub grown-append : (n : ℕ) (roots xs ys : List Node) → grown n roots (xs ++ ys) ≡ grown (n + length xs) (grown n roots xs) ys
unfolding grown
grown-append n roots [] ys = rw (add-zero n)
grown-append n roots (x ∷ xs) ys =
    grown-append (suc n) (pushed n roots x) xs ys ∙ ap (λ (m : ℕ). grown m (grown (suc n) (pushed n roots x) xs) ys) (omega arith)

pub grown-subtrees : (ns ms : List Node) → grown (length ns) (subtrees ns) ms ≡ subtrees (ns ++ ms)
unfolding grown
grown-subtrees ns [] = ap subtrees (sym (append-nil ns))
grown-subtrees ns (m ∷ ms) =
    let next : suc (length ns) ≡ length (ns ++ (m ∷ [])) = sym (length-append ns (m ∷ []) ∙ add-one (length ns)) in
    ap₂ (λ (n : ℕ) (l : List Node). grown n l ms) next (sym (subtrees-snoc ns m))
    ∙ grown-subtrees (ns ++ (m ∷ [])) ms
    ∙ ap subtrees (append_assoc ns (m ∷ []) ms)

-- whatever the roots are, if they are as many as ones
pub length-grown : (n : ℕ) (roots leaves : List Node) → length roots ≡ ones n →
    length (grown n roots leaves) ≡ ones (n + length leaves)
unfolding grown
length-grown n roots [] e = e ∙ ap ones (sym (add-zero n))
length-grown n roots (leaf ∷ leaves) e =
    length-grown (suc n) (pushed n roots leaf) leaves (omega (arith, length-pushed n roots leaf e, ones-next n)) ∙ ap ones (omega arith)
