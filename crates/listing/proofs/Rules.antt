-- Which rule a name breaks. Before 256 names are listed, a name is refused exactly where no list may have it: `judged-allowed`; after them
-- every other is the 257th, `judged-full`. A put that is said to be done answered 0, `answered-done`; any other, another number.
use Prim.Native.Nat.{ℕ, zero, suc, ◌≤◌, ◌<◌}
use mathlib.Core.Bool.{Bool, true, false, cond, false≢true}
use mathlib.Core.List.{List}
use mathlib.Core.Path.{◌≡◌, refl, sym, ap}
use native.Mathlib.Omega.{arith}
use lib.Dec.{eqb, ltb}
use lib.ListN.{length}
use Rattle.std.specs.Prelude.{Result, Ok, Err}
use borrow.Author.Tests.{ltb-true, ltb-false, leb-true, eqb-true, lt-ltb, le-ltb, le-leb, lt-leb}
use Rattle.slices.proofs.Tests.{fails-at, holds_at}
use Rattle.lists.specs.Lists.{most_entries, longest_name, name_allowed}
use Rattle.listing.specs.declared.Reason.{Reason}
use Rattle.listing.specs.Rules.{judged, answered}

module _ (name : List ℕ) (before : ℕ) where
  pub is-empty : length name < 1 → Err Reason.Empty ≡ judged name before
  unfolding judged
  is-empty h = rw (lt-ltb (length name) 1 h)

  pub is-long : 1 ≤ length name → longest_name < length name → Err Reason.Long ≡ judged name before
  unfolding judged
  is-long g h = rw (le-ltb (length name) 1 g, lt-ltb longest_name (length name) h)

  module _ (some : 1 ≤ length name) (short : length name ≤ longest_name) where
    pub has-byte : name_allowed name ≡ false → Err Reason.Byte ≡ judged name before
    unfolding judged
    has-byte a = rw (le-ltb (length name) 1 some, le-ltb longest_name (length name) short, a)

    module _ (a : name_allowed name ≡ true) where
      pub is-full : most_entries ≤ before → Err Reason.Full ≡ judged name before
      unfolding judged
      is-full h = rw (le-ltb (length name) 1 some, le-ltb longest_name (length name) short, a, le-leb most_entries before h)

      pub is-fine : before < most_entries → Ok tt ≡ judged name before
      unfolding judged
      is-fine h = rw (le-ltb (length name) 1 some, le-ltb longest_name (length name) short, a, lt-leb most_entries before h)

-- ---- the rule for names

abbrev pub is_done : Result Unit Reason → Bool
is_done (Ok a) = true
is_done (Err r) = false

some_bytes : (name : List ℕ) → name_allowed name ≡ true → 1 ≤ length name
unfolding name_allowed
some_bytes name a = leb-true 1 (length name) (holds_at _ a 0)

few_bytes : (name : List ℕ) → name_allowed name ≡ true → length name ≤ longest_name
unfolding name_allowed
few_bytes name a = leb-true (length name) longest_name (holds_at _ a 1)

no_bytes : (name : List ℕ) → length name < 1 → name_allowed name ≡ false
unfolding name_allowed
no_bytes name h = fails-at _ 0 (lt-leb 1 (length name) h)

many-bytes : (name : List ℕ) → longest_name < length name → name_allowed name ≡ false
unfolding name_allowed
many-bytes name h = fails-at _ 1 (lt-leb (length name) longest_name h)

pub judged-allowed : (name : List ℕ) (before : ℕ) → before < most_entries → is_done (judged name before) ≡ name_allowed name
judged-allowed name before few = by_length (ltb (length name) 1) refl (ltb longest_name (length name)) refl
  where
    by-rule : 1 ≤ length name → length name ≤ longest_name → (a : Bool) → name_allowed name ≡ a →
        is_done (judged name before) ≡ name_allowed name
    by-rule g h true a = rw (← is-fine name before g h a few, a)
    by-rule g h false a = rw (← has-byte name before g h a, a)

    by_length : (p : Bool) → ltb (length name) 1 ≡ p → (q : Bool) → ltb longest_name (length name) ≡ q →
        is_done (judged name before) ≡ name_allowed name
    by_length true e q f = let h = ltb-true (length name) 1 e in rw (← is-empty name before h, no_bytes name h)
    by_length false e true f =
        let h = ltb-true longest_name (length name) f in rw (← is-long name before (ltb-false (length name) 1 e) h, many-bytes name h)
    by_length false e false f = by-rule (ltb-false (length name) 1 e) (ltb-false longest_name (length name) f) (name_allowed name) refl

pub judged-full : (name : List ℕ) (before : ℕ) → name_allowed name ≡ true → most_entries ≤ before →
    judged name before ≡ Err Reason.Full
judged-full name before a h = sym (is-full name before (some_bytes name a) (few_bytes name a) a h)

-- ---- what a put answered

-- done says 0, and refused says another number
pub answered-done : (n : ℕ) → answered n ≡ Ok tt → n ≡ 0
unfolding answered
answered-done n h = go (eqb n 0) refl (eqb n 16) refl (eqb n 17) refl h
  where
    go : (a : Bool) → eqb n 0 ≡ a → (b : Bool) → eqb n 16 ≡ b → (c : Bool) → eqb n 17 ≡ c →
        cond {A = Result Unit Reason} a (Ok tt) (cond b (Err Reason.Twice) (cond c (Err Reason.Full) (Err Reason.Unfit))) ≡ Ok tt →
        n ≡ 0
    go true e b f c g k = eqb-true n 0 e
    go false e true f c g k = absurd (false≢true (ap is_done k))
    go false e false f true g k = absurd (false≢true (ap is_done k))
    go false e false f false g k = absurd (false≢true (ap is_done k))

pub answered-refused : (n : ℕ) (r : Reason) → answered n ≡ Err r → 0 < n
unfolding answered
answered-refused zero r h = absurd (false≢true (sym (ap is_done h)))
answered-refused (suc n) r h = omega arith
