-- `lists::rules::header_right` meets its contract: each test is a condition of `header_right`. Few entries of known size: no sum is large.
-- Assumes nothing.
use mathlib.Core.Path.{◌≡◌, sym, ap, ◌∙◌}
use mathlib.Core.Bool.{Bool, true}
use mathlib.Core.List.{List}
use lib.Dec.{leb}
use lib.ListN.{length}
use Prim.Native.Nat.{ℕ, ◌+◌, ◌*◌, ◌≤◌}
use native.Mathlib.Omega.{arith}
use borrow.Author.Tests.{lt-leb, le-leb}
use Rattle.fips.specs.Editions.{known}
use Rattle.lists.specs.Lists.{most_entries}
use Rattle.lists.specs.Layout.{entries_at, entry_size, edition_in, count_in, digest_size_in}
use Rattle.lists.specs.Code.Rules.{offsets_right, header_right}
use Rattle.slices.proofs.Tests.{fails-at, holds_on, holds-last}
use Rattle.fips.proofs.Editions.{digest-short}
use Rattle.lists.proofs.Written.{entries-bound}
use Rattle.lists.proofs.rules.header_right.Goals as goal
use Rattle.lists.proofs.rules.header_right.Goals.{After-digest_size}

bound : (c : After-digest_size) →
    (c.digest_size.result ≤ 64) × (c.count-entries.result * entry_size c.digest_size.result ≤ most_entries * entry_size 64)
bound c = (rw c.digest_size.ensures (digest-short _), rw c.digest_size.ensures (entries-bound _ _ c.if-entries-gt-MOST_ENTRIES.false))

whole : (bs : List ℕ) (e n d : ℕ) (r : Bool) → e ≡ edition_in bs → n ≡ count_in bs → d ≡ digest_size_in bs →
    entries_at ≤ length bs → known e ≡ true → n ≤ most_entries → r ≡ offsets_right (entries_at + n * entry_size d) bs → r ≡ header_right bs
unfolding header_right
whole bs e n d r pe pn pd long k few q =
    q
    ∙ rw (pd, pn)
    (sym
    (holds_on _ _ (le-leb entries_at (length bs) long)
    ∙ holds_on _ _ (ap known (sym pe) ∙ k)
    ∙ holds_on _ _ (ap (λ (m : ℕ). leb m most_entries) (sym pn) ∙ le-leb n most_entries few)
    ∙ holds-last _))

pub returns-then-list-lt-ENTRIES_AT : goal.returns-then-list-lt-ENTRIES_AT
unfolding header_right
returns-then-list-lt-ENTRIES_AT c = sym (fails-at _ 0 (lt-leb _ _ c.if-list-lt-ENTRIES_AT.true))

pub returns-then-not-known : goal.returns-then-not-known
unfolding header_right
returns-then-not-known c = sym (fails-at _ 1 (ap known (sym c.edition.ensures) ∙ sym c.known.ensures ∙ c.if-not-known.true))

pub returns-then-entries-gt-MOST_ENTRIES : goal.returns-then-entries-gt-MOST_ENTRIES
unfolding header_right
returns-then-entries-gt-MOST_ENTRIES c =
    sym (fails-at _ 2 (ap (λ (m : ℕ). leb m most_entries) (sym c.count-entries.ensures) ∙ lt-leb _ _ c.if-entries-gt-MOST_ENTRIES.true))

pub returns : goal.returns
returns c = whole _ _ _ _ _ c.edition.ensures c.count-entries.ensures c.digest_size.ensures
    c.if-list-lt-ENTRIES_AT.false (sym c.known.ensures ∙ c.if-not-known.false) c.if-entries-gt-MOST_ENTRIES.false
    c.offsets_right.ensures

pub overflow_add-digest_size : goal.overflow_add-digest_size
overflow_add-digest_size c = omega (arith, bound c)

pub overflow_mul-entries : goal.overflow_mul-entries
overflow_mul-entries c = omega (arith, bound c)

pub overflow_add-entries : goal.overflow_add-entries
overflow_add-entries c = omega (arith, bound c)
