-- `writer::start` meets its contract: each refusal by its test, and the header alone is the empty list. Assumes nothing.
use mathlib.Core.Bool.{true}
use mathlib.Core.List.{List, ◌++◌, append-nil}
use mathlib.Core.Path.{◌≡◌, refl, sym, ap, ◌∙◌}
use Prim.Native.Nat.{ℕ}
use native.Mathlib.Nat.{zero-mul}
use borrow.Author.Tests.{lt-ltb}
use lib.ListN.{drop}
use Rattle.answers.specs.Judged.{first}
use Rattle.answers.proofs.Outcome.{refused, done}
use Rattle.bigendian.specs.Rows.{row_bytes}
use Rattle.fips.specs.Editions.{known, digest_bytes}
use Rattle.lists.specs.Layout.{entries_at, entry_size, list_row, entry_run, name_run, list_bytes}
use Rattle.writer.specs.Writing.{empty_list, start_tests, started}
use Rattle.writer.proofs.Fronts.{CanStart, start-done, start_left}
use Rattle.writer.proofs.start.Goals as goal
use Rattle.writer.proofs.start.Goals.{Else-not-known}

-- the empty list is its header

header-alone : (e : ℕ) → row_bytes (list_row e 0 entries_at entries_at) ≡ list_bytes (empty_list e)
unfolding list_bytes entry_run name_run
header-alone e = rw (zero-mul (entry_size (digest_bytes e))) (sym (append-nil (row_bytes (list_row e 0 entries_at entries_at))))

header-put : (e : ℕ) (b left : List ℕ) → CanStart e b → left ≡ row_bytes (list_row e 0 entries_at entries_at) ++ drop entries_at b →
    left ≡ started e b
header-put e b left c l = l ∙ ap (λ (h : List ℕ). h ++ drop entries_at b) (header-alone e) ∙ sym (start_left e b c)

pub returns-then-not-known : goal.returns-then-not-known
unfolding start_tests first
returns-then-not-known c = refused (rw (sym c.known.ensures ∙ c.if-not-known.true)) tt refl

is_known : (c : Else-not-known) → known c.args.edition ≡ true
is_known c = sym c.known.ensures ∙ c.if-not-known.false

pub returns-then-buffer-lt-ENTRIES_AT : goal.returns-then-buffer-lt-ENTRIES_AT
unfolding start_tests first
returns-then-buffer-lt-ENTRIES_AT c =
    refused (rw (is_known (goal.at.returns-then-buffer-lt-ENTRIES_AT c).Else-not-known, lt-ltb _ entries_at c.if-buffer-lt-ENTRIES_AT.true))
    tt refl

pub returns : goal.returns
returns c = let a = c.args in
    let can : CanStart a.edition a.buffer.now =
    record { edition-known = is_known (goal.at.returns c).Else-not-known; room = c.if-buffer-lt-ENTRIES_AT.false } in
    done (start-done _ _ can) (header-put _ _ _ can c.put_header.ensures)
