-- Theorems about lists that were written by calls which were made, in Rattle or under their C names: their hypotheses are the functions'
-- own contracts. A list that a pair was put in is accepted, `put-accepted`. After a start and any puts it holds exactly the pairs that
-- were taken, `written-pairs`, and any other list those beside its own, `list-pairs`. The pairs of a list, put in any order, make that
-- list: `any_order`.
use mathlib.Core.Bool.{true}
use mathlib.Core.List.{List, [], ◌∷◌, ◌++◌}
use mathlib.Core.Path.{◌≡◌, sym, ◌∙◌}
use Prim.Native.Nat.{ℕ, ◌≤◌}
use lib.ListN.{length}
use Rattle.lists.specs.Layout.{edition_in, read_list, accepted}
use Rattle.writer.specs.Writing.{Starts, front_list, Puts, Lends}
use Rattle.writer.proofs.Fronts.{judged-new, put-passed, left-accepted}
use Rattle.written.specs.Code.{Began, start-made, c-start-made, Did, put-made, c-put-made, AllDid}
use Rattle.written.specs.Written.{Reordered, Written, Put, InTurn, taken, offered, Rewritten}
use Rattle.written.proofs.Writing.{AllPuts, started-pairs, kept-pairs, reordered-list}

-- ---- what the contracts say

began-starts : {e : ℕ} {b : List ℕ} {n : ℕ} {left : List ℕ} → Began e b n left → Starts e b n left
began-starts (start-made m) = m.learnt
began-starts (c-start-made m) = m.learnt

abbrev PutSays : Put → Type 0
PutSays m = Puts m.buffer m.name m.digest m.answer m.left × Lends m.buffer m.name m.digest

did-put : {m : Put} → Did m → PutSays m
did-put (put-made m) = m.learnt
did-put (c-put-made m) = m.learnt

all-puts : (ms : List Put) → AllDid ms → AllPuts ms
all-puts [] d = tt
all-puts (m ∷ ms) d = (did-put d.0, all-puts ms d.1)

-- ---- the theorems

pub put-accepted : (m : Put) → Did m → m.answer ≡ 0 → accepted (front_list m.left) ≡ true
put-accepted m d e =
    let p = did-put d in
    let passes = sym p.0.answer ∙ e in
    rw (judged-new p.0 passes)
    (left-accepted m.buffer m.name m.digest (put-passed m.buffer m.name m.digest passes) p.1.1.1)

pub written-pairs : (e : ℕ) (b b0 : List ℕ) (ms : List Put) (last : List ℕ) → Began e b 0 b0 → AllDid ms → InTurn b0 ms last →
    Written e (taken ms) last
written-pairs e b b0 ms last s d r = started-pairs e b b0 ms last (began-starts s) (all-puts ms d) r

pub list-pairs : (b : List ℕ) (ms : List Put) (last : List ℕ) → accepted (front_list b) ≡ true → AllDid ms → InTurn b ms last →
    Written (edition_in (front_list b)) ((read_list (front_list b)).pairs ++ taken ms) last
list-pairs b ms last e d r = kept-pairs b ms last e (all-puts ms d) r

-- a start of the edition of the list bs in a buffer at least as long, and then puts of its pairs in some order
pub any_order : (bs b b0 : List ℕ) (n0 : ℕ) (ms : List Put) (last : List ℕ) → accepted bs ≡ true → length bs ≤ length b →
    Began (edition_in bs) b n0 b0 → AllDid ms → InTurn b0 ms last → Reordered (offered ms) (read_list bs).pairs →
    (n0 ≡ 0) × Rewritten bs b ms last
any_order bs b b0 n0 ms last e h s d r o = reordered-list bs b b0 n0 ms last e h (began-starts s) (all-puts ms d) r o
