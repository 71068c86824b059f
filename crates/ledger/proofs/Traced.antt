-- `code-traced`: whatever table of words and whatever calls are passed, there is a trace of them, so that the theorems about traces are not
-- about nothing. Each call can answer the number that its tests give, and leave what `run` leaves.
use Prim.Native.Nat.{ℕ, zero, suc, ◌^◌}
use mathlib.Core.Bool.{Bool, true, false, cond}
use mathlib.Core.List.{List, [], ◌∷◌}
use mathlib.Core.Path.{◌≡◌, refl, sym, subst}
use lib.ListN.{get_or}
use denote.Ref.{Bor, MutBor}
use denote.Triple.Clauses.{Ended, Lasts, at_exit}
use denote.Triple.Entry.{Args, Res}
use contract.Lifetimes.{Lfts}
use Rattle.contracts.specs.Says.{Says, Made}
use Rattle.std.specs.Prelude.{Result, Ok, Err}
use Rattle.answers.specs.declared.Refusal.{Refusal}
use Rattle.calls.specs.declared.Asked.{Asked}
use Rattle.answers.specs.Judged.{Test, Lent, lent, first, after}
use Rattle.answers.specs.Numbers.{Answer, number_of}
use Rattle.answers.proofs.Outcome.{answers, refused, refusing-number}
use Rattle.slices.specs.Below.{Below}
use Rattle.calls.specs.Calls.{Call, lay_out, opening, adding, closing, saving, loading, asking, dropping, output_of, Lends, tests, leaves}
use Rattle.calls.specs.Calls.{Told, told_of, nothing_told, tells, Outcome, Asks, Seen, Ran}
use Rattle.calls.proofs.Words.{run-words}
use Rattle.ledger.specs.Promise.{AllPassed}
use Rattle.ledger.specs.Traces.{Doing, Trace, none, then}
use Rattle.ledger.specs.Code.{Did, lay-out-did, open-did, add-did, close-did, save-did, load-did, ask-did, drop-did}
use Rattle.ledger.proofs.Traces.{Faithful, code-faithful}

-- ---- every number that a call can answer has its answer

abbrev answer_at : ℕ → Answer
answer_at n = get_or answers n (Ok tt)

Named : List Test → Type 0
Named [] = Unit {0}
Named (t ∷ ts) = (number_of (answer_at t.number) ≡ t.number) × Named ts

first-named : (ts : List Test) → Named ts → number_of (answer_at (first ts)) ≡ first ts
unfolding first Named
first-named [] h = refl
first-named (t ∷ ts) h = go t.applies (first-named ts h.1)
  where
    go : (b : Bool) → number_of (answer_at (first ts)) ≡ first ts →
        number_of (answer_at (cond b t.number (first ts))) ≡ cond b t.number (first ts)
    go true e = h.0
    go false e = e

named : (t : List ℕ) (c : Call) → Named (tests t c)
unfolding Named tests
named t (lay_out n) = (refl, tt)
named t (opening i e) = (refl, (refl, (refl, (refl, (refl, tt)))))
named t (adding i piece) = (refl, (refl, (refl, (refl, (refl, tt)))))
named t (closing i x b out) = (refl, (refl, (refl, (refl, (refl, (refl, tt))))))
named t (saving i out) = (refl, (refl, (refl, (refl, (refl, tt)))))
named t (loading i bytes) = (refl, (refl, (refl, (refl, (refl, tt)))))
named t (asking i) = (refl, (refl, (refl, tt)))
named t (dropping i) = (refl, (refl, (refl, tt)))

-- ---- an outcome of each call

module _ (t : List ℕ) (c : Call) where
  abbrev pub answered : Answer
  answered = answer_at (first (tests t c))

  abbrev pub left : Lent
  left = after (first (tests t c)) (lent t (output_of c)) (leaves t c)

  abbrev pub says : Told
  says = after (first (tests t c)) nothing_told (tells t c)

  number-named : number_of answered ≡ first (tests t c)
  number-named = first-named (tests t c) (named t c)

  pub both : Outcome t c (number_of answered) left.table left.output
  both = record { answer = number-named; leaves = refl }

  -- of a call that is lent no output, and of one that leaves the table
  pub alone : output_of c ≡ [] → (leaves t c).output ≡ [] → Outcome t c (number_of answered) left.table []
  alone e f =
      record {
        answer = number-named;
        leaves = λ i. record { table = left.table; output = sym (silent (first (tests t c)) e f) i };
      }
    where
      silent : (n : ℕ) → output_of c ≡ [] → (leaves t c).output ≡ [] → (after n (lent t (output_of c)) (leaves t c)).output ≡ []
      silent zero p q = q
      silent (suc n) p q = p

  pub kept : (leaves t c).table ≡ t → Outcome t c (number_of answered) t left.output
  kept e =
      record {
        answer = number-named;
        leaves = λ i. record { table = sym (same (first (tests t c)) e) i; output = left.output };
      }
    where
      same : (n : ℕ) → (leaves t c).table ≡ t → (after n (lent t (output_of c)) (leaves t c)).table ≡ t
      same zero p = p
      same (suc n) p = refl

pub asked : (t : List ℕ) (i : ℕ) → Asks t i (number_of (answered t (asking i))) (says t (asking i))
asked t i = record { answer = number-named t (asking i); leaves = refl }

-- what an answer hands out of what is told
abbrev handing : Answer → Told → Result Asked Refusal
handing (Ok tt) s = Ok (record { edition = s.edition; count = s.count })
handing (Err r) s = Err r

-- a refusal hands out nothing, and nothing is told by it
handing-asks : (t : List ℕ) (i : ℕ) (r : Answer) {s : Told} → Asks t i (number_of r) s → Asks t i (number_of (handing r s))
    (told_of (handing r s))
handing-asks t i (Ok tt) j = j
handing-asks t i (Err r) j = refused (sym j.answer) (refusing-number r) refl

-- a slice somewhere
abbrev pub slice : List ℕ → Bor (List ℕ)
slice xs = record { ref_ptr = (0, 0); now = xs }

-- the same lent to be written
abbrev pub lent_slice : List ℕ → MutBor (List ℕ)
lent_slice xs = record { ref_ptr = (0, 0); ghost_name = 0; now = xs }

-- a call that was made
pub record Some (D : Doing) (t : List ℕ) (c : Call) : Type 0 where
  pub seen : Seen
  pub table : List ℕ
  pub did : D t c seen table

pub some : (D : Doing) {t u : List ℕ} {c : Call} {s : Seen} → D t c s u → Some D t c
some D {u = u} {s = s} d = record { seen = s; table = u; did = d }

abbrev pub call : {T : Ended} {L : Says T} (κs : Lfts T.signature.lifetimes) (args : Args T.signature κs)
    (result : Res T.signature κs) (last : Lasts T κs args) → L κs args result (at_exit T κs args last) → Made T L
call κs args result last learnt = record { κs = κs; args = args; result = result; last = last; learnt = learnt }

-- ---- the functions in src

code-some : (t : List ℕ) (c : Call) → Lends t c → Some Did t c
unfolding leaves
code-some t (lay_out n) l =
    let c = lay_out n in
    some Did (lay-out-did (call ([], tt) (lent_slice t, (n, tt)) (answered t c) ((left t c).table, (tt, tt)) (alone t c refl refl, l)))
code-some t (opening i e) l =
    let c = opening i e in
    some Did (open-did (call ([], tt) (lent_slice t, (i, (e, tt))) (answered t c) ((left t c).table, (tt, (tt, tt)))
    (alone t c refl refl, l)))
code-some t (adding i piece) l =
    let c = adding i piece in
    some Did (add-did
    (call ([], ([], tt)) (lent_slice t, (i, (slice piece, tt))) (answered t c)
    ((left t c).table, (tt, (tt, tt))) (alone t c refl refl, l)))
code-some t (closing i x b out) l =
    let c = closing i x b out in
    some Did (close-did
    (call ([], ([], tt)) (lent_slice t, (i, (x, (b, (lent_slice out, tt))))) (answered t c)
    ((left t c).table, (tt, (tt, (tt, ((left t c).output, tt))))) (both t c, l)))
code-some t (saving i out) l =
    let c = saving i out in
    some Did (save-did
    (call ([], ([], tt)) (slice t, (i, (lent_slice out, tt))) (answered t c)
    (tt, (tt, ((left t c).output, tt))) (kept t c refl, l)))
code-some t (loading i bytes) l =
    let c = loading i bytes in
    some Did (load-did
    (call ([], ([], tt)) (lent_slice t, (i, (slice bytes, tt))) (answered t c)
    ((left t c).table, (tt, (tt, tt))) (alone t c refl refl, l)))
code-some t (asking i) l =
    let c = asking i in
    some Did (ask-did
    (call ([], tt) (slice t, (i, tt)) (handing (answered t c) (says t c)) (tt, (tt, tt)) (handing-asks t i (answered t c) (asked t i), l)))
code-some t (dropping i) l =
    let c = dropping i in
    some Did (drop-did (call ([], tt) (lent_slice t, (i, tt)) (answered t c) ((left t c).table, (tt, tt)) (alone t c refl refl, l)))

-- ---- traces

pub record Traced (D : Doing) (t : List ℕ) (calls : List Call) : Type 0 where
  pub shown : List Seen
  pub table : List ℕ
  pub trace : Trace D t calls shown table

-- where there is a call of each kind, there is a trace; what a faithful call leaves are words again
module _ (D : Doing) (faithful : Faithful D) (any : (t : List ℕ) (c : Call) → Lends t c → Some D t c) where
  pub traced : (t : List ℕ) → Below (2 ^ 64) t → (calls : List Call) → AllPassed calls → Traced D t calls
  traced t words [] g = record { shown = []; table = t; trace = none t }
  traced t words (c ∷ cs) g =
      let one = any t c (words, g.0) in
      let next : Below (2 ^ 64) one.table =
      subst (λ (x : Ran). Below (2 ^ 64) x.table) (faithful _ _ _ _ one.did).ran (run-words t words c g.0) in
      let rest = traced one.table next cs g.1 in
      record { shown = one.seen ∷ rest.shown; table = rest.table; trace = then one.did rest.trace }

pub code-traced : (t : List ℕ) → Below (2 ^ 64) t → (calls : List Call) → AllPassed calls → Traced Did t calls
code-traced = traced Did code-faithful code-some
