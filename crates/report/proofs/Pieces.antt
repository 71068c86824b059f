-- A file that is read piece by piece. `starts`, `goes_on` and `stops` lead a reading from its first turn to its end; with the table begun
-- it is a file that was met, `led`, and the verdict on it is the one on its bytes, `verdicted`.
use Prim.Native.Nat.{ℕ}
use mathlib.Core.Bool.{Bool, true, false, cond}
use mathlib.Core.List.{List, [], ◌∷◌, ◌++◌}
use mathlib.Core.Path.{◌≡◌, refl, sym, ap, subst, ◌∙◌}
use Rattle.std.specs.Prelude.{Option, None, Some}
use Rattle.slices.specs.Below.{Bytes}
use Rattle.fips.specs.Editions.{known}
use Rattle.lists.specs.Calls.{pair_in}
use Rattle.lists.specs.Layout.{edition_in, read_list, accepted}
use Rattle.lists.proofs.Lists.{accepted-valid}
use Rattle.lists.proofs.Written.{valid-list}
use Rattle.lines.specs.declared.Verdict.{Verdict}
use Rattle.lines.specs.declared.Why.{Why}
use Rattle.report.specs.declared.Brought.{Brought}
use Rattle.report.specs.declared.Ending.{Ending}
use Rattle.report.specs.Report.{verdict}
use Rattle.report.specs.Code.Files.{begun, fits, after_piece, turn_of, after_turn, ends_as, ending, after_all, said, AllBytes}
use Rattle.report.specs.Code.Files.{up_to_failure, Reading}
use Rattle.report.specs.Code.Program.{File, unread, pieces, Led, Verdicted, verdict_on}
use Rattle.report.proofs.Verdicts.{file-verdict}

-- ---- cases of an enum that exclude each other

abbrev GoesOn : Option Ending → Type 0
GoesOn None = Unit {0}
GoesOn (Some e) = ⊥

abbrev end_of : Option Ending → Ending
end_of None = Ending.Whole
end_of (Some e) = e

-- ---- one piece more

all-on : (ps : List (List ℕ)) (p : List ℕ) → AllBytes ps → Bytes p → AllBytes (ps ++ (p ∷ []))
all-on [] p g b = (b, tt)
all-on (q ∷ ps) p g b = (g.0, all-on ps p g.1 b)

abbrev IsWhole : Ending → Type 0
IsWhole Ending.Whole = Unit {0}
IsWhole Ending.TooLong = ⊥
IsWhole (Ending.Unread why) = ⊥

first_taken : (b : Bool) (e : Ending) → cond b e Ending.TooLong ≡ Ending.Whole → (b ≡ true) × (e ≡ Ending.Whole)
first_taken true e h = (refl, h)
first_taken false e h = absurd (subst IsWhole (sym h) tt)

-- where all before it were taken, the last piece decides
last-piece : (ps : List (List ℕ)) (t p : List ℕ) → ending t ps ≡ Ending.Whole →
    (ending t (ps ++ (p ∷ [])) ≡ ending (after_all t ps) (p ∷ [])) × (after_all t (ps ++ (p ∷ [])) ≡ after_all (after_all t ps) (p ∷ []))
unfolding ending after_all
last-piece [] t p h = (refl, refl)
last-piece (q ∷ ps) t p h =
    let k = first_taken (fits t q) (ending (after_piece t q) ps) h in
    rw k.0 (last-piece ps (after_piece t q) p k.1)

either-after : (t p : List ℕ) → after_all t (p ∷ []) ≡ after_piece t p
unfolding after_all
either-after t p = go (fits t p)
  where
    go : (b : Bool) → cond b (after_piece t p) (after_piece t p) ≡ after_piece t p
    go true = refl
    go false = refl

-- ---- turn by turn: a reading of which every piece so far was taken

module _ (t : List ℕ) where
  pub starts : Reading t Ending.Whole t
  unfolding ending after_all
  starts = record { met = []; bytes = tt; ends = refl; leaves = refl }

  -- where no more turns are made
  pub breaks-off : {left : List ℕ} (why : Why) → Reading t Ending.Whole left → Reading t (Ending.Unread why) left
  breaks-off why r = record { met = r.met; bytes = r.bytes; ends = r.ends; leaves = r.leaves }

  module _ {left : List ℕ} (r : Reading t Ending.Whole left) (p : List ℕ) (g : Bytes p) where
    -- with the piece p more
    more : (e : Ending) → ending left (p ∷ []) ≡ up_to_failure e → Reading t e (after_piece left p)
    more e h =
        let last = last-piece r.met t p r.ends in
        record {
          met = r.met ++ (p ∷ []);
          bytes = all-on r.met p r.bytes g;
          ends = last.0 ∙ rw (← r.leaves) h;
          leaves = sym (last.1 ∙ rw (← r.leaves) (either-after left p));
        }

    on-piece : (b : Bool) → fits left p ≡ b → None ≡ cond b None (Some Ending.TooLong) →
        Reading t Ending.Whole (after_piece left p)
    unfolding ending after_all
    on-piece true e h = more Ending.Whole (rw e)
    on-piece false e h = absurd (subst GoesOn h tt)

    end-piece : (e : Ending) (b : Bool) → fits left p ≡ b → Some e ≡ cond b None (Some Ending.TooLong) →
        Reading t e (after_piece left p)
    unfolding ending after_all
    end-piece e true k h = absurd (subst GoesOn (sym h) tt)
    end-piece e false k h = more e (rw (k, ap end_of h))

    on : (b : Brought) → None ≡ turn_of left p b → {after : List ℕ} → after ≡ after_turn left p b → Reading t Ending.Whole after
    unfolding turn_of after_turn
    on Brought.Bytes h a = rw a (on-piece (fits left p) refl h)
    on Brought.End h a = absurd (subst GoesOn h tt)
    on Brought.Again h a = rw a r
    on (Brought.Nothing why) h a = absurd (subst GoesOn h tt)

    pub goes_on : (turn : Option Ending) (b : Brought) → turn ≡ None → turn ≡ turn_of left p b →
        {after : List ℕ} → after ≡ after_turn left p b → Reading t Ending.Whole after
    goes_on turn b k h a = on b (sym k ∙ h) a

    end : (e : Ending) (b : Brought) → Some e ≡ turn_of left p b → {after : List ℕ} → after ≡ after_turn left p b → Reading t e after
    unfolding turn_of after_turn
    end e Brought.Bytes h a = rw a (end-piece e (fits left p) refl h)
    end e Brought.End h a = rw (a, ap end_of h) r
    end e Brought.Again h a = absurd (subst GoesOn (sym h) tt)
    end e (Brought.Nothing why) h a = rw (a, ap end_of h) (breaks-off why r)

    pub stops : (e : Ending) (turn : Option Ending) (b : Brought) → turn ≡ Some e → turn ≡ turn_of left p b →
        {after : List ℕ} → after ≡ after_turn left p b → Reading t e after
    stops e turn b k h a = end e b (sym k ∙ h) a

-- ---- the file that was met

pub led : (words : List ℕ) (e : ℕ) {t : List ℕ} → t ≡ begun words e → (end : Ending) (left : List ℕ) → Reading t end left →
    (f : File) × Led words e f end left
led words e b Ending.Whole left r = (pieces words r.met, rw (← b) (refl, r.bytes, sym r.ends, r.leaves))
led words e b Ending.TooLong left r = (pieces words r.met, rw (← b) (refl, r.bytes, sym r.ends, r.leaves))
led words e b (Ending.Unread why) left r = (unread why, refl)

edition-known : (bs : List ℕ) → accepted bs ≡ true → known (edition_in bs) ≡ true
unfolding read_list
edition-known bs a = (valid-list (read_list bs) (accepted-valid bs a)).edition-known

pub verdicted : (words bs : List ℕ) (i : ℕ) (end : Ending) (left : List ℕ) {v : Verdict} →
    v ≡ ends_as end left (edition_in bs) (pair_in i bs).digest → (f : File) → Led words (edition_in bs) f end left → Verdicted bs i words v
unfolding verdict_on said ends_as verdict
verdicted words bs i end left h (unread why) l = record { file = unread why; over = tt; step = h ∙ rw l; says = λ a r. h ∙ rw l }
verdicted words bs i end left h (pieces under ps) l =
    let d : List ℕ = (pair_in i bs).digest in
    let steps : ends_as end left (edition_in bs) d ≡ said (begun under (edition_in bs)) (edition_in bs) d ps = rw (l.0, l.2, l.3) in
    record {
      file = pieces under ps;
      over = (l.0, l.1);
      step = h ∙ steps;
      says = λ a r. h ∙ steps ∙ file-verdict under (edition_in bs) d ps (rw l.0 r) (edition-known bs a) l.1;
    }
