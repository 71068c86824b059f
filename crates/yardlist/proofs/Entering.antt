-- A name entered in the list, out of what the calls state: `closes` for the bay closed and the pair put, `entered` for a file that was read
-- to its end, `not_entered` for any other. The digest is the standard's by `file-verdict` of report: the file's bytes are OK for it.
use Prim.Native.Nat.{ℕ}
use mathlib.Core.Bool.{true}
use mathlib.Core.List.{List}
use mathlib.Core.Path.{◌≡◌, refl, sym, subst, ◌∙◌}
use lib.ListN.{length, take, replicate}
use borrow.Author.Tests.{eqb-true}
use Rattle.std.specs.Prelude.{Result, Ok, Err}
use Rattle.std.specs.Result.{is_ok as is-done}
use Rattle.answers.specs.Numbers.{Answer, number_of}
use Rattle.answers.proofs.Refusals.{refused-leaves}
use Rattle.slices.proofs.Tests.{same_refl}
use Rattle.fips.specs.Editions.{known, digest_bytes}
use Rattle.bays.specs.Table.{room_for}
use Rattle.calls.specs.Calls.{closing, Outcome}
use Rattle.calls.proofs.Runs.{runs}
use Rattle.lists.specs.Layout.{edition_in}
use Rattle.writer.specs.Writing.{Puts}
use Rattle.listing.specs.declared.Reason.{Reason}
use Rattle.listing.specs.Rules.{answered}
use Rattle.listing.proofs.Rules.{answered-done, answered-refused}
use Rattle.lines.specs.declared.Verdict.{Verdict}
use Rattle.report.specs.declared.Ending.{Ending}
use Rattle.report.specs.Report.{bytes, verdict}
use Rattle.report.specs.Code.Files.{begun, close, judged, ends_as, ending, after_all, said, AllBytes, joined}
use Rattle.report.specs.Code.Program.{File, unread, pieces, Led, Over}
use Rattle.report.proofs.Means.{ok-means}
use Rattle.report.proofs.Through.{done-number}
use Rattle.report.proofs.Verdicts.{file-verdict}
use Rattle.yardlist.specs.Entered.{closed_digest, Closed, Listed, Entered}

-- ---- cases of an enum that exclude each other

abbrev IsDone : Result Unit Reason → Type 0
IsDone (Ok a) = Unit {0}
IsDone (Err r) = ⊥

not_done : (r : Reason) → ◌≡◌ {A = Result Unit Reason} (Err r) (Ok tt) → ⊥
not_done r h = subst IsDone (sym h) tt

abbrev IsWhole : Ending → Type 0
IsWhole Ending.Whole = Unit {0}
IsWhole Ending.TooLong = ⊥
IsWhole (Ending.Unread why) = ⊥

-- ---- the bay closed, and the pair put

module _ (buffer name t : List ℕ) where
  -- no pair was put
  pub unclosed : (r : Reason) → Closed buffer name t (Err r) buffer
  unclosed r = record { kept = λ s h. refl; listed = λ h. absurd (not_done r h) }

  pub closes : {to table left : List ℕ} (a : Answer) (e size k : ℕ) (step : Result Unit Reason) →
      Outcome t (closing 0 0 0 (replicate 64 0)) (number_of a) table to → is-done a ≡ true → size ≡ digest_bytes e → e ≡ edition_in buffer →
      Puts buffer name (take size to) k left → step ≡ answered k → Closed buffer name t step left
  closes {to} {left = left} a e size k step p h d g puts s =
      let ran = runs t (closing 0 0 0 (replicate 64 0)) p in
      let same-digest : take size to ≡ closed_digest buffer t = rw (d, g, ran.2) in
      record {
        kept = λ r f. refused-leaves puts (answered-refused k r (sym s ∙ f));
        listed =
            λ f. (
              ran.0 ∙ eqb-true (number_of a) 0 (sym (done-number a) ∙ h),
              subst (λ (i : ℕ). Puts buffer name (closed_digest buffer t) i left) (answered-done k (sym s ∙ f))
                  (subst (λ (l : List ℕ). Puts buffer name l k left) same-digest puts),
            );
      }

-- ---- a file read to its end

-- what is closed to is OK for itself
is_ok : (t : List ℕ) (e : ℕ) (d : List ℕ) → (close t).seen.answer ≡ 0 → d ≡ take (digest_bytes e) (close t).seen.output →
    judged t e d ≡ Verdict.Ok
unfolding judged
is_ok t e d z h = rw (z, ← h, same_refl d)

module _ (buffer name words : List ℕ) where
  abbrev edition : ℕ
  edition = edition_in buffer

  of-pieces : (t : List ℕ) (ps : List (List ℕ)) (left : List ℕ) → AllBytes ps → Ending.Whole ≡ ending (begun words edition) ps →
      t ≡ after_all (begun words edition) ps → known edition ≡ true → room_for 1 (length words) ≡ true →
      (close t).seen.answer ≡ 0 → Puts buffer name (closed_digest buffer t) 0 left → Listed buffer name (pieces words ps) left
  unfolding said ends_as
  of-pieces t ps left b w is k room z puts =
      let d : List ℕ = closed_digest buffer t in
      let steps : said (begun words edition) edition d ps ≡ judged t edition d = rw (← w, ← is) in
      let ok : verdict edition d (bytes (joined ps)) ≡ Verdict.Ok =
      sym (file-verdict words edition d ps room k b) ∙ steps ∙ is_ok t edition d z refl in
      let means = ok-means edition d (bytes (joined ps)) ok in
      record {
        content = means.0;
        came-so = means.1.0;
        short = means.1.1;
        listed = subst (λ (l : List ℕ). Puts buffer name l 0 left) (sym means.1.2) puts;
      }

  pub entered : (t left : List ℕ) (step : Result Unit Reason) (f : File) → Led words edition f Ending.Whole t →
      Closed buffer name t step left → Entered buffer name words step left
  entered t left step (unread why) l c = absurd (subst IsWhole l tt)
  entered t left step (pieces under ps) l c =
      record {
        file = pieces under ps;
        over = (l.0, l.1);
        kept = c.kept;
        done =
            λ k room s.
            let put = c.listed s in
            subst (λ (u : List ℕ). Listed buffer name (pieces u ps) left) (sym l.0)
            (of-pieces t ps left l.1 l.2 l.3 k room put.0 put.1);
      }

  -- ---- any other

  over-it : (e : Ending) (t : List ℕ) (f : File) → Led words edition f e t → Over words f
  over-it e t (unread why) l = tt
  over-it e t (pieces under ps) l = (l.0, l.1)

  pub not_entered : (e : Ending) (t : List ℕ) (r : Reason) (f : File) → Led words edition f e t →
      Entered buffer name words (Err r) buffer
  not_entered e t r f l =
      record { file = f; over = over-it e t f l; kept = λ s h. refl; done = λ k room h. absurd (not_done r h) }
