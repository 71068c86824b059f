-- The program, step by step, writes the output: `program-output`. The entries by number are the list's pairs, counting one by one gives
-- each sum, and a list that is too long to be read whole is none.
use Prim.Native.Nat.{ℕ, zero, suc, ◌+◌, ◌≤◌, ◌<◌}
use mathlib.Core.Bool.{Bool, true, false, cond}
use mathlib.Core.List.{List, [], ◌∷◌, ◌++◌, append_assoc}
use mathlib.Core.Path.{◌≡◌, refl, sym, ap, ◌∙◌}
use native.Mathlib.Numerals.{add-one}
use native.Mathlib.Omega.{arith}
use lib.Dec.{leb}
use lib.ListN.{length, take, drop, drop_of_length-le, length-take}
use lib.Seq.{drop-cons, take_all}
use borrow.Author.Tests.{leb-true, leb-false}
use Rattle.fips.specs.Constants.{ascii}
use Rattle.fips.specs.Editions.{known}
use Rattle.lists.specs.Calls.{pair_in}
use Rattle.lists.specs.Layout.{longest_list, edition_in, count_in, read_list, accepted}
use Rattle.lists.specs.Lists.{Pair}
use Rattle.lists.proofs.ByRules.{accepted-header}
use Rattle.lists.proofs.Lists.{accepted-valid, list-short}
use Rattle.lists.proofs.Written.{ValidList, valid-list}
use Rattle.lines.specs.declared.Tally.{Tally}
use Rattle.lines.specs.declared.Verdict.{Verdict}
use Rattle.lines.specs.Lines.{line_of, count_line, not_a_list}
use Rattle.lines.specs.Code.Counting.{nothing_counted}
use Rattle.lines.proofs.Short.{length_pairs}
use Rattle.lines.proofs.Counting.{Room, plus, count-one, room-one, room-first, plus_none, plus-plus, plus-all}
use Rattle.report.specs.Code.Files.{joined}
use Rattle.report.specs.Code.Program.{File, unread, pieces, Met, came, read_up_to, verdict_on, writes, program}
use Rattle.report.specs.Report.{Came, verdict, verdicts, file_lines, report, by_list, output}
use Rattle.report.proofs.Verdicts.{file-verdict}

-- ---- bytes that are no list

unless-list : (bs : List ℕ) → (accepted bs ≡ true → ⊥) → accepted bs ≡ false
unless-list bs h = go (accepted bs) refl
  where
    go : (b : Bool) → accepted bs ≡ b → b ≡ false
    go true e = absurd (h e)
    go false e = refl

no_bytes : accepted [] ≡ false
no_bytes = unless-list [] (λ e. omega (arith, (accepted-header [] e).long))

too_long : (bs : List ℕ) → longest_list < length bs → accepted bs ≡ false
too_long bs h = unless-list bs (λ e. omega (arith, h, list-short bs e))

-- ---- entry by entry

module _ (files : List ℕ → File) (met : (name : List ℕ) → Met (files name)) where
  abbrev folder : List ℕ → Came
  folder name = came (files name)

  module _ (bs : List ℕ) (e : ℕ) (k : known e ≡ true) (is : e ≡ edition_in bs) where
    verdict-on : (i : ℕ) (f : File) → Met f → verdict_on bs i f ≡ verdict e (pair_in i bs).digest (came f)
    unfolding verdict_on verdict
    verdict-on i (unread why) g = refl
    verdict-on i (pieces words ps) g = rw (← is) (file-verdict words e (pair_in i bs).digest ps g.0 k g.1)

    pair-on : (i : ℕ) → i < length (read_list bs).pairs → drop i (read_list bs).pairs ≡ pair_in i bs ∷ drop (i + 1) (read_list bs).pairs
    unfolding pair_in
    pair-on i h = drop-cons (read_list bs).pairs i (record { name = []; digest = [] }) h ∙ rw add-one

    from-entry : (n i : ℕ) (t : Tally) → i + n ≡ length (read_list bs).pairs → Room t n →
        writes files bs i n t
        ≡ file_lines folder e (drop i (read_list bs).pairs) ++ count_line (plus t (verdicts folder e (drop i (read_list bs).pairs)))
    unfolding writes file_lines verdicts
    from-entry zero i t h r =
        rw (drop_of_length-le (read_list bs).pairs {i = i} (omega arith)) (ap count_line (sym (plus_none t)))
    from-entry (suc n) i t h r =
        let rest : List Pair = drop (i + 1) (read_list bs).pairs in
        let name : List ℕ = (pair_in i bs).name in
        let v : Verdict = verdict e (pair_in i bs).digest (folder name) in
        let vs : List Verdict = verdicts folder e rest in
        let later = from-entry n (i + 1) (plus t (v ∷ [])) (omega arith) (room-one t v n r) in
        let next = later ∙ ap (λ (u : Tally). file_lines folder e rest ++ count_line u) (plus-plus t v vs) in
        rw (pair-on i (omega arith), verdict-on i (files name) (met name), count-one t v n r)
        (ap (λ (l : List ℕ). line_of v name ++ l) next
        ∙ sym (append_assoc (line_of v name) (file_lines folder e rest) (count_line (plus t (v ∷ vs)))))

  writes-report : (bs : List ℕ) → accepted bs ≡ true → writes files bs 0 (count_in bs) nothing_counted ≡ report folder (read_list bs)
  unfolding report read_list
  writes-report bs a =
      let v : ValidList (read_list bs) = valid-list (read_list bs) (accepted-valid bs a) in
      let room = room-first (count_in bs) (omega (arith, v.few, length_pairs bs)) in
      from-entry bs (edition_in bs) v.edition-known refl (count_in bs) 0 nothing_counted (omega (arith, length_pairs bs)) room
      ∙ ap (λ (u : Tally). file_lines folder (edition_in bs) (read_list bs).pairs ++ count_line u)
      (plus-all (verdicts folder (edition_in bs) (read_list bs).pairs))

  writes-either : (bs : List ℕ) →
      cond (accepted bs) (writes files bs 0 (count_in bs) nothing_counted) not_a_list
      ≡ cond (accepted bs) (report folder (read_list bs)) not_a_list
  writes-either bs = go (accepted bs) refl
    where
      go : (b : Bool) → accepted bs ≡ b →
          cond b (writes files bs 0 (count_in bs) nothing_counted) not_a_list ≡ cond b (report folder (read_list bs)) not_a_list
      go true e = writes-report bs e
      go false e = refl

  -- as much of the list as is read decides, where no list has so many bytes
  by-list : (n : ℕ) → ((bs : List ℕ) → n ≤ length bs → accepted bs ≡ false) → (f : File) →
      cond (accepted (read_up_to n f)) (writes files (read_up_to n f) 0 (count_in (read_up_to n f)) nothing_counted) not_a_list
      ≡ by_list folder (came f)
  unfolding by_list
  by-list n no-list (unread why) = rw no_bytes
  by-list n no-list (pieces words ps) = go (leb (length (joined ps)) n) refl
    where
      bs : List ℕ
      bs = take n (joined ps)

      go : (b : Bool) → leb (length (joined ps)) n ≡ b →
          cond (accepted bs) (writes files bs 0 (count_in bs) nothing_counted) not_a_list
          ≡ cond (accepted (joined ps)) (report folder (read_list (joined ps))) not_a_list
      go true e = rw (take_all n (joined ps) (leb-true (length (joined ps)) n e)) (writes-either (joined ps))
      go false e =
          let long = leb-false (length (joined ps)) n e in
          rw (no-list (joined ps) (omega arith), no-list (take n (joined ps)) (omega (arith, length-take n (joined ps))))

-- the program's lines are those of the folder that it meets
pub program-output : (files : List ℕ → File) → ((name : List ℕ) → Met (files name)) → program files ≡ output (λ name. came (files name))
unfolding program output
program-output files met = by-list files met (suc longest_list) too_long (files (ascii "yard.man"))
