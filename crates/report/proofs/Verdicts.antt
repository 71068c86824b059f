-- A file through a bay gets the verdict that its bytes have: `file-verdict`. The ledger's theorem says what the bay holds after each
-- piece, and closing gives the standard's digest of it.
use Prim.Native.Nat.{ℕ, ◌≤◌}
use mathlib.Core.Bool.{Bool, true, false, cond}
use mathlib.Core.List.{List, [], ◌∷◌, ◌++◌, append_assoc, append-nil}
use mathlib.Core.Path.{◌≡◌, refl, sym, ap, subst, ◌∙◌}
use native.Mathlib.Omega.{arith}
use lib.ListN.{length, take, drop, replicate, length-append}
use lib.Seq.{take_at}
use borrow.Author.Tests.{le-ltb}
use Rattle.answers.specs.Judged.{first}
use Rattle.slices.specs.Below.{Bytes}
use Rattle.slices.proofs.Below.{below-append, below-nil}
use Rattle.fips.specs.Message.{message}
use Rattle.fips.specs.Editions.{known, digest_bytes, digest}
use Rattle.fips.proofs.Digest.{length-digest}
use Rattle.fips.proofs.Editions.{digest-short}
use Rattle.slices.specs.AtFront.{at_front}
use Rattle.dwsha2.specs.Limit.{too_long}
use Rattle.dwsha2.proofs.Limits.{same_sum, longer, no_length}
use Rattle.dwsha2.specs.Closing.{closing_fits}
use Rattle.slices.proofs.AtFront.{at_front-room}
use Rattle.bays.specs.Table.{room_for}
use Rattle.calls.specs.Calls.{lay_out, opening, adding, closing, tests, Seen, run}
use Rattle.ledger.specs.Ledger.{Slot, nothing, entry, Entry, opened_entry, with, entry_digest, ledger_tests, kept, written, keep}
use Rattle.ledger.proofs.Follows.{Follows}
use Rattle.ledger.proofs.Ledger.{laid, same_seen, still-follows, opened-digest}
use Rattle.lines.specs.declared.Verdict.{Verdict}
use Rattle.report.specs.declared.Ending.{Ending}
use Rattle.report.specs.Code.Files.{begun, fits, after_piece, judged, ends_as, ending, after_all, said, AllBytes, joined}
use Rattle.report.specs.Report.{bytes, verdict}
use Rattle.ledger.specs.Ledger.{entry_length}

-- ---- the ledger's side, of one bay

module _ (L : ℕ) where
  opens : (e : ℕ) → known e ≡ true → (keep L (nothing ∷ []) (opening 0 e)).slots ≡ entry (opened_entry e) ∷ []
  unfolding keep ledger_tests kept first
  opens e k = rw k

  module _ (en : Entry) where
    over : (p : List ℕ) → too_long en.edition (entry_length en) (length p) ≡ true → (keep L (entry en ∷ []) (adding 0 p)).seen.answer ≡ 7
    unfolding keep ledger_tests first
    over p h = rw h

    adds : (p : List ℕ) → too_long en.edition (entry_length en) (length p) ≡ false →
        ((keep L (entry en ∷ []) (adding 0 p)).seen.answer ≡ 0) × ((keep L (entry en ∷ []) (adding 0 p)).slots ≡ entry (with en p) ∷ [])
    unfolding keep ledger_tests kept first
    adds p h = (rw h, rw h)

    closes : (out : List ℕ) → digest_bytes en.edition ≤ length out →
        ((keep L (entry en ∷ []) (closing 0 0 0 out)).seen.answer ≡ 0)
        × ((keep L (entry en ∷ []) (closing 0 0 0 out)).seen.output ≡ at_front (entry_digest en 0 0) out)
    unfolding keep ledger_tests written first closing_fits
    closes out h = let fine = le-ltb (length out) (digest_bytes en.edition) h in (rw fine, rw fine)

-- ---- the table's

take-front : (xs out : List ℕ) (n : ℕ) → length xs ≡ n → n ≤ length out → take n (at_front xs out) ≡ xs
take-front xs out n e h = rw (at_front-room xs out (omega arith)) (take_at xs (drop (length xs) out) n e)

module _ (L e : ℕ) (listed : List ℕ) where
  -- the bay holds m
  abbrev BayHolds : List ℕ → List ℕ → Type 0
  BayHolds t m = Follows L t (entry (with (opened_entry e) m) ∷ [])

  -- what an entry that was opened and given m has taken is m
  given : (m p : List ℕ) → too_long e (entry_length (with (opened_entry e) m)) (length p) ≡ too_long e (length m) (length p)
  given m p = same_sum e (entry_length (with (opened_entry e) m)) (length p) (length m) (length p) (omega arith)

  joins : (m p : List ℕ) → too_long e (length m) (length p) ≡ too_long e 0 (length (m ++ p))
  joins m p = same_sum e (length m) (length p) 0 (length (m ++ p)) (omega (arith, length-append m p))

  over-bad : (m : List ℕ) → too_long e 0 (length m) ≡ true → verdict e listed (bytes m) ≡ Verdict.Bad
  unfolding verdict
  over-bad m h = rw h

  at-end : (t m : List ℕ) → BayHolds t m → Bytes m → too_long e 0 (length m) ≡ false → judged t e listed ≡ verdict e listed (bytes m)
  unfolding judged verdict
  at-end t m f b h =
      let out : List ℕ = replicate 64 0 in
      let seen = same_seen f (closing 0 0 0 out) (omega arith) in
      let ledger = closes L (with (opened_entry e) m) out (digest-short e) in
      let done : (run t (closing 0 0 0 out)).seen.answer ≡ 0 = ap (λ (s : Seen). s.answer) seen ∙ ledger.0 in
      let out-digest : (run t (closing 0 0 0 out)).seen.output ≡ at_front (digest e (message m 0 0)) out =
      ap (λ (s : Seen). s.output) seen
      ∙ ledger.1
      ∙ ap (λ (d : List ℕ). at_front d out) (opened-digest e m 0 0) in
      rw (
        done,
        out-digest,
        take-front (digest e (message m 0 0)) out (digest_bytes e) (length-digest e (message m 0 0)) (digest-short e),
        h,
      )

  refuses : (t m p : List ℕ) → BayHolds t m → Bytes p → too_long e (length m) (length p) ≡ true → fits t p ≡ false
  unfolding fits
  refuses t m p f g h =
      rw (ap (λ (s : Seen). s.answer) (same_seen f (adding 0 p) g) ∙ over L (with (opened_entry e) m) p (given m p ∙ h))

  fits-and-holds : (t m p : List ℕ) → BayHolds t m → Bytes p → too_long e (length m) (length p) ≡ false →
      (fits t p ≡ true) × BayHolds (after_piece t p) (m ++ p)
  unfolding fits after_piece
  fits-and-holds t m p f g h =
      let ledger = adds L (with (opened_entry e) m) p (given m p ∙ h) in (
        rw (ap (λ (s : Seen). s.answer) (same_seen f (adding 0 p) g) ∙ ledger.0),
        subst (λ (l : List Slot). Follows L (run t (adding 0 p)).table l) ledger.1 (still-follows f (adding 0 p) g),
      )

  -- a piece more: what is said of the rest, or the end
  said-on : (t p : List ℕ) (ps : List (List ℕ)) →
      said t e listed (p ∷ ps) ≡ cond (fits t p) (said (after_piece t p) e listed ps) Verdict.Bad
  unfolding said ending after_all ends_as
  said-on t p ps = go (fits t p)
    where
      go : (b : Bool) →
          ends_as (cond b (ending (after_piece t p) ps) Ending.TooLong) (cond b (after_all (after_piece t p) ps) (after_piece t p)) e listed
          ≡ cond b (said (after_piece t p) e listed ps) Verdict.Bad
      go true = refl
      go false = refl

  from-here : (ps : List (List ℕ)) (t m : List ℕ) → BayHolds t m → Bytes m → too_long e 0 (length m) ≡ false → AllBytes ps →
      said t e listed ps ≡ verdict e listed (bytes (m ++ joined ps))
  unfolding said ending after_all joined ends_as
  from-here [] t m f b h g = at-end t m f b h ∙ ap (λ (l : List ℕ). verdict e listed (bytes l)) (sym (append-nil m))
  from-here (p ∷ ps) t m f b h g =
      said-on t p ps
      ∙ go (too_long e (length m) (length p)) refl
      (λ Holds-more short. from-here ps (after_piece t p) (m ++ p) Holds-more (below-append m p b g.0) short g.1)
    where
      go : (k : Bool) → too_long e (length m) (length p) ≡ k →
          (BayHolds (after_piece t p) (m ++ p) → too_long e 0 (length (m ++ p)) ≡ false →
          said (after_piece t p) e listed ps ≡ verdict e listed (bytes (m ++ p ++ joined ps))) →
          cond (fits t p) (said (after_piece t p) e listed ps) Verdict.Bad ≡ verdict e listed (bytes (m ++ (p ++ joined ps)))
      go true q rest =
          let more : length (m ++ p) ≤ length (m ++ (p ++ joined ps)) = simp length-append (omega arith) in
          let all = longer e 0 (length (m ++ p)) (length (m ++ (p ++ joined ps))) more (sym (joins m p) ∙ q) in
          rw (refuses t m p f g.0 q) (sym (over-bad (m ++ (p ++ joined ps)) all))
      go false q rest =
          let next = fits-and-holds t m p f g.0 q in
          rw next.0
          (rest next.1 (sym (joins m p) ∙ q)
          ∙ ap (λ (l : List ℕ). verdict e listed (bytes l)) (append_assoc m p (joined ps)))

-- a table of one bay over any words: what is said of the pieces is what the file's bytes have
pub file-verdict : (words : List ℕ) (e : ℕ) (listed : List ℕ) (ps : List (List ℕ)) → room_for 1 (length words) ≡ true → known e ≡ true →
    AllBytes ps → said (begun words e) e listed ps ≡ verdict e listed (bytes (joined ps))
unfolding begun run tests first
file-verdict words e listed ps r k g =
    from-here (length words) e listed ps (begun words e) [] first_holds (below-nil 256 (omega arith)) (no_length e) g
  where
    room : (run words (lay_out 1)).seen.answer ≡ 0
    room = rw r

    first_holds : Follows (length words) (begun words e) (entry (opened_entry e) ∷ [])
    first_holds =
        subst (λ (l : List Slot). Follows (length words) (run (run words (lay_out 1)).table (opening 0 e)).table l)
        (opens (length words) e k)
        (still-follows (laid words 1 room) (opening 0 e) tt)
