-- The contracts of the functions that lead a file through a bay, out of what the calls state: each is the step of `run` that it makes.
use Prim.Native.Nat.{ℕ}
use mathlib.Core.Bool.{Bool, true, false, cond}
use mathlib.Core.List.{List, []}
use mathlib.Core.Path.{◌≡◌, refl, sym, ap, ◌∙◌}
use native.Mathlib.Omega.{arith}
use Rattle.std.specs.Prelude.{None, Some, Ok, Err}
use Rattle.std.specs.Result.{is_ok}
use Rattle.answers.specs.Numbers.{Answer, number_of, refusal_number}
use Rattle.answers.proofs.Outcome.{refusing-number}
use borrow.Author.Tests.{ne_eqb}
use lib.Dec.{eqb}
use lib.IntN.{ℤ, pos, negsuc}
use lib.ListN.{length, take, replicate}
use Rattle.calls.specs.Calls.{lay_out, opening, adding, closing, run, Outcome}
use Rattle.calls.proofs.Runs.{runs}
use Rattle.fips.specs.Editions.{digest_bytes}
use Rattle.slices.specs.Tests.{same}
use Rattle.slices.specs.Below.{Bytes}
use Rattle.slices.proofs.Below.{below-nil, below-take}
use Rattle.slices.proofs.Parts.{take_within}
use Rattle.io.specs.Counts.{clamp_len}
use Rattle.lines.specs.declared.Verdict.{Verdict}
use Rattle.report.specs.declared.Brought.{Brought}
use Rattle.report.specs.declared.Ending.{Ending}
use Rattle.report.specs.Reads.{piece, brought}
use Rattle.report.specs.Code.Files.{begun, fits, after_piece, turn_of, after_turn, after_close, judged}

-- as many bytes as were counted are the piece
counted-piece : (z : ℤ) (buffer : List ℕ) → take (clamp_len z (length buffer)) buffer ≡ piece z buffer
counted-piece (pos n) buffer = take_within n buffer
counted-piece (negsuc n) buffer = refl

-- a piece of a buffer of bytes
pub piece_bytes : (z : ℤ) (buffer : List ℕ) → Bytes buffer → Bytes (piece z buffer)
piece_bytes (pos n) buffer b = below-take n buffer b
piece_bytes (negsuc n) buffer b = below-nil 256 (omega arith)

-- a read that brought bytes: they are taken, or reading ends
pub piece-turn : (t buffer : List ℕ) (z e : ℤ) (n : ℕ) {q : Bool} {left : List ℕ} →
    brought z e ≡ Brought.Bytes → n ≡ clamp_len z (length buffer) →
    (q ≡ fits t (take n buffer)) × (left ≡ after_piece t (take n buffer)) → (b : Bool) → q ≡ b →
    (cond b None (Some Ending.TooLong) ≡ turn_of t (piece z buffer) (brought z e))
    × (left ≡ after_turn t (piece z buffer) (brought z e))
unfolding turn_of after_turn
piece-turn t buffer z e n is count taken b k =
    let bytes : take n buffer ≡ piece z buffer = ap (λ (m : ℕ). take m buffer) count ∙ counted-piece z buffer in
    rw (is, ← bytes, ← taken.0, k) (refl, taken.1)

-- ---- whether a call was done, by its number

pub done-number : (a : Answer) → is_ok a ≡ eqb (number_of a) 0
done-number (Ok tt) = refl
done-number (Err r) = sym (ne_eqb (refusal_number r) 0 (λ e. rw e at (refusing-number r)))

-- ---- call by call

module _ {t : List ℕ} where
  pub begins : {mid left : List ℕ} {r s : ℕ} (e f : ℕ) → Outcome t (lay_out 1) r mid [] → Outcome mid (opening 0 e) s left [] →
      e ≡ f → left ≡ begun t f
  unfolding begun
  begins {mid} e f p q h =
      sym
      (ap (λ (u : List ℕ). (run u (opening 0 f)).table) (runs t (lay_out 1) p).1
      ∙ ap (λ (g : ℕ). (run mid (opening 0 g)).table) (sym h)
      ∙ (runs mid (opening 0 e) q).1)

  pub takes : (piece : List ℕ) {left : List ℕ} (a : Answer) → Outcome t (adding 0 piece) (number_of a) left [] →
      (is_ok a ≡ fits t piece) × (left ≡ after_piece t piece)
  unfolding fits after_piece
  takes piece a p = let ran = runs t (adding 0 piece) p in (done-number a ∙ rw ran.0, sym ran.1)

  -- where the bay is not closed, the file is bad
  pub unclosed : {left to : List ℕ} (a : Answer) (e : ℕ) (listed : List ℕ) →
      Outcome t (closing 0 0 0 (replicate 64 0)) (number_of a) left to → is_ok a ≡ false →
      (Verdict.Bad ≡ judged t e listed) × (left ≡ after_close t)
  unfolding judged after_close
  unclosed a e listed p f =
      let ran = runs t (closing 0 0 0 (replicate 64 0)) p in
      (rw (ran.0, ← done-number a, f), sym ran.1)

  -- where it is, the digest decides: `same` answered b
  pub compares : {left to : List ℕ} (a : Answer) (e f size : ℕ) (digest listed : List ℕ) (q b : Bool) →
      Outcome t (closing 0 0 0 (replicate 64 0)) (number_of a) left to → is_ok a ≡ true →
      size ≡ digest_bytes e → e ≡ f → digest ≡ listed → q ≡ same (take size to) digest → q ≡ b →
      (cond b Verdict.Ok Verdict.Bad ≡ judged t f listed) × (left ≡ after_close t)
  unfolding judged after_close
  compares {to = to} a e f size digest listed q b p z d g l s k =
      let ran = runs t (closing 0 0 0 (replicate 64 0)) p in
      let is : same (take (digest_bytes f) to) listed ≡ b = rw (← g, ← d, ← l, ← s) k in
      (rw (ran.0, ran.2, ← done-number a, z, is), sym ran.1)
