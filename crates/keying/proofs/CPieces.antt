-- HMAC under C names, as theorems about calls that were made. `c-hmac-at-once` and `c-hmac-compared`: a tag at once is FIPS 198-1's. In
-- lent words from the start: `c-hmac-of`, words that were started and added to hold `keyed_of` of the key and all bytes; `c-hmac-answers`
-- and `c-tag-answer`, no such call is told that the keyed hash is not sound; `c-hmac-pieces`, the tag is FIPS 198-1's of the joined
-- message, answered and left as a tag at once, `c-pieces-at-once`, and a tag is accepted exactly where it is that, `c-pieces-compared`.
-- `c-at-once-kept`: a refused tag at once leaves its output.
use Prim.Native.Nat.{ℕ, ◌<◌, ◌≤◌}
use mathlib.Core.Bool.{Bool, cond}
use mathlib.Core.List.{List, ◌++◌}
use mathlib.Core.Path.{◌≡◌, refl, ap, ◌∙◌}
use native.Mathlib.Omega.{arith}
use lib.Dec.{ltb}
use lib.ListN.{length}
use Rattle.contracts.specs.Says.{Made, exit}
use Rattle.answers.specs.Judged.{first}
use Rattle.answers.proofs.Outcome.{outcome-settled}
use Rattle.answers.proofs.Refusals.{zero-leaves, refused-leaves}
use Rattle.slices.specs.AtFront.{at_front}
use Rattle.slices.specs.Tests.{same}
use Rattle.fips.specs.Editions.{digest_bytes}
use Rattle.dwsha2.specs.Limit.{too_long}
use Rattle.hmac.specs.Hmac.{B, hmac}
use Rattle.keyed.specs.AtOnce.{length_tests}
use Rattle.keyed.specs.Steps.{keyed_of}
use Rattle.keyed.proofs.Judging.{lengths-passed, check-first}
use Rattle.keyedwords.specs.Words.{keyed_words, keyed_in}
use Rattle.capi.specs.contracts.dw_tag as at_once
use Rattle.capi.proofs.dw_tag.Reads as at-once-reads
use Rattle.capi.specs.contracts.dw_check_tag as at-once-check
use Rattle.capi.proofs.dw_check_tag.Reads as at-once-check-reads
use Rattle.keying.specs.InC.{Lent, started-in, added-in, kept_in}
use Rattle.keying.proofs.Passing.{add-answers, tag-answers, check-answers}
use Rattle.keying.proofs.Leading.{Leads, leads-start, leads-same, leads-add, leads-sound, leads-edition, leads-tag, room-left}
use Rattle.keying.proofs.Leading.{leads-lengths, leads-tagged, once-tagged}
use Rattle.keying.proofs.CCalls.{Add, Tag, Check, before, piece, add-tests, tag-tests, check-tests, start-done, add_done, c-add-kept}

-- ---- at once

pub c-hmac-at-once : (m : Made at_once.ended at-once-reads.Learnt) → m.result ≡ 0 →
    (exit m).1.1.1.0.now ≡ at_front (hmac m.args.0 m.args.1.0.now m.args.1.1.0.now) m.args.1.1.1.0.now
c-hmac-at-once m z = zero-leaves m.learnt z

-- refused, it leaves the output
pub c-at-once-kept : (m : Made at_once.ended at-once-reads.Learnt) → 0 < m.result → (exit m).1.1.1.0.now ≡ m.args.1.1.1.0.now
c-at-once-kept m r = refused-leaves m.learnt r

-- where the edition and the lengths pass, the tag decides
pub c-hmac-compared : (m : Made at-once-check.ended at-once-check-reads.Learnt) →
    let e = m.args.0 in
    let key = m.args.1.0.now in
    let text = m.args.1.1.0.now in
    first (length_tests e (length key) (length text)) ≡ 0 →
    m.result ≡ cond (same m.args.1.1.1.0.now (hmac e key text)) 0 14
c-hmac-compared m none = m.learnt ∙ check-first _ _ _ _ (lengths-passed _ _ _ none) _ refl

-- ---- from the start

-- the words are enough, and what they hold a key and a message led to
pub record CLeads (e : ℕ) (key all ws : List ℕ) : Type 0 where
  pub enough : keyed_words ≤ length ws
  pub held : Leads e key all (keyed_in ws)

pub c-leads : {e : ℕ} {key all ws : List ℕ} → Lent e key all ws → CLeads e key all ws
c-leads (started-in m z) =
    let d = start-done m z in
    record {
      enough = omega (arith, d.left.long, d.left.enough);
      held = leads-same (leads-start _ _ d.passes m.learnt.1.1) d.left.holds;
    }
c-leads (added-in t m on z) =
    let l = c-leads t in
    let d = add_done m z in
    record {
      enough = omega (arith, d.left.long, d.left.enough);
      held =
          leads-same (leads-add (leads-same l.held (ap keyed_in on)) (piece m) m.learnt.1.1 d.passes.within) d.left.holds;
    }
c-leads (kept_in t m on r) =
    let l = c-leads t in
    let same = c-add-kept m r ∙ on in
    record { enough = omega (arith, ap length same, l.enough); held = leads-same l.held (ap keyed_in same) }

pub c-hmac-of : {e : ℕ} {key all ws : List ℕ} → Lent e key all ws → keyed_in ws ≡ keyed_of e key all
c-hmac-of t = (c-leads t).held.is

module _ {e : ℕ} {key all ws : List ℕ} (t : Lent e key all ws) where
  -- words of a call that are those
  lead-on : {l : List ℕ} → l ≡ ws → CLeads e key all l
  lead-on on =
      let c = c-leads t in
      record { enough = omega (arith, ap length on, c.enough); held = leads-same c.held (ap keyed_in on) }

  -- the next piece is refused for the limit alone, with 7
  pub c-hmac-answers : (m : Add) → before m ≡ ws → m.result ≡ cond (too_long e (B e) (length (all ++ piece m))) 7 0
  c-hmac-answers m on =
      let l = lead-on on in
      m.learnt.0.answer
      ∙ add-tests (before m) (piece m) l.enough
      ∙ add-answers (keyed_in (before m)) (piece m) (leads-sound l.held)
      ∙ ap (λ (b : Bool). cond b 7 0) (room-left l.held (piece m))

  module _ (m : Tag) (on : m.args.0.now ≡ ws) where
    abbrev out : List ℕ
    out = m.args.1.0.now

    -- a tag is refused for a short output alone, with 9
    pub c-tag-answer : m.result ≡ cond (ltb (length out) (digest_bytes e)) 9 0
    c-tag-answer =
        let l = lead-on on in
        m.learnt.answer
        ∙ tag-tests m.args.0.now out l.enough
        ∙ tag-answers (keyed_in m.args.0.now) out (leads-sound l.held)
        ∙ ap (λ (n : ℕ). cond (ltb (length out) (digest_bytes n)) 9 0) (leads-edition l.held)

    pub c-hmac-pieces : m.result ≡ 0 → (exit m).1.0.now ≡ at_front (hmac e key all) out
    c-hmac-pieces z = zero-leaves m.learnt z ∙ ap (λ (tag : List ℕ). at_front tag out) (leads-tag (lead-on on).held)

    -- a tag at once of the same answers and leaves the same
    pub c-pieces-at-once : (w : Made at_once.ended at-once-reads.Learnt) → w.args.0 ≡ e → w.args.1.0.now ≡ key →
        w.args.1.1.0.now ≡ all → w.args.1.1.1.0.now ≡ out →
        (m.result ≡ w.result) × ((exit m).1.0.now ≡ (exit w).1.1.1.0.now)
    c-pieces-at-once w is_e is_key is_all is_out =
        let l = lead-on on in
        outcome-settled
        (leads-tagged e key all out l.held (tag-tests m.args.0.now out l.enough) m.learnt)
        (once-tagged e key all out (leads-lengths l.held) is_e is_key is_all is_out w.learnt)

  -- a tag is accepted exactly where it is that of the joined message
  pub c-pieces-compared : (m : Check) → m.args.0.now ≡ ws →
      m.result ≡ cond (same m.args.1.0.now (hmac e key all)) 0 14
  c-pieces-compared m on =
      let l = lead-on on in
      let tag = m.args.1.0.now in
      m.learnt
      ∙ check-tests m.args.0.now tag l.enough
      ∙ check-answers (keyed_in m.args.0.now) tag (leads-sound l.held)
      ∙ ap (λ (made : List ℕ). cond (same tag made) 0 14) (leads-tag l.held)
