-- HMAC by value, as theorems about calls that were made, each of which holds by the function's own contract. `hmac-at-once`: the tag of a
-- whole message is FIPS 198-1's, and a tag is accepted exactly where it is that, `hmac-compared`. `hmac-append`: a piece and then another
-- are done exactly where the two in one are, and leave the same; `hmac-nothing`: no bytes change nothing. `hmac-of`: a start and pieces
-- lead to `keyed_of` of the key and all bytes; `hmac-answers`: none is refused but for the limit. `hmac-pieces`: the tag written is FIPS
-- 198-1's of the joined message, answered and left as a tag at once, `pieces-at-once`; and `pieces-compared`: a tag is accepted exactly
-- where it is that. `start-sound`, `add-sound`, `tag-defined`: sound keyed hashes stay sound, and have a tag. `at-once-kept`, `start-kept`,
-- `keyed-kept`, `tag-kept`: a refused call changes nothing.
use Prim.Native.Nat.{ℕ, zero, suc, ◌<◌, ◌≤◌}
use mathlib.Core.Bool.{Bool, true, cond}
use mathlib.Core.List.{List, [], ◌++◌}
use mathlib.Core.Path.{◌≡◌, refl, sym, ap, ap₂, ◌∙◌}
use native.Mathlib.Omega.{arith}
use borrow.Author.Tests.{le-ltb}
use lib.Dec.{ltb}
use lib.ListN.{length}
use Rattle.contracts.specs.Says.{Made, exit}
use Rattle.std.specs.Prelude.{Result, Ok, Err}
use Rattle.answers.specs.declared.Refusal.{Refusal}
use Rattle.answers.specs.Judged.{first, handed}
use Rattle.answers.specs.Numbers.{number_of}
use Rattle.answers.proofs.Outcome.{number-injective, answer-settled, refusing-number}
use Rattle.answers.proofs.Refusals.{zero-first, zero-leaves, done_first, done-leaves, refused-leaves}
use Rattle.slices.specs.AtFront.{at_front}
use Rattle.slices.specs.Below.{Bytes}
use Rattle.slices.specs.Tests.{same}
use Rattle.fips.specs.Editions.{digest_bytes}
use Rattle.dwsha2.specs.Limit.{too_long}
use Rattle.hmac.specs.Hmac.{B, hmac}
use Rattle.keyed.specs.declared.Keyed.{Keyed}
use Rattle.keyed.specs.State.{blank, sound, Shaped}
use Rattle.keyed.specs.Steps.{started, added, tag_of, keyed_of}
use Rattle.keyed.specs.AtOnce.{length_tests}
use Rattle.keyed.proofs.Adding.{started-sound, added-append, added_none, added-sound, length-tag_of}
use Rattle.keyed.proofs.Judging.{lengths-passed, check-first}
use Rattle.keyed.specs.contracts.state.start as start
use Rattle.keyed.proofs.state.start.Reads as start-reads
use Rattle.keyed.specs.contracts.add.add as add
use Rattle.keyed.proofs.add.add.Reads as add_reads
use Rattle.keyed.specs.contracts.end.tag as tagging
use Rattle.keyed.proofs.end.tag.Reads as tagging-reads
use Rattle.keyed.specs.contracts.end.check as checking
use Rattle.keyed.proofs.end.check.Reads as checking-reads
use Rattle.keyed.specs.contracts.at_once.tag as at_once
use Rattle.keyed.proofs.at_once.tag.Reads as at-once-reads
use Rattle.keyed.specs.contracts.at_once.check as at-once-check
use Rattle.keyed.proofs.at_once.check.Reads as at-once-check-reads
use Rattle.keying.specs.ByValue.{Taken, started-by, added-by, kept_by}
use Rattle.keying.proofs.Passing.{StartPasses, start-passed, AddPasses, add-passed, add-passes, add-answers}
use Rattle.keying.proofs.Passing.{tag-answers, check-answers, same-passes, passes-both, passes-first, passes-second}
use Rattle.keying.proofs.Leading.{Leads, leads-start, leads-same, leads-add, leads-sound, leads-edition, leads-tag, room-left}
use Rattle.keying.proofs.Leading.{leads-lengths, leads-tagged, once-tagged}

-- ---- at once

module _ (m : Made at_once.ended at-once-reads.Learnt) where
  abbrev whole-tag : List ℕ
  whole-tag = hmac m.args.0 m.args.1.0.now m.args.1.1.0.now

  abbrev room : List ℕ
  room = m.args.1.1.1.0.now

  -- refused, it leaves the output
  pub at-once-kept : 0 < number_of m.result → (exit m).1.1.1.0.now ≡ room
  at-once-kept r = refused-leaves m.learnt r

  pub hmac-at-once : m.result ≡ Ok tt → (exit m).1.1.1.0.now ≡ at_front whole-tag room
  hmac-at-once d = done-leaves {r = m.result} m.learnt d

-- where the edition and the lengths pass, the tag decides
pub hmac-compared : (m : Made at-once-check.ended at-once-check-reads.Learnt) →
    let e = m.args.0 in
    let key = m.args.1.0.now in
    let text = m.args.1.1.0.now in
    first (length_tests e (length key) (length text)) ≡ 0 →
    number_of m.result ≡ cond (same m.args.1.1.1.0.now (hmac e key text)) 0 14
hmac-compared m none = m.learnt ∙ check-first _ _ _ _ (lengths-passed _ _ _ none) _ refl

-- ---- the calls in pieces

abbrev Start : Type 0
Start = Made start.ended start-reads.Learnt

abbrev Add : Type 0
Add = Made add.ended add_reads.Learnt

-- the keyed hash and the piece of an add
abbrev before : Add → Keyed
before m = m.args.0

abbrev piece : Add → List ℕ
piece m = m.args.1.0.now

abbrev Done : Add → Type 0
Done m = number_of m.result ≡ 0

shape : (m : Add) → Shaped (before m)
shape m = m.learnt.1.0

bytes : (m : Add) → Bytes (piece m)
bytes m = m.learnt.1.1

passes : (m : Add) → Done m → AddPasses (before m) (piece m)
passes m d = add-passed (before m) (piece m) (zero-first m.learnt.0 d)

-- what is left of the keyed hash: what the add hands out, and the same where it refuses
abbrev left : Add → Keyed
left m = handed (before m) m.result

leaves : (m : Add) → Done m → left m ≡ added (before m) (piece m)
leaves m d = zero-leaves m.learnt.0 d

hands-out : (m : Add) → Done m → m.result ≡ Ok (left m)
hands-out m d = go m.result d
  where
    go : (r : Result Keyed Refusal) → number_of r ≡ 0 → r ≡ Ok (handed (before m) r)
    go (Ok k) d = refl
    go (Err e) d = absurd (rw d at (refusing-number e))

done-by : (m : Add) {k : Keyed} {p : List ℕ} → before m ≡ k → piece m ≡ p → AddPasses k p → Done m
done-by m on is h = m.learnt.0.answer ∙ add-passes (before m) (piece m) (same-passes on is h)

-- ---- a refused call changes nothing

-- a refused start hands out nothing, for which zeros stand, which no call takes
pub start-kept : (m : Start) → 0 < number_of m.result → handed blank m.result ≡ blank
start-kept m r = refused-leaves m.learnt.0 r

pub keyed-kept : (m : Add) → 0 < number_of m.result → left m ≡ before m
keyed-kept m r = refused-leaves m.learnt.0 r

pub tag-kept : (m : Made tagging.ended tagging-reads.Learnt) → 0 < number_of m.result → (exit m).1.0.now ≡ m.args.1.0.now
tag-kept m r = refused-leaves m.learnt.0 r

-- ---- sound keyed hashes stay sound, and have a tag

start-pass : (m : Start) {k : Keyed} → m.result ≡ Ok k → StartPasses m.args.0 m.args.1.0.now
start-pass m d = start-passed m.args.0 m.args.1.0.now (done_first {r = m.result} m.learnt.0 d)

start-leaves : (m : Start) {k : Keyed} → m.result ≡ Ok k → k ≡ started m.args.0 m.args.1.0.now
start-leaves m d = sym (ap (handed blank) d) ∙ done-leaves {r = m.result} m.learnt.0 d

pub start-sound : (m : Start) {k : Keyed} → m.result ≡ Ok k → sound k ≡ true
start-sound m d = ap sound (start-leaves m d) ∙ started-sound m.args.0 m.args.1.0.now m.learnt.1 (start-pass m d).ok

pub add-sound : (m : Add) → sound (before m) ≡ true → sound (left m) ≡ true
add-sound m ok = go (number_of m.result) refl
  where
    go : (n : ℕ) → number_of m.result ≡ n → sound (left m) ≡ true
    go zero e =
        let p = add-passed (before m) (piece m) (zero-first m.learnt.0 e) in
        ap sound (zero-leaves m.learnt.0 e) ∙ added-sound (before m) (shape m) (piece m) (bytes m) p.within ok
    go (suc n) e = ap sound (keyed-kept m (omega arith)) ∙ ok

-- of a sound keyed hash, whatever its outer words are: it is answered wherever it finds room, and is as long as a digest
pub tag-defined : (m : Made tagging.ended tagging-reads.Learnt) → sound m.args.0 ≡ true →
    digest_bytes m.args.0.inner.edition ≤ length m.args.1.0.now →
    (m.result ≡ Ok tt) × (length (tag_of m.args.0) ≡ digest_bytes m.args.0.inner.edition)
tag-defined m ok enough = (
  number-injective m.result (Ok tt)
      (m.learnt.0.answer ∙ tag-answers m.args.0 m.args.1.0.now ok
      ∙ rw (le-ltb (length m.args.1.0.now) (digest_bytes m.args.0.inner.edition) enough)),
  length-tag_of m.args.0 m.learnt.1,
)

-- ---- no bytes

-- done or refused, no bytes change nothing
pub hmac-nothing : (m : Add) → piece m ≡ [] → left m ≡ before m
hmac-nothing m none = go (number_of m.result) refl
  where
    go : (n : ℕ) → number_of m.result ≡ n → left m ≡ before m
    go zero e =
        let k = before m in
        zero-leaves m.learnt.0 e
        ∙ ap (added k) none
        ∙ added_none k (shape m) (add-passed k (piece m) (zero-first m.learnt.0 e)).ok
    go (suc n) e = keyed-kept m (omega arith)

-- ---- a piece, and then another

-- two adds, the second on what the first left, and one add of both pieces
pub record Appends (a b both : Add) : Type 0 where
  pub joined : Done a → Done b → Done both
  pub first : Done both → Done a
  pub second : Done both → Done b
  pub same : Done a → Done b → both.result ≡ b.result

module _ (a b both : Add) (on_a : before b ≡ left a) (alike : before both ≡ before a)
    (joined : piece both ≡ piece a ++ piece b) where
  abbrev k : Keyed
  k = before a

  abbrev p : List ℕ
  p = piece a

  abbrev q : List ℕ
  q = piece b

  -- the second comes to what the first left
  second-on : Done a → before b ≡ added k p
  second-on d = on_a ∙ leaves a d

  both-pass : Done both → AddPasses k (p ++ q)
  both-pass d = same-passes (sym alike) (sym joined) (passes both d)

  joined-done : Done a → Done b → Done both
  joined-done d e =
      done-by both alike joined
      (passes-both k (shape a) p q (bytes a) (passes a d) (same-passes (sym (second-on d)) refl (passes b e)))

  first_done : Done both → Done a
  first_done d = done-by a refl refl (passes-first k (shape a) p q (bytes a) (both-pass d))

  second-done : Done both → Done b
  second-done d = done-by b (second-on (first_done d)) refl (passes-second k (shape a) p q (bytes a) (both-pass d))

  pub hmac-append : Appends a b both
  hmac-append =
      record {
        joined = joined-done;
        first = first_done;
        second = second-done;
        same =
            λ d e.
            hands-out both (joined-done d e)
            ∙ ap Ok
            (leaves both (joined-done d e)
            ∙ ap₂ added alike joined
            ∙ sym (leaves b e ∙ ap (λ (t : Keyed). added t q) (second-on d) ∙ added-append k (shape a) p q))
            ∙ sym (hands-out b e);
      }

-- ---- from the start

pub leads : {e : ℕ} {key all : List ℕ} {k : Keyed} → Taken e key all k → Leads e key all k
leads (started-by m d) = leads-same (leads-start m.args.0 m.args.1.0.now (start-pass m d) m.learnt.1) (start-leaves m d)
leads (added-by t m on d) =
    let is_done = ap number_of d in
    let l = leads-same (leads t) on in
    leads-same (leads-add l (piece m) (bytes m) (passes m is_done).within) (sym (ap (handed (before m)) d) ∙ leaves m is_done)
leads (kept_by t m on r) = leads-same (leads t) (keyed-kept m r ∙ on)

pub hmac-of : {e : ℕ} {key all : List ℕ} {k : Keyed} → Taken e key all k → k ≡ keyed_of e key all
hmac-of t = (leads t).is

module _ {e : ℕ} {key all : List ℕ} {k : Keyed} (t : Taken e key all k) where
  -- the next piece is refused for the limit alone, with 7
  pub hmac-answers : (m : Add) → before m ≡ k → number_of m.result ≡ cond (too_long e (B e) (length (all ++ piece m))) 7 0
  hmac-answers m on =
      m.learnt.0.answer
      ∙ add-answers (before m) (piece m) (leads-sound (leads-same (leads t) on))
      ∙ ap (λ (b : Bool). cond b 7 0) (room-left (leads-same (leads t) on) (piece m))

  module _ (m : Made tagging.ended tagging-reads.Learnt) (on : m.args.0 ≡ k) where
    -- a tag is refused for a short output alone, with 9
    pub tag-answer : number_of m.result ≡ cond (ltb (length m.args.1.0.now) (digest_bytes e)) 9 0
    tag-answer =
        m.learnt.0.answer
        ∙ tag-answers m.args.0 m.args.1.0.now (leads-sound (leads-same (leads t) on))
        ∙ ap (λ (n : ℕ). cond (ltb (length m.args.1.0.now) (digest_bytes n)) 9 0) (leads-edition (leads-same (leads t) on))

    pub hmac-pieces : m.result ≡ Ok tt → (exit m).1.0.now ≡ at_front (hmac e key all) m.args.1.0.now
    hmac-pieces d =
        done-leaves {r = m.result} m.learnt.0 d
        ∙ ap (λ (tag : List ℕ). at_front tag m.args.1.0.now) (leads-tag (leads-same (leads t) on))

    -- a tag at once of the same answers and leaves the same
    pub pieces-at-once : (w : Made at_once.ended at-once-reads.Learnt) → w.args.0 ≡ e → w.args.1.0.now ≡ key →
        w.args.1.1.0.now ≡ all → w.args.1.1.1.0.now ≡ m.args.1.0.now →
        (m.result ≡ w.result) × ((exit m).1.0.now ≡ (exit w).1.1.1.0.now)
    pieces-at-once w is_e is_key is_all is_out =
        let out = m.args.1.0.now in
        answer-settled m.result w.result
        (leads-tagged e key all out (leads-same (leads t) on) refl m.learnt.0)
        (once-tagged e key all out (leads-lengths (leads t)) is_e is_key is_all is_out w.learnt)

  -- a tag is accepted exactly where it is that of the joined message
  pub pieces-compared : (m : Made checking.ended checking-reads.Learnt) → m.args.0 ≡ k →
      number_of m.result ≡ cond (same m.args.1.0.now (hmac e key all)) 0 14
  pieces-compared m on =
      m.learnt
      ∙ check-answers m.args.0 m.args.1.0.now (leads-sound (leads-same (leads t) on))
      ∙ ap (λ (tag : List ℕ). cond (same m.args.1.0.now tag) 0 14) (leads-tag (leads-same (leads t) on))
