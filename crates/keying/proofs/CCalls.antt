-- Calls on a keyed hash under C names, one by one, over any words: `c-start-kept`, `c-add-kept`, `c-tag-kept`, a refused call changes
-- nothing; `c-tag-keeps`, `c-check-keeps`, an end changes no word; `c-start-sound`, `c-add-sound`, `c-tag-defined`, sound keyed hashes stay
-- sound and have a tag; `c-add-nothing`, no bytes change nothing; `c-hmac-append`, a piece and then another are done exactly where the two
-- in one are, and leave the same words; `c-start-behind`, `c-add-behind`, the words behind a keyed hash are never touched.
use Prim.Native.Nat.{ℕ, zero, suc, ◌<◌, ◌≤◌}
use mathlib.Core.Bool.{true}
use mathlib.Core.List.{List, [], ◌++◌}
use mathlib.Core.Path.{◌≡◌, refl, sym, ap, ap₂, ◌∙◌}
use native.Mathlib.Omega.{arith}
use borrow.Author.Tests.{ltb-false, le-ltb, not-false}
use lib.Dec.{ltb}
use lib.ListN.{length, drop}
use Rattle.contracts.specs.Says.{Made, exit}
use Rattle.answers.specs.Judged.{◌when◌, first}
use Rattle.answers.proofs.Refusals.{zero-first, zero-leaves, refused-leaves}
use Rattle.answers.proofs.Tests.{passed, first-skip}
use Rattle.slices.specs.AtFront.{at_front}
use Rattle.slices.specs.Below.{Bytes}
use Rattle.slices.proofs.Below.{below-append}
use Rattle.slices.proofs.AtFront.{length-at_front, drop-front, front-again}
use Rattle.fips.specs.Editions.{known, digest_bytes}
use Rattle.fips.proofs.Sizes.{known_small}
use Rattle.keyed.specs.declared.Keyed.{Keyed}
use Rattle.keyed.specs.State.{sound, Shaped}
use Rattle.keyed.specs.Steps as step
use Rattle.keyed.specs.Steps.{started, added}
use Rattle.keyed.proofs.Adding.{started-shaped, started-sound, added-shaped, added-sound, added_none, added-append}
use Rattle.keyedwords.specs.Words.{keyed_words, keyed_in, words_of}
use Rattle.keyedwords.specs.Calls.{start_tests, add_tests, tag_tests, check_tests}
use Rattle.keyedwords.proofs.Packing.{length-words_of, packed-holds, holds-shaped, holds-packed}
use Rattle.capi.specs.contracts.dw_keyed_start as start
use Rattle.capi.proofs.dw_keyed_start.Reads as start-reads
use Rattle.capi.specs.contracts.dw_keyed_add as add
use Rattle.capi.proofs.dw_keyed_add.Reads as add_reads
use Rattle.capi.specs.contracts.dw_keyed_tag as tagging
use Rattle.capi.proofs.dw_keyed_tag.Reads as tagging-reads
use Rattle.capi.specs.contracts.dw_keyed_check as checking
use Rattle.capi.proofs.dw_keyed_check.Reads as checking-reads
use Rattle.keying.proofs.Passing.{StartPasses, AddPasses, add-passed, add-passes, tag-answers}
use Rattle.keying.proofs.Passing.{same-passes, passes-both, passes-first, passes-second}

abbrev pub Start : Type 0
Start = Made start.ended start-reads.Learnt

abbrev pub Add : Type 0
Add = Made add.ended add_reads.Learnt

abbrev pub Tag : Type 0
Tag = Made tagging.ended tagging-reads.Learnt

abbrev pub Check : Type 0
Check = Made checking.ended checking-reads.Learnt

-- the words, the edition and the key of a start
abbrev pub over : Start → List ℕ
over m = m.args.0.now

abbrev pub edition : Start → ℕ
edition m = m.args.1.0

abbrev pub key : Start → List ℕ
key m = m.args.1.1.0.now

-- the words that an add is lent, and its piece
abbrev pub before : Add → List ℕ
before m = m.args.0.now

abbrev pub piece : Add → List ℕ
piece m = m.args.1.0.now

bytes : (m : Add) → Bytes (piece m)
bytes m = m.learnt.1.1

-- ---- where the words are enough, the keyed hash's own tests decide

pub add-tests : (ws piece : List ℕ) → keyed_words ≤ length ws → first (add_tests ws piece) ≡ first (step.add_tests (keyed_in ws) piece)
unfolding add_tests
add-tests ws piece enough =
    first-skip (6 when ltb (length ws) keyed_words) (step.add_tests (keyed_in ws) piece) (le-ltb (length ws) keyed_words enough)

pub tag-tests : (ws out : List ℕ) → keyed_words ≤ length ws → first (tag_tests ws out) ≡ first (step.tag_tests (keyed_in ws) out)
unfolding tag_tests
tag-tests ws out enough =
    first-skip (6 when ltb (length ws) keyed_words) (step.tag_tests (keyed_in ws) out) (le-ltb (length ws) keyed_words enough)

pub check-tests : (ws tag : List ℕ) → keyed_words ≤ length ws → first (check_tests ws tag) ≡ first (step.check_tests (keyed_in ws) tag)
unfolding check_tests
check-tests ws tag enough =
    first-skip (6 when ltb (length ws) keyed_words) (step.check_tests (keyed_in ws) tag) (le-ltb (length ws) keyed_words enough)

-- ---- calls that are done

-- a keyed hash at the front of words: they are enough, as before, and hold it
pub record Puts (k : Keyed) (ws left : List ℕ) : Type 0 where
  pub enough : keyed_words ≤ length ws
  pub is : left ≡ at_front (words_of k) ws
  pub long : length left ≡ length ws
  pub holds : keyed_in left ≡ k

puts : (k : Keyed) (ws left : List ℕ) → keyed_words ≤ length ws → left ≡ at_front (words_of k) ws → Shaped k → Puts k ws left
puts k ws left enough is shape =
    record {
      enough = enough;
      is = is;
      long = ap length is ∙ length-at_front (words_of k) ws;
      holds = ap keyed_in is ∙ packed-holds k ws enough shape;
    }

pub record StartDone (m : Start) : Type 0 where
  pub passes : StartPasses (edition m) (key m)
  pub left : Puts (started (edition m) (key m)) (over m) (exit m).0.now

pub start-done : (m : Start) → m.result ≡ 0 → StartDone m
unfolding start_tests step.start_tests
start-done m z =
    let ws = over m in
    let e = edition m in
    let none = zero-first m.learnt.0 z in
    let at = passed (start_tests ws e (key m)) tt none in
    let pass : StartPasses e (key m) = record { ok = not-false (known e) (at 0); within = at 1 } in
    record {
      passes = pass;
      left =
          puts (started e (key m)) ws (exit m).0.now (ltb-false (length ws) keyed_words (at 2)) (zero-leaves m.learnt.0 z)
          (started-shaped e (key m) m.learnt.1.1 (omega (arith, known_small e pass.ok)));
    }

-- what words hold is shaped
pub held-shaped : (m : Add) → keyed_words ≤ length (before m) → Shaped (keyed_in (before m))
held-shaped m enough = holds-shaped (before m) enough m.learnt.1.0

pub record AddDone (m : Add) : Type 0 where
  pub passes : AddPasses (keyed_in (before m)) (piece m)
  pub left : Puts (added (keyed_in (before m)) (piece m)) (before m) (exit m).0.now

pub add_done : (m : Add) → m.result ≡ 0 → AddDone m
unfolding add_tests step.add_tests
add_done m z =
    let ws = before m in
    let k = keyed_in ws in
    let none = zero-first m.learnt.0 z in
    let enough = ltb-false (length ws) keyed_words (passed (add_tests ws (piece m)) tt none 0) in
    let pass = add-passed k (piece m) (sym (add-tests ws (piece m) enough) ∙ none) in
    record {
      passes = pass;
      left =
          puts (added k (piece m)) ws (exit m).0.now enough (zero-leaves m.learnt.0 z)
          (added-shaped k (held-shaped m enough) (piece m) (bytes m) pass.within);
    }

done-by : (m : Add) {k : Keyed} {p : List ℕ} → keyed_words ≤ length (before m) → keyed_in (before m) ≡ k → piece m ≡ p → AddPasses k p →
    m.result ≡ 0
done-by m enough on is h =
    m.learnt.0.answer
    ∙ add-tests (before m) (piece m) enough
    ∙ add-passes (keyed_in (before m)) (piece m) (same-passes on is h)

-- ---- a refused call changes nothing

pub c-start-kept : (m : Start) → 0 < m.result → (exit m).0.now ≡ over m
c-start-kept m r = refused-leaves m.learnt.0 r

pub c-add-kept : (m : Add) → 0 < m.result → (exit m).0.now ≡ before m
c-add-kept m r = refused-leaves m.learnt.0 r

pub c-tag-kept : (m : Tag) → 0 < m.result → (exit m).1.0.now ≡ m.args.1.0.now
c-tag-kept m r = refused-leaves m.learnt r

-- ---- an end keeps the words, done or refused

pub c-tag-keeps : (m : Tag) → (exit m).0.now ≡ m.args.0.now
c-tag-keeps m = refl

pub c-check-keeps : (m : Check) → (exit m).0.now ≡ m.args.0.now
c-check-keeps m = refl

-- ---- sound keyed hashes stay sound, and have a tag

pub c-start-sound : (m : Start) → m.result ≡ 0 → sound (keyed_in (exit m).0.now) ≡ true
c-start-sound m z =
    let d = start-done m z in
    ap sound d.left.holds ∙ started-sound (edition m) (key m) m.learnt.1.1 d.passes.ok

pub c-add-sound : (m : Add) → sound (keyed_in (before m)) ≡ true → sound (keyed_in (exit m).0.now) ≡ true
c-add-sound m ok = go m.result refl
  where
    go : (n : ℕ) → m.result ≡ n → sound (keyed_in (exit m).0.now) ≡ true
    go zero z =
        let d = add_done m z in
        ap sound d.left.holds
        ∙ added-sound (keyed_in (before m)) (held-shaped m d.left.enough) (piece m) (bytes m) d.passes.within ok
    go (suc n) z = ap (λ (l : List ℕ). sound (keyed_in l)) (c-add-kept m (omega arith)) ∙ ok

-- whatever its outer words are
pub c-tag-defined : (m : Tag) → keyed_words ≤ length m.args.0.now → sound (keyed_in m.args.0.now) ≡ true →
    digest_bytes (keyed_in m.args.0.now).inner.edition ≤ length m.args.1.0.now → m.result ≡ 0
c-tag-defined m enough ok room =
    let ws = m.args.0.now in
    let out = m.args.1.0.now in
    m.learnt.answer
    ∙ tag-tests ws out enough
    ∙ tag-answers (keyed_in ws) out ok
    ∙ rw (le-ltb (length out) (digest_bytes (keyed_in ws).inner.edition) room)

-- ---- no bytes

-- done or refused, no word changes
pub c-add-nothing : (m : Add) → piece m ≡ [] → (exit m).0.now ≡ before m
c-add-nothing m none = go m.result refl
  where
    go : (n : ℕ) → m.result ≡ n → (exit m).0.now ≡ before m
    go zero z =
        let d = add_done m z in
        let ws = before m in
        let enough = d.left.enough in
        d.left.is
        ∙ ap (λ (l : List ℕ). at_front (words_of (added (keyed_in ws) l)) ws) none
        ∙ ap (λ (k : Keyed). at_front (words_of k) ws) (added_none (keyed_in ws) (held-shaped m enough) d.passes.ok)
        ∙ holds-packed ws enough m.learnt.1.0
    go (suc n) z = c-add-kept m (omega arith)

-- ---- the words behind

-- those of a keyed hash that is done are as many as it has
long-words : (k : Keyed) → Shaped k → length (words_of k) ≡ keyed_words
long-words k shape = length-words_of k shape.inner.eight shape.eight

puts-behind : {k : Keyed} {ws left : List ℕ} → Shaped k → Puts k ws left → drop keyed_words left ≡ drop keyed_words ws
puts-behind {k} {ws} shape p = ap (drop keyed_words) p.is ∙ drop-front (words_of k) ws keyed_words (long-words k shape)

-- whatever the words held, and whatever is answered
pub c-start-behind : (m : Start) → drop keyed_words (exit m).0.now ≡ drop keyed_words (over m)
c-start-behind m = go m.result refl
  where
    go : (n : ℕ) → m.result ≡ n → drop keyed_words (exit m).0.now ≡ drop keyed_words (over m)
    go zero z =
        let d = start-done m z in
        let small = known_small (edition m) d.passes.ok in
        puts-behind (started-shaped (edition m) (key m) m.learnt.1.1 (omega (arith, small))) d.left
    go (suc n) z = ap (drop keyed_words) (c-start-kept m (omega arith))

pub c-add-behind : (m : Add) → drop keyed_words (exit m).0.now ≡ drop keyed_words (before m)
c-add-behind m = go m.result refl
  where
    go : (n : ℕ) → m.result ≡ n → drop keyed_words (exit m).0.now ≡ drop keyed_words (before m)
    go zero z =
        let d = add_done m z in
        let k = keyed_in (before m) in
        puts-behind (added-shaped k (held-shaped m d.left.enough) (piece m) (bytes m) d.passes.within) d.left
    go (suc n) z = ap (drop keyed_words) (c-add-kept m (omega arith))

-- ---- a piece, and then another

-- two adds, the second on the words that the first left, and one add of both pieces
pub record CAppends (a b both : Add) : Type 0 where
  pub joined : a.result ≡ 0 → b.result ≡ 0 → both.result ≡ 0
  pub first : both.result ≡ 0 → a.result ≡ 0
  pub second : both.result ≡ 0 → b.result ≡ 0
  pub same : a.result ≡ 0 → b.result ≡ 0 → (exit both).0.now ≡ (exit b).0.now

module _ (a b both : Add) (on_a : before b ≡ (exit a).0.now) (alike : before both ≡ before a)
    (joined : piece both ≡ piece a ++ piece b) where
  abbrev k : Keyed
  k = keyed_in (before a)

  abbrev p : List ℕ
  p = piece a

  abbrev q : List ℕ
  q = piece b

  both-pass : both.result ≡ 0 → AddPasses k (p ++ q)
  both-pass d = same-passes (ap keyed_in (sym alike)) (sym joined) (add_done both d).passes

  -- the words of the one are those of the other, as far as there are enough
  both-enough : both.result ≡ 0 → keyed_words ≤ length (before a)
  both-enough d = omega (arith, ap length alike, (add_done both d).left.enough)

  second-on : a.result ≡ 0 → keyed_in (before b) ≡ added k p
  second-on d = ap keyed_in on_a ∙ (add_done a d).left.holds

  joined-done : a.result ≡ 0 → b.result ≡ 0 → both.result ≡ 0
  joined-done d e =
      let da = add_done a d in
      done-by both (omega (arith, ap length alike, da.left.enough)) (ap keyed_in alike) joined
      (passes-both k (held-shaped a da.left.enough) p q (bytes a) da.passes
      (same-passes (sym (second-on d)) refl (add_done b e).passes))

  first_done : both.result ≡ 0 → a.result ≡ 0
  first_done d =
      let enough = both-enough d in
      done-by a enough refl refl (passes-first k (held-shaped a enough) p q (bytes a) (both-pass d))

  second-done : both.result ≡ 0 → b.result ≡ 0
  second-done d =
      let da = (add_done a (first_done d)).left in
      done-by b (omega (arith, ap length on_a, da.long, da.enough)) (second-on (first_done d)) refl
      (passes-second k (held-shaped a da.enough) p q (bytes a) (both-pass d))

  left-same : a.result ≡ 0 → b.result ≡ 0 → (exit both).0.now ≡ (exit b).0.now
  left-same d e =
      let da = add_done a d in
      let shape = held-shaped a da.left.enough in
      let both-shape = added-shaped k shape (p ++ q) (below-append p q (bytes a) (bytes b)) (both-pass (joined-done d e)).within in
      (add_done both (joined-done d e)).left.is
      ∙ ap₂ (λ (l r : List ℕ). at_front (words_of (added (keyed_in l) r)) l) alike joined
      ∙ sym
      ((add_done b e).left.is
      ∙ ap₂ (λ (h : Keyed) (l : List ℕ). at_front (words_of (added h q)) l) (second-on d) (on_a ∙ da.left.is)
      ∙ ap (λ (h : Keyed). at_front (words_of h) (at_front (words_of (added k p)) (before a))) (added-append k shape p q)
      ∙ front-again (words_of (added k (p ++ q))) (words_of (added k p)) (before a)
      (long-words (added k p) (added-shaped k shape p (bytes a) da.passes.within) ∙ sym (long-words (added k (p ++ q)) both-shape)))

  pub c-hmac-append : CAppends a b both
  c-hmac-append = record { joined = joined-done; first = first_done; second = second-done; same = left-same }
