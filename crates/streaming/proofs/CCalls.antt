-- Calls on a stream under C names, one by one, over any words: `c-begin-kept`, `c-add-kept`, `c-root-kept`, a refused call changes nothing;
-- `c-begin-sound`, `c-add-sound`, `c-root-defined`, sound streams stay sound and have a root; `c-add-nothing`, no bytes change nothing;
-- `c-stream-append`, a piece and then another are done exactly where the two in one are, and leave the same words; `c-begin-behind`,
-- `c-add-behind`, the words behind a stream are never touched.
use Prim.Native.Nat.{ℕ, zero, suc, ◌<◌, ◌≤◌}
use mathlib.Core.Bool.{true}
use mathlib.Core.List.{List, [], ◌++◌}
use mathlib.Core.Path.{◌≡◌, refl, sym, ap, ap₂, ◌∙◌}
use native.Mathlib.Omega.{arith}
use borrow.Author.Tests.{ltb-false, le-ltb}
use lib.Dec.{ltb}
use lib.ListN.{length, drop}
use Rattle.contracts.specs.Says.{Made, exit}
use Rattle.answers.specs.Judged.{◌when◌, first, after}
use Rattle.answers.proofs.Refusals.{zero-first, zero-leaves, refused-leaves}
use Rattle.answers.proofs.Tests.{passed, first-skip}
use Rattle.slices.specs.AtFront.{at_front}
use Rattle.slices.proofs.AtFront.{length-at_front, drop-front, front-again}
use Rattle.treerule.specs.Root.{node_bytes}
use Rattle.stream.specs.declared.Stream.{Stream}
use Rattle.stream.specs.State.{begun, sound}
use Rattle.stream.specs.Steps as step
use Rattle.stream.specs.Steps.{added, stream_root}
use Rattle.stream.proofs.Appending.{begun-sound, added-sound, added_none, added-append, root-length}
use Rattle.streamwords.specs.Words.{stream_words, stream_in, words_of}
use Rattle.streamwords.specs.Calls.{begin_tests, add_tests, root_tests}
use Rattle.streamwords.proofs.Packing.{length-words_of, holds-shaped, holds-packed}
use Rattle.capi.specs.contracts.dw_stream_begin as begin
use Rattle.capi.proofs.dw_stream_begin.Reads as begin-reads
use Rattle.capi.specs.contracts.dw_stream_add as add
use Rattle.capi.proofs.dw_stream_add.Reads as add_reads
use Rattle.capi.specs.contracts.dw_stream_root as rooting
use Rattle.capi.proofs.dw_stream_root.Reads as rooting-reads
use Rattle.streaming.proofs.Passing.{AddPasses, add-passed, add-passes, root-passes}
use Rattle.streaming.proofs.Passing.{same-passes, passes-both, passes-first, passes-second}
use Rattle.streaming.proofs.Packed.{begun-packed, added-packed}

abbrev pub Begin : Type 0
Begin = Made begin.ended begin-reads.Learnt

abbrev pub Add : Type 0
Add = Made add.ended add_reads.Learnt

abbrev pub Root : Type 0
Root = Made rooting.ended rooting-reads.Learnt

-- the words that an add is lent, and its piece
abbrev pub before : Add → List ℕ
before m = m.args.0.now

abbrev pub piece : Add → List ℕ
piece m = m.args.1.0.now

-- ---- calls that are done

-- where the words are enough, the stream's own tests decide
pub add-tests : (ws piece : List ℕ) → stream_words ≤ length ws → first (add_tests ws piece) ≡ first (step.add_tests (stream_in ws) piece)
unfolding add_tests
add-tests ws piece enough =
    first-skip (6 when ltb (length ws) stream_words) (step.add_tests (stream_in ws) piece) (le-ltb (length ws) stream_words enough)

pub root-tests : (ws out : List ℕ) → stream_words ≤ length ws → first (root_tests ws out) ≡ first (step.root_tests (stream_in ws) out)
unfolding root_tests
root-tests ws out enough =
    first-skip (6 when ltb (length ws) stream_words) (step.root_tests (stream_in ws) out) (le-ltb (length ws) stream_words enough)

-- a stream at the front of words: they are enough, as before, and hold it
pub record Puts (s : Stream) (ws left : List ℕ) : Type 0 where
  pub enough : stream_words ≤ length ws
  pub is : left ≡ at_front (words_of s) ws
  pub long : length left ≡ length ws
  pub holds : stream_in left ≡ s

puts : (s : Stream) (ws left : List ℕ) → stream_words ≤ length ws → left ≡ at_front (words_of s) ws → stream_in (at_front (words_of s) ws) ≡
    s →
    Puts s ws left
puts s ws left enough is there =
    record { enough = enough; is = is; long = ap length is ∙ length-at_front (words_of s) ws; holds = ap stream_in is ∙ there }

pub begin-done : (m : Begin) → m.result ≡ 0 → Puts begun m.args.0.now (exit m).0.now
unfolding begin_tests
begin-done m e =
    let ws = m.args.0.now in
    let enough = ltb-false (length ws) stream_words (passed (begin_tests ws) tt (zero-first m.learnt e) 0) in
    puts begun ws (exit m).0.now enough (zero-leaves m.learnt e) (begun-packed ws enough)

pub record AddDone (m : Add) : Type 0 where
  pub passes : AddPasses (stream_in (before m)) (piece m)
  pub left : Puts (added (stream_in (before m)) (piece m)) (before m) (exit m).0.now

pub add_done : (m : Add) → m.result ≡ 0 → AddDone m
unfolding add_tests step.add_tests
add_done m e =
    let ws = before m in
    let s = stream_in ws in
    let none = zero-first m.learnt.0 e in
    let enough = ltb-false (length ws) stream_words (passed (add_tests ws (piece m)) tt none 0) in
    let pass = add-passed s (piece m) (sym (add-tests ws (piece m) enough) ∙ none) in
    record {
      passes = pass;
      left =
          puts (added s (piece m)) ws (exit m).0.now enough (zero-leaves m.learnt.0 e)
          (added-packed ws enough (piece m) pass.ok m.learnt.1.1);
    }

done-by : (m : Add) {s : Stream} {p : List ℕ} → stream_words ≤ length (before m) → stream_in (before m) ≡ s → piece m ≡ p → AddPasses s p →
    m.result ≡ 0
done-by m enough on is h =
    m.learnt.0.answer
    ∙ add-tests (before m) (piece m) enough
    ∙ add-passes (stream_in (before m)) (piece m) (same-passes on is h)

pub root-done : (m : Root) → m.result ≡ 0 → (exit m).1.0.now ≡ at_front (stream_root (stream_in m.args.0.now)) m.args.1.0.now
root-done m e = zero-leaves m.learnt e

-- ---- a refused call changes nothing

pub c-begin-kept : (m : Begin) → 0 < m.result → (exit m).0.now ≡ m.args.0.now
c-begin-kept m r = refused-leaves m.learnt r

pub c-add-kept : (m : Add) → 0 < m.result → (exit m).0.now ≡ before m
c-add-kept m r = refused-leaves m.learnt.0 r

pub c-root-kept : (m : Root) → 0 < m.result → (exit m).1.0.now ≡ m.args.1.0.now
c-root-kept m r = refused-leaves m.learnt r

-- ---- sound streams stay sound, and have a root

pub c-begin-sound : (m : Begin) → m.result ≡ 0 → sound (stream_in (exit m).0.now) ≡ true
c-begin-sound m e = ap sound (begin-done m e).holds ∙ begun-sound

pub c-add-sound : (m : Add) → sound (stream_in (before m)) ≡ true → sound (stream_in (exit m).0.now) ≡ true
c-add-sound m ok = go m.result refl
  where
    go : (n : ℕ) → m.result ≡ n → sound (stream_in (exit m).0.now) ≡ true
    go zero e =
        let d = add_done m e in
        ap sound d.left.holds
        ∙ added-sound (stream_in (before m)) (holds-shaped (before m) d.left.enough) ok (piece m) d.passes.within
    go (suc n) e = ap (λ (l : List ℕ). sound (stream_in l)) (c-add-kept m (omega arith)) ∙ ok

-- whatever its roots are
pub c-root-defined : (m : Root) → stream_words ≤ length m.args.0.now → sound (stream_in m.args.0.now) ≡ true →
    node_bytes ≤ length m.args.1.0.now → (m.result ≡ 0) × (length (stream_root (stream_in m.args.0.now)) ≡ node_bytes)
c-root-defined m enough ok room =
    let ws = m.args.0.now in
    let out = m.args.1.0.now in (
      m.learnt.answer ∙ root-tests ws out enough ∙ root-passes (stream_in ws) out ok room,
      root-length (stream_in ws) (holds-shaped ws enough) ok,
    )

-- ---- no bytes

-- done or refused, no word changes
pub c-add-nothing : (m : Add) → piece m ≡ [] → (exit m).0.now ≡ before m
c-add-nothing m none = go m.result refl
  where
    go : (n : ℕ) → m.result ≡ n → (exit m).0.now ≡ before m
    go zero e =
        let d = add_done m e in
        let ws = before m in
        let enough = d.left.enough in
        d.left.is
        ∙ ap (λ (l : List ℕ). at_front (words_of (added (stream_in ws) l)) ws) none
        ∙ ap (λ (s : Stream). at_front (words_of s) ws) (added_none (stream_in ws) (holds-shaped ws enough) d.passes.ok)
        ∙ holds-packed ws enough m.learnt.1.0
    go (suc n) e = c-add-kept m (omega arith)

-- ---- the words behind

left_behind : (n : ℕ) (s : Stream) (ws : List ℕ) → drop stream_words (after n ws (at_front (words_of s) ws)) ≡ drop stream_words ws
left_behind zero s ws = drop-front (words_of s) ws stream_words (length-words_of s)
left_behind (suc n) s ws = refl

-- whatever the words held, and whatever is answered
pub c-begin-behind : (m : Begin) → drop stream_words (exit m).0.now ≡ drop stream_words m.args.0.now
c-begin-behind m = ap (drop stream_words) m.learnt.leaves ∙ left_behind (first (begin_tests m.args.0.now)) begun m.args.0.now

pub c-add-behind : (m : Add) → drop stream_words (exit m).0.now ≡ drop stream_words (before m)
c-add-behind m =
    let ws = before m in
    ap (drop stream_words) m.learnt.0.leaves ∙ left_behind (first (add_tests ws (piece m))) (added (stream_in ws) (piece m)) ws

-- ---- a piece, and then another

-- two adds, the second on the words that the first left, and one add of both pieces
pub record CAppends (a b both : Add) : Type 0 where
  pub joined : a.result ≡ 0 → b.result ≡ 0 → both.result ≡ 0
  pub first : both.result ≡ 0 → a.result ≡ 0
  pub second : both.result ≡ 0 → b.result ≡ 0
  pub same : a.result ≡ 0 → b.result ≡ 0 → (exit both).0.now ≡ (exit b).0.now

module _ (a b both : Add) (on_a : before b ≡ (exit a).0.now) (alike : before both ≡ before a)
    (joined : piece both ≡ piece a ++ piece b) where
  abbrev s : Stream
  s = stream_in (before a)

  abbrev p : List ℕ
  p = piece a

  abbrev q : List ℕ
  q = piece b

  both-pass : both.result ≡ 0 → AddPasses s (p ++ q)
  both-pass d = same-passes (ap stream_in (sym alike)) (sym joined) (add_done both d).passes

  -- the words of the one are those of the other, as far as there are enough
  both-enough : both.result ≡ 0 → stream_words ≤ length (before a)
  both-enough d = omega (arith, ap length alike, (add_done both d).left.enough)

  second-on : a.result ≡ 0 → stream_in (before b) ≡ added s p
  second-on d = ap stream_in on_a ∙ (add_done a d).left.holds

  joined-done : a.result ≡ 0 → b.result ≡ 0 → both.result ≡ 0
  joined-done d e =
      let da = add_done a d in
      let shape = holds-shaped (before a) da.left.enough in
      done-by both (omega (arith, ap length alike, da.left.enough)) (ap stream_in alike) joined
      (passes-both s shape p q da.passes (same-passes (sym (second-on d)) refl (add_done b e).passes))

  first_done : both.result ≡ 0 → a.result ≡ 0
  first_done d =
      let enough = both-enough d in
      done-by a enough refl refl (passes-first s (holds-shaped (before a) enough) p q (both-pass d))

  second-done : both.result ≡ 0 → b.result ≡ 0
  second-done d =
      let da = (add_done a (first_done d)).left in
      done-by b (omega (arith, ap length on_a, da.long, da.enough)) (second-on (first_done d)) refl
      (passes-second s (holds-shaped (before a) da.enough) p q (both-pass d))

  left-same : a.result ≡ 0 → b.result ≡ 0 → (exit both).0.now ≡ (exit b).0.now
  left-same d e =
      let da = add_done a d in
      let enough = da.left.enough in
      (add_done both (joined-done d e)).left.is
      ∙ ap₂ (λ (l r : List ℕ). at_front (words_of (added (stream_in l) r)) l) alike joined
      ∙ sym
      ((add_done b e).left.is
      ∙ ap₂ (λ (t : Stream) (l : List ℕ). at_front (words_of (added t q)) l) (second-on d) (on_a ∙ da.left.is)
      ∙ ap (λ (t : Stream). at_front (words_of t) (at_front (words_of (added s p)) (before a)))
      (added-append s (holds-shaped (before a) enough) da.passes.ok p da.passes.within q)
      ∙ front-again (words_of (added s (p ++ q))) (words_of (added s p)) (before a)
      (length-words_of (added s p) ∙ sym (length-words_of (added s (p ++ q)))))

  pub c-stream-append : CAppends a b both
  c-stream-append = record { joined = joined-done; first = first_done; second = second-done; same = left-same }
