-- Streams in lent words from their beginning, as theorems about calls under C names that were made. `c-stream-of`: words that were begun
-- and added to hold `stream_of` of all bytes; `c-stream-answers` and `c-root-answers`: no such call is told that the stream is not sound;
-- `c-stream-root`: the root is that of the chunk tree, and up to 1 MiB what a tree of the whole map writes, `c-stream-tree`.
use Prim.Native.Nat.{ℕ, ◌+◌, ◌≤◌}
use mathlib.Core.Bool.{cond}
use mathlib.Core.List.{List, ◌++◌}
use mathlib.Core.Path.{◌≡◌, sym, ap, ap₂, subst, ◌∙◌}
use native.Mathlib.Omega.{arith}
use borrow.Author.Tests.{le-ltb}
use lib.Dec.{ltb}
use lib.ListN.{length, length-append}
use Rattle.contracts.specs.Says.{Made, exit}
use Rattle.answers.specs.Judged.{first}
use Rattle.answers.proofs.Refusals.{zero-first, zero-leaves}
use Rattle.slices.specs.AtFront.{at_front}
use Rattle.treerule.specs.Root.{node_bytes, Node, root}
use Rattle.tree.specs.Tree.{rooted}
use Rattle.stream.specs.declared.Stream.{Stream}
use Rattle.stream.specs.Steps as step
use Rattle.stream.specs.Steps.{stream_of, stream_limit, added, stream_root, taken}
use Rattle.stream.proofs.Appending.{stream-none, stream-taken, stream-more, stream-sound, stream-top}
use Rattle.streamwords.specs.Words.{stream_words, stream_in}
use Rattle.streamwords.specs.Calls.{add_tests, root_tests}
use Rattle.capi.specs.contracts.dw_tree as tree
use Rattle.capi.proofs.dw_tree.Reads as tree-reads
use Rattle.streaming.specs.InC.{Lent, begun-in, added-in, kept_in}
use Rattle.streaming.proofs.Passing.{add-answers, root-answers, tree-room}
use Rattle.streaming.proofs.CCalls.{Add, Root, before, piece, add-tests, root-tests, begin-done, add_done, root-done}
use Rattle.streaming.proofs.CCalls.{c-add-kept}

-- what was taken keeps the limit, and the words are enough and hold what it leads to
pub record Holds (bytes ws : List ℕ) : Type 0 where
  pub within : length bytes ≤ stream_limit
  pub enough : stream_words ≤ length ws
  pub is : stream_in ws ≡ stream_of bytes

added-holds : (bytes : List ℕ) (m : Add) → Holds bytes (before m) → m.result ≡ 0 → Holds (bytes ++ piece m) (exit m).0.now
added-holds bytes m h e =
    let d = add_done m e in
    let counted : taken (stream_in (before m)) ≡ length bytes = ap taken h.is ∙ stream-taken bytes h.within in
    record {
      within = omega (arith, length-append bytes (piece m), d.passes.within);
      enough = omega (arith, d.left.long, d.left.enough);
      is = d.left.holds ∙ ap (λ (s : Stream). added s (piece m)) h.is ∙ stream-more bytes h.within (piece m);
    }

pub holds : {bytes ws : List ℕ} → Lent bytes ws → Holds bytes ws
holds (begun-in m e) =
    let d = begin-done m e in
    record { within = omega arith; enough = omega (arith, d.long, d.enough); is = d.holds ∙ sym stream-none }
holds (added-in {bytes} {ws} t m on e) = added-holds bytes m (subst (λ (l : List ℕ). Holds bytes l) (sym on) (holds t)) e
holds (kept_in {bytes} {ws} t m on r) = subst (λ (l : List ℕ). Holds bytes l) (sym (c-add-kept m r ∙ on)) (holds t)

pub c-stream-of : {bytes ws : List ℕ} → Lent bytes ws → stream_in ws ≡ stream_of bytes
c-stream-of t = (holds t).is

-- ---- what the calls answer

-- on words that hold a stream, the stream's own tests decide
pub on-stream : (bytes ws piece : List ℕ) → Holds bytes ws → first (add_tests ws piece) ≡ first (step.add_tests (stream_of bytes) piece)
on-stream bytes ws piece h = add-tests ws piece h.enough ∙ ap (λ (s : Stream). first (step.add_tests s piece)) h.is

module _ {bytes ws : List ℕ} (t : Lent bytes ws) where
  -- a piece is refused for the limit alone, with 7
  pub c-stream-answers : (m : Add) → before m ≡ ws → m.result ≡ cond (ltb stream_limit (length bytes + length (piece m))) 7 0
  c-stream-answers m on =
      let h = holds t in
      m.learnt.0.answer
      ∙ ap (λ (l : List ℕ). first (add_tests l (piece m))) on
      ∙ on-stream bytes ws (piece m) h
      ∙ add-answers (stream_of bytes) (piece m) (stream-sound bytes h.within)
      ∙ ap (λ (n : ℕ). cond (ltb stream_limit (n + length (piece m))) 7 0) (stream-taken bytes h.within)

  -- a root for the output alone, with 9
  pub c-root-answers : (m : Root) → m.args.0.now ≡ ws → m.result ≡ cond (ltb (length m.args.1.0.now) node_bytes) 9 0
  c-root-answers m on =
      let h = holds t in
      let out = m.args.1.0.now in
      m.learnt.answer
      ∙ ap (λ (l : List ℕ). first (root_tests l out)) on
      ∙ root-tests ws out h.enough
      ∙ ap (λ (s : Stream). first (step.root_tests s out)) h.is
      ∙ root-answers (stream_of bytes) out (stream-sound bytes h.within)

  pub c-stream-root : (m : Root) → m.args.0.now ≡ ws → m.result ≡ 0 → (exit m).1.0.now ≡ at_front (root bytes) m.args.1.0.now
  c-stream-root m on e =
      let h = holds t in
      root-done m e
      ∙ ap (λ (n : Node). at_front n m.args.1.0.now) (ap stream_root (ap stream_in on ∙ h.is) ∙ stream-top bytes h.within)

  -- a tree of the whole map that is done answers and writes the same
  pub c-stream-tree : (m : Root) → m.args.0.now ≡ ws → (w : Made tree.ended tree-reads.Learnt) → w.args.0.now ≡ bytes →
      w.args.1.0.now ≡ m.args.1.0.now → w.result ≡ 0 →
      (m.result ≡ 0) × ((exit m).1.0.now ≡ (exit w).1.0.now)
  unfolding rooted
  c-stream-tree m on w same room e =
      let out = m.args.1.0.now in
      let enough = tree-room w.args.0.now w.args.1.0.now (zero-first w.learnt e) in
      let done : m.result ≡ 0 = c-root-answers m on ∙ rw (le-ltb (length out) node_bytes (omega (arith, ap length room, enough))) in (
        done,
        c-stream-root m on done ∙ ap₂ (λ (b o : List ℕ). at_front (root b) o) (sym same) (sym room) ∙ sym (zero-leaves w.learnt e),
      )
