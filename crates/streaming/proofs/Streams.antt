-- Streams by value, as theorems about calls that were made, each of which holds by the function's own contract. `stream-append`: a piece
-- and then another are done exactly where the two in one are, and leave the same; `stream-nothing`: no bytes change nothing. `stream-of`:
-- pieces from the beginning lead to `stream_of` of all bytes; `stream-answers`: none is refused but for the limit. `stream-root`: the root
-- of the stream is that of the chunk tree, and up to 1 MiB what a tree of the whole map writes, `stream-tree`. `begin-sound`, `add-sound`,
-- `root-defined`: sound streams stay sound, and have a root whatever their roots are. `stream-kept`, `output-kept`: a refused call changes
-- nothing.
use Prim.Native.Nat.{ℕ, zero, suc, ◌+◌, ◌<◌, ◌≤◌}
use mathlib.Core.Bool.{true, cond, false≢true}
use mathlib.Core.List.{List, [], ◌++◌}
use mathlib.Core.Path.{◌≡◌, refl, sym, ap, ap₂, ◌∙◌}
use native.Mathlib.Omega.{arith}
use lib.Dec.{ltb}
use lib.ListN.{length, length-append}
use Rattle.contracts.specs.Says.{Made, exit}
use Rattle.std.specs.Prelude.{Result, Ok, Err, IsOk, is_ok}
use Rattle.answers.specs.declared.Refusal.{Refusal}
use Rattle.answers.specs.Judged.{handed}
use Rattle.answers.specs.Numbers.{number_of}
use Rattle.answers.proofs.Outcome.{number-injective, refusing-number}
use Rattle.answers.proofs.Refusals.{zero-first, zero-leaves, done_first, done-leaves, refused-leaves}
use Rattle.slices.specs.AtFront.{at_front}
use Rattle.treerule.specs.Root.{node_bytes, Node, root}
use Rattle.tree.specs.Tree.{rooted}
use Rattle.stream.specs.declared.Stream.{Stream}
use Rattle.stream.specs.State.{sound, Shaped}
use Rattle.stream.specs.Steps.{stream_of, stream_limit, taken, added, stream_root}
use Rattle.stream.proofs.Appending.{added-sound, added_none, added-append, begun-sound, stream-none, stream-taken, stream-more}
use Rattle.stream.proofs.Appending.{stream-sound, stream-top, root-length}
use Rattle.stream.specs.contracts.state.begin as begin
use Rattle.stream.proofs.state.begin.Reads as begin-reads
use Rattle.stream.specs.contracts.add.add as add
use Rattle.stream.proofs.add.add.Reads as add_reads
use Rattle.stream.specs.contracts.root.root as rooting
use Rattle.stream.proofs.root.root.Reads as rooting-reads
use Rattle.tree.specs.contracts.whole.tree as tree
use Rattle.tree.proofs.whole.tree.Reads as tree-reads
use Rattle.streaming.specs.ByValue.{Streamed, begun-by, added-by, kept_by}
use Rattle.streaming.proofs.Passing.{AddPasses, add-passed, add-passes, add-answers, root-passes, tree-room}
use Rattle.streaming.proofs.Passing.{same-passes, passes-both, passes-first, passes-second}

-- a result is done just where its number is 0
ok-number : {A : Type 0} (r : Result A Refusal) → IsOk r → number_of r ≡ 0
ok-number (Ok a) h = refl
ok-number (Err r) h = absurd (false≢true h)

number-ok : {A : Type 0} (r : Result A Refusal) → number_of r ≡ 0 → IsOk r
number-ok (Ok a) e = refl
number-ok (Err r) e = absurd (rw e at (refusing-number r))

abbrev Add : Type 0
Add = Made add.ended add_reads.Learnt

-- the stream and the piece of an add, and the stream that is left: the one handed out, or the old where the piece is refused
abbrev before : Add → Stream
before m = m.args.0

abbrev piece : Add → List ℕ
piece m = m.args.1.0.now

abbrev left : Add → Stream
left m = handed (before m) m.result

abbrev Done : Add → Type 0
Done m = IsOk m.result

shape : (m : Add) → Shaped (before m)
shape m = m.learnt.1

passes : (m : Add) → Done m → AddPasses (before m) (piece m)
passes m d = add-passed (before m) (piece m) (zero-first m.learnt.0 (ok-number m.result d))

leaves : (m : Add) → Done m → left m ≡ added (before m) (piece m)
leaves m d = zero-leaves m.learnt.0 (ok-number m.result d)

done-by : (m : Add) {s : Stream} {p : List ℕ} → before m ≡ s → piece m ≡ p → AddPasses s p → Done m
done-by m on is h =
    number-ok m.result (m.learnt.0.answer ∙ add-passes (before m) (piece m) (same-passes on is h))

-- ---- a refused call changes nothing

pub stream-kept : (m : Add) → 0 < number_of m.result → left m ≡ before m
stream-kept m r = refused-leaves m.learnt.0 r

-- ---- sound streams stay sound

pub begin-sound : (m : Made begin.ended begin-reads.Learnt) → sound m.result ≡ true
begin-sound m = ap sound m.learnt ∙ begun-sound

pub add-sound : (m : Add) → sound (before m) ≡ true → sound (left m) ≡ true
add-sound m ok = go (number_of m.result) refl
  where
    go : (n : ℕ) → number_of m.result ≡ n → sound (left m) ≡ true
    go zero e =
        let p = add-passed (before m) (piece m) (zero-first m.learnt.0 e) in
        ap sound (zero-leaves m.learnt.0 e) ∙ added-sound (before m) (shape m) ok (piece m) p.within
    go (suc n) e = ap sound (stream-kept m (omega arith)) ∙ ok

-- ---- no bytes

-- done or refused, no bytes change nothing
pub stream-nothing : (m : Add) → piece m ≡ [] → left m ≡ before m
stream-nothing m none = go (number_of m.result) refl
  where
    go : (n : ℕ) → number_of m.result ≡ n → left m ≡ before m
    go zero e =
        let s = before m in
        zero-leaves m.learnt.0 e
        ∙ ap (added s) none
        ∙ added_none s (shape m) (add-passed s (piece m) (zero-first m.learnt.0 e)).ok
    go (suc n) e = stream-kept m (omega arith)

-- ---- a piece, and then another

-- two adds, the second on what the first left, and one add of both pieces
pub record Appends (a b both : Add) : Type 0 where
  pub joined : Done a → Done b → Done both
  pub first : Done both → Done a
  pub second : Done both → Done b
  pub same : Done a → Done b → left both ≡ left b

module _ (a b both : Add) (on_a : before b ≡ left a) (alike : before both ≡ before a)
    (joined : piece both ≡ piece a ++ piece b) where
  abbrev s : Stream
  s = before a

  abbrev p : List ℕ
  p = piece a

  abbrev q : List ℕ
  q = piece b

  -- the second comes to what the first left
  second-on : Done a → before b ≡ added s p
  second-on d = on_a ∙ leaves a d

  both-pass : Done both → AddPasses s (p ++ q)
  both-pass d = same-passes (sym alike) (sym joined) (passes both d)

  joined-done : Done a → Done b → Done both
  joined-done d e =
      done-by both alike joined (passes-both s (shape a) p q (passes a d) (same-passes (sym (second-on d)) refl (passes b e)))

  first_done : Done both → Done a
  first_done d = done-by a refl refl (passes-first s (shape a) p q (both-pass d))

  second-done : Done both → Done b
  second-done d = done-by b (second-on (first_done d)) refl (passes-second s (shape a) p q (both-pass d))

  pub stream-append : Appends a b both
  stream-append =
      record {
        joined = joined-done;
        first = first_done;
        second = second-done;
        same =
            λ d e.
            leaves both (joined-done d e)
            ∙ ap₂ added alike joined
            ∙ sym
            (leaves b e
            ∙ ap (λ (t : Stream). added t q) (second-on d)
            ∙ added-append s (shape a) (passes a d).ok p (passes a d).within q);
      }

-- ---- from the beginning

-- what was taken keeps the limit, and leads to the stream
pub record Leads (bytes : List ℕ) (s : Stream) : Type 0 where
  pub within : length bytes ≤ stream_limit
  pub is : s ≡ stream_of bytes

added_of : (bytes : List ℕ) (s : Stream) (m : Add) {t : Stream} → Leads bytes s → before m ≡ s → m.result ≡ Ok t →
    Leads (bytes ++ piece m) t
added_of bytes s m l on e =
    let d : Done m = ap is_ok e in
    let from : before m ≡ stream_of bytes = on ∙ l.is in
    let p = (passes m d).within in
    let counted : taken (before m) ≡ length bytes = ap taken from ∙ stream-taken bytes l.within in
    record {
      within = omega (arith, length-append bytes (piece m));
      is =
          sym (ap (handed (before m)) e)
          ∙ leaves m d
          ∙ ap (λ (u : Stream). added u (piece m)) from
          ∙ stream-more bytes l.within (piece m);
    }

pub leads : {bytes : List ℕ} {s : Stream} → Streamed bytes s → Leads bytes s
leads (begun-by m) = record { within = omega arith; is = m.learnt ∙ sym stream-none }
leads (added-by {bytes} {s} t m on d) = added_of bytes s m (leads t) on d
leads (kept_by {bytes} {s} t m on r) =
    let l = leads t in
    record { within = l.within; is = stream-kept m r ∙ on ∙ l.is }

pub stream-of : {bytes : List ℕ} {s : Stream} → Streamed bytes s → s ≡ stream_of bytes
stream-of t = (leads t).is

streamed-sound : {bytes : List ℕ} {s : Stream} → Streamed bytes s → sound s ≡ true
streamed-sound {bytes} t = ap sound (stream-of t) ∙ stream-sound bytes (leads t).within

-- the next piece is refused for the limit alone, with 7
pub stream-answers : {bytes : List ℕ} {s : Stream} → Streamed bytes s → (m : Add) → before m ≡ s →
    number_of m.result ≡ cond (ltb stream_limit (length bytes + length (piece m))) 7 0
stream-answers {bytes} t m on =
    m.learnt.0.answer
    ∙ add-answers (before m) (piece m) (ap sound on ∙ streamed-sound t)
    ∙ ap (λ (n : ℕ). cond (ltb stream_limit (n + length (piece m))) 7 0)
    (ap taken (on ∙ stream-of t) ∙ stream-taken bytes (leads t).within)

-- ---- the root

abbrev Root : Type 0
Root = Made rooting.ended rooting-reads.Learnt

pub output-kept : (m : Root) → 0 < number_of m.result → (exit m).1.0.now ≡ m.args.1.0.now
output-kept m r = refused-leaves m.learnt.0 r

-- of a sound stream: it is answered wherever it finds room, and is as long as a node is
pub root-defined : (m : Root) → sound m.args.0 ≡ true → node_bytes ≤ length m.args.1.0.now →
    (m.result ≡ Ok tt) × (length (stream_root m.args.0) ≡ node_bytes)
root-defined m ok room = (
  number-injective m.result (Ok tt) (m.learnt.0.answer ∙ root-passes m.args.0 m.args.1.0.now ok room),
  root-length m.args.0 m.learnt.1 ok,
)

module _ {bytes : List ℕ} {s : Stream} (t : Streamed bytes s) (m : Root) (on : m.args.0 ≡ s) where
  abbrev out : List ℕ
  out = m.args.1.0.now

  is-root : stream_root m.args.0 ≡ root bytes
  is-root = ap stream_root (on ∙ stream-of t) ∙ stream-top bytes (leads t).within

  pub stream-root : m.result ≡ Ok tt → (exit m).1.0.now ≡ at_front (root bytes) out
  stream-root d = done-leaves {r = m.result} m.learnt.0 d ∙ ap (λ (n : Node). at_front n out) is-root

  -- a tree of the whole map that is done answers and writes the same
  pub stream-tree : (w : Made tree.ended tree-reads.Learnt) → w.args.0.now ≡ bytes → w.args.1.0.now ≡ out →
      w.result ≡ Ok tt →
      (m.result ≡ Ok tt) × ((exit m).1.0.now ≡ (exit w).1.0.now)
  unfolding rooted
  stream-tree w same room d =
      let enough = tree-room w.args.0.now w.args.1.0.now (done_first {r = w.result} w.learnt d) in
      let done = (root-defined m (ap sound on ∙ streamed-sound t) (omega (arith, ap length room, enough))).0 in (
        done,
        stream-root done
            ∙ ap₂ (λ (b o : List ℕ). at_front (root b) o) (sym same) (sym room)
            ∙ sym (done-leaves {r = w.result} w.learnt d),
      )
