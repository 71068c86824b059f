-- The theorems about streams are not about nothing: for every list of pieces, of at most 2^42 bytes in all, there are calls that begin a
-- stream and take them one after the other, by value (`stream-happens`) and in any lent words that are enough (`c-stream-happens`).
use Prim.Native.Nat.{ℕ, ◌+◌, ◌^◌, ◌≤◌}
use mathlib.Core.List.{List, [], ◌∷◌, ◌++◌, flatten, append_assoc, append-nil}
use mathlib.Core.Path.{refl, sym, ap, subst, ◌∙◌}
use native.Mathlib.Omega.{arith}
use borrow.Author.Tests.{le-ltb}
use denote.Ref.{Bor, MutBor}
use lib.ListN.{length, length-append}
use Rattle.std.specs.Prelude.{Ok}
use Rattle.answers.specs.Judged.{first}
use Rattle.answers.proofs.Outcome.{done}
use Rattle.slices.specs.AtFront.{at_front}
use Rattle.slices.specs.Below.{Below, Bytes}
use Rattle.slices.proofs.AtFront.{below-front}
use Rattle.stream.specs.declared.Stream.{Stream}
use Rattle.stream.specs.State.{begun, sound, Shaped}
use Rattle.stream.specs.Steps.{stream_of, stream_limit, added}
use Rattle.stream.proofs.Appending.{added-shaped, begun-shaped, stream-sound, stream-taken}
use Rattle.streamwords.specs.Words.{stream_words, stream_in, words_of}
use Rattle.streamwords.specs.Calls.{begin_tests}
use Rattle.streaming.specs.ByValue.{Streamed, begun-by, added-by}
use Rattle.streaming.specs.InC.{Lent, begun-in, added-in}
use Rattle.streaming.proofs.Passing.{AddPasses, add-passes, same-passes}
use Rattle.streaming.proofs.Streams.{leads}
use Rattle.streaming.proofs.Packed.{begun-words, added-words}
use Rattle.streaming.proofs.CStreams.{holds, on-stream}

-- a slice somewhere
slice : List ℕ → Bor (List ℕ)
slice xs = record { ref_ptr = (0, 0); now = xs }

-- the same lent to be written
lent_slice : List ℕ → MutBor (List ℕ)
lent_slice xs = record { ref_ptr = (0, 0); ghost_name = 0; now = xs }

-- a piece on what bytes lead to is done
next-passes : (bytes piece : List ℕ) → length bytes + length piece ≤ stream_limit → AddPasses (stream_of bytes) piece
next-passes bytes piece limit =
    record {
      ok = stream-sound bytes (omega arith);
      within = omega (arith, stream-taken bytes (omega arith));
    }

-- ---- by value

begin-happens : Streamed [] begun
begin-happens = begun-by (record { κs = tt; args = tt; result = begun; last = tt; learnt = refl })

add-happens : (bytes : List ℕ) (s : Stream) (piece : List ℕ) → Shaped s → length bytes + length piece ≤ stream_limit → Streamed bytes s →
    Streamed (bytes ++ piece) (added s piece)
unfolding slice lent_slice
add-happens bytes s piece shape limit t =
    let there = (leads t).is in
    let passes = subst (λ (u : Stream). AddPasses u piece) (sym there) (next-passes bytes piece limit) in
    added-by t
    (record {
      κs = ([], tt);
      args = (s, (slice piece, tt));
      result = Ok (added s piece);
      last = (tt, (tt, tt));
      learnt = (done (add-passes s piece passes) refl, shape);
    })
    refl refl

-- pieces one after the other, from what bytes have led to
adds-happen : (bytes : List ℕ) (pieces : List (List ℕ)) → length bytes + length (flatten pieces) ≤ stream_limit →
    (s : Stream) × Shaped s × Streamed bytes s → (s : Stream) × Streamed (bytes ++ flatten pieces) s
unfolding flatten
adds-happen bytes [] limit (s, shape, t) = (s, subst (λ (l : List ℕ). Streamed l s) (sym (append-nil bytes)) t)
adds-happen bytes (piece ∷ pieces) limit (s, shape, t) =
    let apart = length-append piece (flatten pieces) in
    let ok = ap sound (leads t).is ∙ stream-sound bytes (leads t).within in
    let next = add-happens bytes s piece shape (omega arith) t in
    let rest = adds-happen (bytes ++ piece) pieces (omega (arith, length-append bytes piece))
    (added s piece, added-shaped s shape ok piece, next) in
    (rest.0, subst (λ (l : List ℕ). Streamed l rest.0) (append_assoc bytes piece (flatten pieces)) rest.1)

pub stream-happens : (pieces : List (List ℕ)) → length (flatten pieces) ≤ stream_limit → (s : Stream) × Streamed (flatten pieces) s
stream-happens pieces limit = adds-happen [] pieces (omega arith) (begun, begun-shaped, begin-happens)

-- ---- under C names

abbrev pub AllBytes : List (List ℕ) → Type 0
AllBytes [] = Unit {0}
AllBytes (p ∷ ps) = Bytes p × AllBytes ps

c-begin-happens : (ws : List ℕ) → stream_words ≤ length ws → Lent [] (at_front (words_of begun) ws)
unfolding slice lent_slice begin_tests first
c-begin-happens ws enough =
    begun-in
    (record {
      κs = ([], tt);
      args = (lent_slice ws, tt);
      result = 0;
      last = (at_front (words_of begun) ws, tt);
      learnt = done (rw (le-ltb (length ws) stream_words enough)) refl;
    })
    refl

-- words of 64 bits in which bytes have been taken
abbrev Words64 : List ℕ → Type 0
Words64 bytes = (ws : List ℕ) × Below (2 ^ 64) ws × Lent bytes ws

c-add-happens : (bytes piece : List ℕ) → Bytes piece → length bytes + length piece ≤ stream_limit → Words64 bytes → Words64 (bytes ++ piece)
unfolding slice lent_slice
c-add-happens bytes piece small limit (ws, words, t) =
    let h = holds t in
    let passes = next-passes bytes piece limit in
    let there = same-passes h.is refl passes in
    let left = at_front (words_of (added (stream_in ws) piece)) ws in (
      left,
      below-front (words_of (added (stream_in ws) piece)) ws (added-words ws h.enough piece there.ok there.within small) words,
      added-in t
          (record {
            κs = ([], ([], tt));
            args = (lent_slice ws, (slice piece, tt));
            result = 0;
            last = (left, (tt, tt));
            learnt = (done (on-stream bytes ws piece h ∙ add-passes (stream_of bytes) piece passes) refl, (words, small));
          })
          refl refl,
    )

c-adds-happen : (bytes : List ℕ) (pieces : List (List ℕ)) → AllBytes pieces → length bytes + length (flatten pieces) ≤ stream_limit →
    Words64 bytes → (left : List ℕ) × Lent (bytes ++ flatten pieces) left
unfolding flatten
c-adds-happen bytes [] small limit (ws, words, t) = (ws, subst (λ (l : List ℕ). Lent l ws) (sym (append-nil bytes)) t)
c-adds-happen bytes (piece ∷ pieces) small limit from =
    let apart = length-append piece (flatten pieces) in
    let next = c-add-happens bytes piece small.0 (omega arith) from in
    let rest = c-adds-happen (bytes ++ piece) pieces small.1 (omega (arith, length-append bytes piece)) next in
    (rest.0, subst (λ (l : List ℕ). Lent l rest.0) (append_assoc bytes piece (flatten pieces)) rest.1)

pub c-stream-happens : (pieces : List (List ℕ)) (ws : List ℕ) → AllBytes pieces → length (flatten pieces) ≤ stream_limit →
    Below (2 ^ 64) ws → stream_words ≤ length ws → (left : List ℕ) × Lent (flatten pieces) left
c-stream-happens pieces ws small limit words enough =
    c-adds-happen [] pieces small (omega arith)
    (at_front (words_of begun) ws, below-front (words_of begun) ws begun-words words, c-begin-happens ws enough)
