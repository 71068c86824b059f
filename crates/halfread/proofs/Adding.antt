-- A piece added: whole blocks are absorbed, the rest is the tail.
-- Main statements: `added-append`, `added_none`, `added-sound` and `added-shaped`.
use Prim.Native.Nat.{ℕ, ◌+◌, ◌*◌, ◌/◌, ◌%◌, ◌<◌}
use mathlib.Core.Bool.{true, false}
use mathlib.Core.List.{List, [], ◌++◌, append_assoc, append-nil}
use mathlib.Core.Path.{◌≡◌, refl, sym, ap, ap₂, ◌∙◌}
use native.Mathlib.Nat.{mod-add-mod, mod-eq_of_lt, mod-lt}
use native.Mathlib.Omega.{arith}
use lib.ListN.{length, take, length-append, take-append-drop}
use lib.Pow.{pow_mono}
use Rattle.slices.specs.Below.{Bytes}
use Rattle.slices.proofs.Below.{below-append, below-take, below-drop, below_more}
use Rattle.dwsha2.specs.Limit.{too_long}
use Rattle.dwsha2.specs.Code.Hashing.{absorbed}
use Rattle.fips.proofs.Sizes.{bytes-within, block-some, block_within}
use Rattle.dwsha2.proofs.Absorbed.{absorbed-below, absorbed-none, absorbed-rest, length-absorbed, absorbed-append}
use Rattle.halfread.specs.declared.HalfRead.{HalfRead}
use Rattle.halfread.specs.State.{block_of, tail_length, pending, padded, sound, Shaped, tail_room}
use Rattle.slices.specs.Blocks.{rest}
use Rattle.halfread.specs.Steps.{waiting, added}
use Rattle.halfread.proofs.Fields.{same-state}
use Rattle.halfread.proofs.Rules.{tail-lt}
use Rattle.halfread.proofs.Soundness.{sound-facts, facts-sound}
use Rattle.halfread.proofs.Tails.{length-padded, take-padded, padded-bytes, length-pending}
use Rattle.slices.proofs.Blocks.{length_rest, length_whole, rest-small, rest-append}
use Rattle.dwsha2.proofs.Limits.{counted-in, length-fits}

-- ---- what waits

module _ (h : HalfRead) (long : length h.tail ≡ tail_room) where
  pub length-waiting : (a : List ℕ) → length (waiting h a) ≡ tail_length h + length a
  length-waiting a = length-append (pending h) a ∙ ap (λ (n : ℕ). n + length a) (length-pending h long)

  held-added : (a : List ℕ) → length (rest (block_of h) (waiting h a)) ≡ (h.count + length a) % block_of h
  held-added a =
      length_rest (block_of h) (waiting h a)
      ∙ ap (λ (n : ℕ). n % block_of h) (length-waiting a)
      ∙ mod-add-mod h.count (block_of h) (length a)

  -- the tail of what was added is the rest
  pub pending-added : (a : List ℕ) → pending (added h a) ≡ rest (block_of h) (waiting h a)
  unfolding added
  pending-added a =
      take-padded (rest (block_of h) (waiting h a)) ((h.count + length a) % block_of h)
      (omega (arith, mod-lt (h.count + length a) (block-some h.edition), block_within h.edition)) (held-added a)

  -- whole blocks may be taken in any pieces
  pub added-append : (a b : List ℕ) → added (added h a) b ≡ added h (a ++ b)
  unfolding added
  added-append a b =
      let e = h.edition in
      let n = block_of h in
      let W = waiting h a in
      let A = take (length W / n * n) W in
      let R = rest n W in
      let whole : length W / n * n ≡ length A = length_whole n W in
      let small : length R < n = rw (length_rest n W) (mod-lt (length W) (block-some e)) in
      let all : waiting h (a ++ b) ≡ A ++ (R ++ b) =
      sym (append_assoc (pending h) a b) ∙ ap (λ (l : List ℕ). l ++ b) (sym (take-append-drop (length W / n * n) W)) ∙ append_assoc A R b in
      let next : waiting (added h a) b ≡ R ++ b = ap (λ (l : List ℕ). l ++ b) (pending-added a) in
      same-state (added (added h a) b) (added h (a ++ b)) refl
      (omega (arith, length-append a b))
      (ap₂ (absorbed e)
      (ap (absorbed e h.words) (sym (take-append-drop (length W / n * n) W))
      ∙ absorbed-rest e h.words (length W / n) A R whole small) next
      ∙ sym (absorbed-append e h.words (length W / n) A (R ++ b) whole)
      ∙ ap (absorbed e h.words) (sym all))
      (ap (λ (l : List ℕ). padded (rest n l)) next
      ∙ ap padded (sym (rest-append n (length W / n) A (R ++ b) (block-some e) whole))
      ∙ ap (λ (l : List ℕ). padded (rest n l)) (sym all))

-- ---- soundness is kept

module _ (h : HalfRead) (s : Shaped h) where
  -- no bytes more leave the state as it was
  pub added_none : sound h ≡ true → added h [] ≡ h
  unfolding added
  added_none e =
      let f = sound-facts h e s in
      let same : waiting h [] ≡ pending h = append-nil (pending h) in
      let small : length (pending h) < block_of h = rw (length-pending h s.wide) (tail-lt h) in
      same-state (added h []) h refl (omega arith)
      (ap (absorbed h.edition h.words) same ∙ absorbed-none h.edition h.words (pending h) f.below small)
      (ap (λ (l : List ℕ). padded (rest (block_of h) l)) same ∙ ap padded (rest-small (block_of h) (pending h) small) ∙ sym f.tail)

  pub added-shaped : (a : List ℕ) → Bytes a → too_long h.edition h.count (length a) ≡ false → Shaped (added h a)
  unfolding added
  added-shaped a bytes room =
      record {
        eight = length-absorbed h.edition h.words (waiting h a) s.eight;
        wide = length-padded (rest (block_of h) (waiting h a));
        number = s.number;
        counted = length-fits h.edition h.count (length a) room;
        fitting =
            below_more (absorbed h.edition h.words (waiting h a)) (pow_mono {j = 64} (omega (arith, bytes-within h.edition)))
            (absorbed-below h.edition h.words (waiting h a));
        bytes =
            padded-bytes (rest (block_of h) (waiting h a))
            (below-drop (length (waiting h a) / block_of h * block_of h) (waiting h a)
            (below-append (pending h) a (below-take (tail_length h) h.tail s.bytes) bytes));
      }

  pub added-sound : (a : List ℕ) → Bytes a → sound h ≡ true → too_long h.edition h.count (length a) ≡ false → sound (added h a) ≡ true
  unfolding added
  added-sound a bytes e room =
      let f = sound-facts h e s in
      facts-sound (added h a) (added-shaped a bytes room)
      (record {
        known = f.known;
        limited = counted-in h.edition h.count (length a) room;
        below = absorbed-below h.edition h.words (waiting h a);
        tail = ap padded (sym (pending-added h s.wide a));
        begun = λ p.
            let c : tail_length h ≡ h.count = mod-eq_of_lt (omega arith) in
            absorbed-none h.edition h.words (waiting h a) f.below (rw (length-waiting h s.wide a) (omega arith))
            ∙ f.begun (omega arith);
      })
