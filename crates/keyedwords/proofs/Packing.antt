-- A keyed hash and its words: as the code unpacks and packs them (`unpacked`, `packed`); words which were packed hold that keyed hash again
-- (`packed-holds`), and the words of the keyed hash which words hold are those words (`holds-packed`). What is packed are words
-- (`length-words_of`, `words-below`), and what words hold is shaped (`holds-shaped`).
use Prim.Native.Nat.{ℕ, ◌+◌, ◌-◌, ◌^◌, ◌≤◌}
use mathlib.Core.List.{List, [], ◌++◌, append_assoc, append-nil}
use mathlib.Core.Path.{◌≡◌, sym, ap, ap₂, ◌∙◌}
use native.Mathlib.Omega.{arith}
use lib.ListN.{length, take, drop, length-append, length-drop, take-append-drop, drop_of_length-le}
use lib.Seq.{take_all, take_at, drop_at, take-add, take-take, drop-drop, length-take-le}
use Rattle.std.proofs.lemmas.List.{drop-take}
use Rattle.slices.specs.AtFront.{at_front}
use Rattle.slices.specs.Below.{Below}
use Rattle.slices.specs.Padded.{padded}
use Rattle.slices.specs.Parts.{part, put_part}
use Rattle.slices.proofs.AtFront.{at_front-room, at_front-all}
use Rattle.slices.proofs.Below.{below-append, below-take, below-drop}
use Rattle.slices.proofs.Padded.{length-padded, front-padded}
use Rattle.slices.proofs.Parts.{part_to, part-all, length_part}
use Rattle.halfread.specs.declared.HalfRead.{HalfRead}
use Rattle.halfread.specs.State.{chain_room}
use Rattle.bays.specs.Places.{bay_words, chain_words}
use Rattle.bays.specs.Bay.{half_of, bay_of}
use Rattle.bays.proofs.Packing.{bay_of-long, length-bay_of, below-bay_of, half_of-bay_of, shaped-half_of, bay_of-half_of}
use Rattle.keyed.specs.declared.Keyed.{Keyed}
use Rattle.keyed.specs.State.{Shaped}
use Rattle.keyed.proofs.Adding.{same-keyed}
use Rattle.keyedwords.specs.Words.{outer_from, keyed_words, keyed_in, words_of}

-- ---- unpacked

-- of more than there is room for, the first
padded-first : (room : ℕ) (ws : List ℕ) → room ≤ length ws → padded room ws ≡ take room ws
padded-first room ws h =
    sym (take_all room (padded room ws) (omega (arith, length-padded room ws))) ∙ front-padded room ws room (omega arith) h

pub unpacked : (ws room : List ℕ) {inner : HalfRead} {outer : List ℕ} → keyed_words ≤ length ws → length room ≡ chain_room →
    inner ≡ half_of (padded bay_words ws) → outer ≡ at_front (part ws outer_from chain_room) room →
    record { inner = inner; outer = outer } ≡ keyed_in ws
unfolding keyed_in
unpacked ws room enough eight is_inner is_outer =
    same-keyed _ _ (is_inner ∙ ap half_of (padded-first bay_words ws (omega arith)))
    (is_outer
    ∙ at_front-all (part ws outer_from chain_room) room (eight ∙ sym (length_part outer_from chain_room ws enough)))

-- the first words hold what all of them do
pub held-front : (ws : List ℕ) → keyed_in (take keyed_words ws) ≡ keyed_in ws
unfolding keyed_in
held-front ws =
    same-keyed _ _ (ap half_of (take-take bay_words keyed_words ws (omega arith)))
    (ap (take chain_room) (drop-take outer_from chain_room ws) ∙ take-take chain_room chain_room (drop outer_from ws) (omega arith))

-- ---- packed

-- one list at the front, and another behind it; on the left, as the borrow checker has the words with `&mut words[at..]` come back
behind-front : (new more ws : List ℕ) (at : ℕ) → length new ≡ at → at + length more ≤ length ws →
    put_part at (length (at_front new ws) - at) (at_front more (part_to at (at_front new ws))) (at_front new ws) ≡ at_front (new ++ more) ws
behind-front new more ws at long room =
    let w = at_front new ws in
    let d = drop at ws in
    let front : w ≡ new ++ d = at_front-room new ws (omega arith) ∙ ap (λ (n : ℕ). new ++ drop n ws) long in
    let before : take at w ≡ new = ap (take at) front ∙ take_at new d at long in
    let behind : drop at w ≡ d = ap (drop at) front ∙ drop_at new d at long in
    let none : drop (length w - at) (drop at w) ≡ [] =
    drop_of_length-le (drop at w) {i = length w - at} (omega (arith, length-drop at w)) in
    let both : length (new ++ more) ≡ at + length more = length-append new more ∙ ap (λ (n : ℕ). n + length more) long in
    ap₂ (λ (l r : List ℕ). l ++ r) before
    (ap₂ (λ (l r : List ℕ). at_front more l ++ r) (part-all at w ∙ behind) none ∙ append-nil (at_front more d))
    ∙ ap (λ (l : List ℕ). new ++ l)
    (at_front-room more d (omega (arith, length-drop at ws)) ∙ ap (λ (l : List ℕ). more ++ l) (drop-drop (length more) at ws))
    ∙ sym (append_assoc new more (drop (at + length more) ws))
    ∙ ap (λ (n : ℕ). (new ++ more) ++ drop n ws) (sym both)
    ∙ sym (at_front-room (new ++ more) ws (omega (arith, both)))

pub packed : (ws : List ℕ) (k : Keyed) {bay front new : List ℕ} → keyed_words ≤ length ws →
    length k.inner.words ≡ chain_words → length k.outer ≡ chain_room →
    bay ≡ bay_of k.inner → front ≡ at_front bay ws → new ≡ at_front k.outer (part_to outer_from front) →
    put_part outer_from (length front - outer_from) new front ≡ at_front (words_of k) ws
unfolding words_of
packed ws k {front = front} enough inner outer is_bay is_front is_new =
    let b = bay_of k.inner in
    let is : front ≡ at_front b ws = is_front ∙ ap (λ (l : List ℕ). at_front l ws) is_bay in
    ap (λ (l : List ℕ). put_part outer_from (length front - outer_from) l front) is_new
    ∙ ap (λ (l : List ℕ). put_part outer_from (length l - outer_from) (at_front k.outer (part_to outer_from l)) l) is
    ∙ behind-front b k.outer ws outer_from (bay_of-long k.inner inner) (omega arith)

-- ---- there and back

pub length-words_of : (k : Keyed) → length k.inner.words ≡ chain_words → length k.outer ≡ chain_room →
    length (words_of k) ≡ keyed_words
unfolding words_of
length-words_of k inner outer = length-append (bay_of k.inner) k.outer ∙ ap₂ ◌+◌ (bay_of-long k.inner inner) outer

pub words-below : (k : Keyed) → Shaped k → Below (2 ^ 64) (words_of k)
unfolding words_of
words-below k shape = below-append (bay_of k.inner) k.outer (below-bay_of k.inner shape.inner) shape.fitting

pub packed-holds : (k : Keyed) (b : List ℕ) → keyed_words ≤ length b → Shaped k → keyed_in (at_front (words_of k) b) ≡ k
unfolding keyed_in words_of
packed-holds k b enough shape =
    let i = bay_of k.inner in
    let d = drop (length (words_of k)) b in
    let front : at_front (words_of k) b ≡ i ++ (k.outer ++ d) =
    at_front-room (words_of k) b (omega (arith, length-words_of k shape.inner.eight shape.eight)) ∙ append_assoc i k.outer d in
    let long : length i ≡ bay_words = length-bay_of k.inner shape.inner in
    ap keyed_in front
    ∙ same-keyed _ _ (ap half_of (take_at i (k.outer ++ d) bay_words long) ∙ half_of-bay_of k.inner shape.inner)
    (ap (take chain_room) (drop_at i (k.outer ++ d) outer_from long) ∙ take_at k.outer d chain_room shape.eight)

module _ (ws : List ℕ) (enough : keyed_words ≤ length ws) (small : Below (2 ^ 64) ws) where
  bay-long : length (take bay_words ws) ≡ bay_words
  bay-long = length-take-le bay_words ws (omega arith)

  pub holds-shaped : Shaped (keyed_in ws)
  unfolding keyed_in
  holds-shaped =
      record {
        inner = shaped-half_of (take bay_words ws) bay-long (below-take bay_words ws small);
        eight = length_part outer_from chain_room ws enough;
        fitting = below-take chain_room (drop outer_from ws) (below-drop outer_from ws small);
      }

  held-words : words_of (keyed_in ws) ≡ take keyed_words ws
  unfolding keyed_in words_of
  held-words =
      ap (λ (l : List ℕ). l ++ part ws outer_from chain_room) (bay_of-half_of (take bay_words ws) bay-long (below-take bay_words ws small))
      ∙ sym (take-add bay_words chain_room ws)

  pub holds-packed : at_front (words_of (keyed_in ws)) ws ≡ ws
  holds-packed =
      let front = take keyed_words ws in
      let long : length front ≡ keyed_words = length-take-le keyed_words ws enough in
      ap (λ (l : List ℕ). at_front l ws) held-words
      ∙ at_front-room front ws (omega (arith, long))
      ∙ ap (λ (n : ℕ). front ++ drop n ws) long
      ∙ take-append-drop keyed_words ws
