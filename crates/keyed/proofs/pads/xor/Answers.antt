-- `keyed::pads::xor` meets its contract: one byte more is xored. Assumes nothing.
use Prim.Native.Nat.{ℕ, ◌+◌, ◌<◌}
use mathlib.Core.List.{List, [], ◌∷◌, ◌++◌}
use mathlib.Core.Path.{◌≡◌, sym, ap, ◌∙◌}
use native.Mathlib.Omega.{arith}
use lib.Bits.{bit_xor}
use lib.ListN.{length, take, drop, get_or}
use lib.Seq.{get_or-drop, drop-drop, drop-set-lt}
use Rattle.std.proofs.lemmas.Nat.{xor_comm}
use borrow.Author.Rules.{rules}
use Rattle.slices.proofs.Fill.{fill_more, map_more}
use Rattle.halfread.specs.State.{tail_room}
use Rattle.hmac.specs.Hmac.{xored}
use Rattle.keyed.proofs.pads.xor.Goals as goal

at_front : (i : ℕ) (bs : List ℕ) → get_or (drop i bs) 0 0 ≡ get_or bs i 0
at_front i bs = get_or-drop i bs 0 0 ∙ ap (λ (n : ℕ). get_or bs n 0) (omega arith)

pub loop-byte-preserved : goal.loop-byte-preserved
loop-byte-preserved c = let l = c.loop-byte in
    let a = c.args in
    let i = l.byte-index in
    let long : length a.block ≡ tail_room = search rules in
    let inside : i < length l.byte-items = search rules in
    let same : get_or l.byte-items i 0 ≡ get_or a.block i 0 =
    sym (at_front i l.byte-items) ∙ ap (λ (bs : List ℕ). get_or bs 0 0) l.invariant.left ∙ at_front i a.block in
    let x = bit_xor (get_or l.byte-items i 0) a.pad in
    record {
      done =
          fill_more x (omega (arith, l.invariant.done.long)) (omega arith)
          (map_more (bit_xor a.pad) a.block i (omega (arith, l.invariant.done.long))
          ∙ ap (λ (y : ℕ). xored a.pad (take i a.block) ++ (y ∷ []))
          (ap (bit_xor a.pad) (sym same) ∙ xor_comm a.pad (get_or l.byte-items i 0)))
          l.invariant.done;
      left =
          drop-set-lt (i + 1) l.byte-items i x (omega arith)
          ∙ sym (drop-drop 1 i l.byte-items) ∙ ap (drop 1) l.invariant.left ∙ drop-drop 1 i a.block;
    }
