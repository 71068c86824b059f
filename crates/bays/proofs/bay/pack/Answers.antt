-- `bays::bay::pack` meets its contract: edition and count, the chaining words, the tail's words. Assumes nothing.
use Prim.Native.Nat.{ℕ}
use mathlib.Core.Path.{◌≡◌}
use mir.Syntax.{w8 as u8}
use mir.Val.{Fits}
use lib.ListN.{length, get_or}
use borrow.Author.Rules.{rules}
use Rattle.bays.specs.Bay.{bay_of}
use Rattle.bays.proofs.Packing.{packed}
use Rattle.bays.specs.Places.{chain_words}
use Rattle.bays.proofs.bay.pack.Goals as goal

pub returns : goal.returns
unfolding bay_of
returns c = let h = c.args.half in
    let eight : length h.words ≡ chain_words = search rules in
    let bytes : (i : ℕ) → Fits u8 (get_or h.tail i 0) = λ i. search rules in
    packed c.args.bay.now h.edition h.count h.words c.put_front.new.out c.requires eight c.put_front.ensures
    h.tail c.get_words.new.d (λ i. (bytes i).fits) c.get_words.ensures
