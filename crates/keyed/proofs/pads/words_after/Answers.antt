-- `keyed::pads::words_after` meets its contract: the block's own bytes are absorbed from the starting words on. Assumes nothing.
use Prim.Native.Nat.{ℕ}
use mathlib.Core.List.{List}
use mathlib.Core.Path.{◌≡◌, sym, ap₂, ◌∙◌}
use native.Mathlib.Omega.{arith}
use lib.ListN.{length, take}
use lib.Seq.{length-take-le}
use borrow.Author.Rules.{rules}
use Rattle.fips.proofs.Sizes.{block_within}
use Rattle.dwsha2.specs.Code.Hashing.{absorbed}
use Rattle.halfread.specs.State.{tail_room}
use Rattle.hmac.specs.Hmac.{xored, B}
use Rattle.hmac.proofs.Blocks.{take-xored}
use Rattle.keyed.proofs.pads.words_after.Goals as goal
use Rattle.keyed.proofs.pads.words_after.Goals.{After-block_bytes-end}

pub slice_bounds-bytes-end : goal.slice_bounds-bytes-end
slice_bounds-bytes-end c = let long : length c.xor-bytes.result ≡ tail_room = search rules in
    omega (arith, c.block_bytes-end.ensures, block_within c.args.edition)

pub slice_bounds-absorb-end : goal.slice_bounds-absorb-end
slice_bounds-absorb-end c = sym (length-take-le _ _ (slice_bounds-bytes-end (goal.at.slice_bounds-absorb-end c).After-block_bytes-end))

pub returns : goal.returns
returns c = let a = c.args in
    let e = a.edition in
    let bytes : take c.block_bytes-end.result c.xor-bytes.result ≡ xored a.pad (take (B e) a.block) =
    ap₂ (λ (n : ℕ) (l : List ℕ). take n l) c.block_bytes-end.ensures c.xor-bytes.ensures ∙ take-xored (B e) a.pad a.block in
    c.absorb.ensures ∙ ap₂ (absorbed e) c.starting_words-start.ensures bytes
