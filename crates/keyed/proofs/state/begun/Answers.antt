-- `keyed::state::begun` meets its contract: the words after the key's two blocks. Assumes nothing.
use mathlib.Core.Path.{refl, sym, ap, ◌∙◌}
use Rattle.halfread.specs.declared.HalfRead.{HalfRead}
use Rattle.halfread.proofs.Closing.{given-block}
use Rattle.halfread.proofs.Fields.{same-state}
use Rattle.hmac.specs.Hmac.{inner_block, outer_block}
use Rattle.hmac.proofs.Blocks.{length-inner, length-outer}
use Rattle.keyed.specs.Steps.{started}
use Rattle.keyed.proofs.Adding.{same-keyed}
use Rattle.keyed.proofs.Keys.{inner-words, outer-words}
use Rattle.keyed.proofs.state.begun.Goals as goal

pub returns : goal.returns
unfolding started
returns c = let a = c.args in
    let e = a.edition in
    let key = a.key.now in
    same-keyed _ _
    (same-state _ _ refl c.block_bytes.ensures (inner-words e key c.block_key-block.ensures c.words_after-words.ensures) refl
    ∙ sym (given-block e (inner_block e key) (length-inner e key)))
    (outer-words e key c.block_key-block.ensures c.words_after-outer.ensures
    ∙ sym (ap (λ (h : HalfRead). h.words) (given-block e (outer_block e key) (length-outer e key))))
