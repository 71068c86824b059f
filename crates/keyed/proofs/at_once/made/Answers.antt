-- `keyed::at_once::made` meets its contract: the inner hash over the message where it lies, and the outer one. Assumes nothing.
use Prim.Native.Nat.{ℕ, ◌+◌}
use mathlib.Core.Path.{ap, ◌∙◌}
use native.Mathlib.Omega.{arith}
use lib.ListN.{length}
use Rattle.dwsha2.proofs.Limits.{length-fits}
use Rattle.hmac.specs.Hmac.{B}
use Rattle.keyed.proofs.Keys.{inner-words, outer-words}
use Rattle.keyed.proofs.Hashing.{tag-at-once}
use Rattle.keyed.proofs.at_once.made.Goals as goal

pub overflow_add-count : goal.overflow_add-count
overflow_add-count c = let e = c.args.edition in
    record { fits = omega (arith, length-fits e (B e) (length c.args.message.now) c.requires, c.block_bytes.ensures) }

pub returns : goal.returns
returns c = let a = c.args in
    let e = a.edition in
    let key = a.key.now in
    c.tag_of.ensures
    ∙ tag-at-once e key (λ j. (c.shared_slice_known-1.given j).fits) a.message.now
    (λ j. (c.shared_slice_known-2-1.given j).fits)
    (outer-words e key c.block_key-block.ensures c.words_after-outer.ensures)
    (inner-words e key c.block_key-block.ensures c.words_after-inner.ensures)
    (ap (λ (n : ℕ). n + length a.message.now) c.block_bytes.ensures)
    c.finish-last.ensures
