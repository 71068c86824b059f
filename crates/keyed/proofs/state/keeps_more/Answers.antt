-- `keyed::state::keeps_more` meets its contract: the count, and then the outer words decide. Assumes nothing.
use mathlib.Core.Path.{sym, ◌∙◌}
use borrow.Author.Tests.{lt-leb}
use native.Mathlib.Omega.{arith}
use Rattle.halfread.specs.State.{block_of}
use Rattle.halfread.proofs.Rules.{below-rule}
use Rattle.keyed.proofs.Soundness.{few_bytes, outer-decides}
use Rattle.keyed.proofs.state.keeps_more.Goals as goal

pub returns-then-keyed-block_bytes : goal.returns-then-keyed-block_bytes
returns-then-keyed-block_bytes c = let k = c.args.keyed in
    sym (few_bytes k (lt-leb (block_of k.inner) k.inner.count (omega (arith, c.block_bytes.ensures))))

pub returns : goal.returns
returns c = let k = c.args.keyed in
    below-rule k.inner.edition k.outer c.narrow.ensures c.below_width.ensures
    ∙ sym (outer-decides k (omega (arith, c.block_bytes.ensures)))
