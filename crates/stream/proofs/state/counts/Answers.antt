-- `stream::state::counts` meets its contract: rule by rule. Assumes nothing.
use mathlib.Core.Path.{sym}
use borrow.Author.Tests.{lt-leb, le-ltb}
use Rattle.slices.proofs.Tests.{fails-at}
use Rattle.treerule.specs.Root.{chunk_bytes}
use Rattle.stream.specs.State.{most_chunks}
use Rattle.stream.proofs.Soundness.{counts-below, counts-last}
use Rattle.stream.proofs.state.counts.Goals as goal

pub returns-then-chunks-gt-MOST : goal.returns-then-chunks-gt-MOST
returns-then-chunks-gt-MOST c = sym (fails-at _ 0 (lt-leb _ most_chunks c.if-chunks-gt-MOST.true))

pub returns-then-further : goal.returns-then-further
returns-then-further c = sym (fails-at _ 1 (le-ltb _ chunk_bytes c.if-further.true))

pub returns-then-chunks-lt-MOST : goal.returns-then-chunks-lt-MOST
returns-then-chunks-lt-MOST c = sym (counts-below _ _ c.if-chunks-lt-MOST.true c.if-further.false)

pub returns : goal.returns
returns c = sym (counts-last _ _ c.if-chunks-gt-MOST.false c.if-chunks-lt-MOST.false c.if-further.false)
