-- `keyed::at_once::gate` meets its contract: each refusal by its test. Assumes nothing.
use mathlib.Core.Path.{sym, ◌∙◌}
use Rattle.answers.specs.Judged.{first}
use Rattle.keyed.proofs.at_once.gate.Goals as goal

pub returns-then-not-known : goal.returns-then-not-known
unfolding first
returns-then-not-known c = rw (sym c.known.ensures ∙ c.if-not-known.true)

pub returns-then-too_long : goal.returns-then-too_long
unfolding first
returns-then-too_long c = rw (sym c.known.ensures ∙ c.if-not-known.false, sym c.too_long.ensures ∙ c.if-too_long.true)

pub returns-then-too_long-2 : goal.returns-then-too_long-2
unfolding first
returns-then-too_long-2 c = rw (
  sym c.known.ensures ∙ c.if-not-known.false,
  sym c.too_long.ensures ∙ c.if-too_long.false,
  ← c.block_bytes.ensures,
  sym c.too_long-2.ensures ∙ c.if-too_long-2.true,
)

pub returns : goal.returns
unfolding first
returns c = rw (
  sym c.known.ensures ∙ c.if-not-known.false,
  sym c.too_long.ensures ∙ c.if-too_long.false,
  ← c.block_bytes.ensures,
  sym c.too_long-2.ensures ∙ c.if-too_long-2.false,
)
