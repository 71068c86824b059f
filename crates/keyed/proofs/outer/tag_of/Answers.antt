-- `keyed::outer::tag_of` meets its contract: the digest that the words after the outer block and the inner digest make. Assumes nothing.
use Prim.Native.Nat.{ℕ, ◌+◌}
use mathlib.Core.List.{List}
use mathlib.Core.Path.{ap, ap₂, ◌∙◌}
use native.Mathlib.Omega.{arith}
use Rattle.fips.proofs.Editions.{digest-short}
use Rattle.fips.proofs.Sizes.{block_within}
use Rattle.dwsha2.specs.Code.Hashing.{finished, digest_from}
use Rattle.keyed.specs.Steps.{outer_digest}
use Rattle.keyed.proofs.outer.tag_of.Goals as goal

pub overflow_add-count : goal.overflow_add-count
overflow_add-count c = let e = c.args.edition in
    record { fits = omega (arith, c.digest_bytes.ensures, c.block_bytes.ensures, digest-short e, block_within e) }

pub returns : goal.returns
unfolding outer_digest
returns c = let e = c.args.edition in
    c.of_words.ensures
    ∙ ap (digest_from e)
    (c.finish-words.ensures
    ∙ ap₂ (λ (k : ℕ) (t : List ℕ). finished e c.args.outer k t 0 0)
    (ap₂ ◌+◌ c.block_bytes.ensures c.digest_bytes.ensures) (c.bytes.ensures ∙ c.of_words-inner.ensures))
