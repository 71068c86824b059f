-- `keyed::outer::Tag::of_words` meets its contract: the digest is the front of what stands in the buffer. Assumes nothing.
use mathlib.Core.Path.{◌≡◌}
use native.Mathlib.Omega.{arith}
use lib.ListN.{length}
use borrow.Author.Rules.{rules}
use Rattle.fips.proofs.Editions.{digest-short}
use Rattle.dwsha2.proofs.Digest.{length-digest_from}
use Rattle.keyed.proofs.Adding.{front-tag}
use Rattle.keyed.proofs.outer.Tag.of_words.Goals as goal

pub invariant_of-result : goal.invariant_of-result
invariant_of-result c = omega (arith, c.digest_bytes.ensures, digest-short c.args.edition)

pub returns : goal.returns
returns c = let a = c.args in
    let eight : length a.words ≡ 8 = search rules in
    front-tag a.edition (length-digest_from a.edition a.words eight) c.digest_bytes.ensures c.write_digest.ensures
