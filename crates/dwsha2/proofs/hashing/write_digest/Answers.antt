-- `dwsha2::hashing::write_digest` meets its contract: the words' bytes, of which the digest's go to the front. Assumes nothing.
use Prim.Native.Nat.{ℕ, ◌/◌}
use mathlib.Core.List.{List}
use mathlib.Core.Path.{◌≡◌, sym, ap, ◌∙◌}
use native.Mathlib.Omega.{arith}
use lib.ListN.{length}
use lib.Seq.{length-take-le}
use borrow.Author.Rules.{rules}
use Rattle.fips.specs.Editions.{width}
use Rattle.fips.proofs.Editions.{digest-within}
use Rattle.slices.specs.AtFront.{at_front}
use Rattle.fips.proofs.Sizes.{bytes-within}
use Rattle.dwsha2.proofs.Digest.{digest-taken}
use Rattle.dwsha2.proofs.hashing.write_digest.Goals as goal
use Rattle.dwsha2.proofs.hashing.write_digest.Goals.{After-put_front-arg-1}

pub slice_bounds-bytes-end : goal.slice_bounds-bytes-end
slice_bounds-bytes-end c = let e = c.args.edition in
    omega (arith, c.put_words.auto.d, digest-within e, bytes-within e, c.digest_bytes-n.ensures)

pub slice_bounds-put_front-end : goal.slice_bounds-put_front-end
slice_bounds-put_front-end c =
    sym (length-take-le _ _ (slice_bounds-bytes-end (goal.at.slice_bounds-put_front-end c).After-put_front-arg-1))

pub returns : goal.returns
returns c = let e = c.args.edition in
    let size = c.block_bytes in
    let n : size.result / 16 ≡ (width e).bytes = omega (arith, size.ensures) in
    let long : length c.args.words ≡ 8 = search rules in
    c.put_front.ensures
    ∙ ap (λ (l : List ℕ). at_front l c.args.out.now)
    (digest-taken e c.args.words (size.result / 16) _ long n c.digest_bytes-n.ensures
    c.put_words.ensures)
