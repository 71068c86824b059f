-- The hashes of a chunk tree are as long as a node, `node_bytes` each, and bytes: `bytes-sha256`.
use Prim.Native.Nat.{ℕ}
use mathlib.Core.List.{List, ◌∷◌, ◌++◌}
use mathlib.Core.Path.{◌≡◌, refl, ◌∙◌}
use lib.ListN.{length}
use Rattle.slices.specs.Below.{Bytes}
use Rattle.fips.specs.Message.{message}
use Rattle.fips.specs.Editions.{edition, editions, digest_bytes}
use Rattle.fips.proofs.Digest.{length-digest, bytes-digest}
use Rattle.treerule.specs.Root.{node_edition, node_bytes, sha256, leaf, parent}

pub node-size : digest_bytes node_edition ≡ node_bytes
unfolding edition editions
node-size = refl

pub length-sha256 : (bytes : List ℕ) → length (sha256 bytes) ≡ node_bytes
unfolding sha256
length-sha256 bytes = length-digest node_edition _ ∙ node-size

pub bytes-sha256 : (bytes : List ℕ) → Bytes (sha256 bytes)
unfolding sha256
bytes-sha256 bytes = bytes-digest node_edition (message bytes 0 0)

pub length-leaf : (chunk : List ℕ) → length (leaf chunk) ≡ node_bytes
unfolding leaf
length-leaf chunk = length-sha256 (0 ∷ chunk)

pub length-parent : (l r : List ℕ) → length (parent l r) ≡ node_bytes
unfolding parent
length-parent l r = length-sha256 (1 ∷ (l ++ r))
