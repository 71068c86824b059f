-- The root of a stream, in the three ways in which the code makes it: with bytes after the chunks (`root-further`), of nothing
-- (`root-nothing`), and of finished chunks alone (`root-last`). The roots that it holds are l.
use Prim.Native.Nat.{ℕ, ◌<◌}
use mathlib.Core.List.{List, [], ◌∷◌, ◌++◌, append-nil, map}
use mathlib.Core.Path.{◌≡◌, refl, sym, ap, ap₂, ◌∙◌}
use native.Mathlib.Omega.{arith}
use lib.ListN.{length, take}
use lib.Seq.{length-take-le, take_all}
use Rattle.treerule.specs.Root.{chunk_bytes, Node, sha256, leaf, chunks}
use Rattle.treerule.proofs.Root.{chunks-one, chunks-none}
use Rattle.streamrule.specs.Held.{folded}
use Rattle.stream.specs.declared.Stream.{Stream}
use Rattle.stream.specs.State.{held, bytes_of}
use Rattle.stream.specs.Steps.{stream_root}

folded-none : (ns : List Node) → length ns ≡ 0 → folded ns ≡ sha256 []
unfolding folded
folded-none [] e = refl
folded-none (n ∷ ns) e = absurd (omega arith)

module _ (s : Stream) {l : List Node} (is_held : l ≡ held s) where
  pub root-further : {node r : Node} → length s.bytes ≡ chunk_bytes → s.further < chunk_bytes → 0 < s.further →
      node ≡ leaf (take chunk_bytes (take s.further s.bytes)) → r ≡ folded (l ++ (node ∷ [])) → r ≡ stream_root s
  unfolding stream_root
  root-further {node} long short some is_node is_r =
      let size : length (bytes_of s) ≡ s.further = length-take-le s.further s.bytes (omega arith) in
      let one : chunks (bytes_of s) ≡ bytes_of s ∷ [] = chunks-one (bytes_of s) (omega arith) (omega arith) in
      is_r
      ∙ ap₂ (λ (k : List Node) (n : Node). folded (k ++ (n ∷ []))) is_held
      (is_node ∙ ap leaf (take_all chunk_bytes (bytes_of s) (omega arith)))
      ∙ ap (λ (k : List (List ℕ)). folded (held s ++ map leaf k)) (sym one)

  no-further : s.further ≡ 0 → folded l ≡ stream_root s
  unfolding stream_root
  no-further none =
      let empty : chunks (bytes_of s) ≡ [] = chunks-none (bytes_of s) (ap (λ (n : ℕ). length (take n s.bytes)) none) in
      ap folded is_held ∙ sym (ap (λ (k : List (List ℕ)). folded (held s ++ map leaf k)) empty ∙ ap folded (append-nil (held s)))

  pub root-nothing : {r : Node} → s.further ≡ 0 → length l ≡ 0 → r ≡ sha256 [] → r ≡ stream_root s
  root-nothing none empty is_r = is_r ∙ sym (folded-none l empty) ∙ no-further none

  pub root-last : (before : List Node) (last : Node) {r : Node} → s.further ≡ 0 → l ≡ before ++ (last ∷ []) →
      r ≡ folded (before ++ (last ∷ [])) → r ≡ stream_root s
  root-last before last none split is_r = is_r ∙ ap folded (sym split) ∙ no-further none
