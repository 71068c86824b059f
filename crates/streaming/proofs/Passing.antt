-- When an add and a root are done: `add-passed` and `add-passes`, `root-passes`; what they answer to a sound stream: `add-answers`,
-- `root-answers`; and that a piece and then another pass exactly where the two in one do: `passes-both`, `passes-first`, `passes-second`.
use Prim.Native.Nat.{ℕ, ◌+◌, ◌≤◌}
use mathlib.Core.Bool.{true, cond}
use mathlib.Core.List.{List, ◌++◌}
use mathlib.Core.Path.{◌≡◌, ap, ◌∙◌}
use native.Mathlib.Omega.{arith}
use borrow.Author.Tests.{ltb-false, le-ltb, not-false}
use lib.Dec.{ltb}
use lib.ListN.{length, length-append}
use Rattle.answers.specs.Judged.{first}
use Rattle.answers.proofs.Tests.{passed}
use Rattle.treerule.specs.Root.{node_bytes}
use Rattle.tree.specs.Tree.{tree_tests}
use Rattle.stream.specs.declared.Stream.{Stream}
use Rattle.stream.specs.State.{sound, Shaped}
use Rattle.stream.specs.Steps.{stream_limit, taken, add_tests, added, root_tests}
use Rattle.stream.proofs.Appending.{added-sound, added-taken}

pub record AddPasses (s : Stream) (piece : List ℕ) : Type 0 where
  pub ok : sound s ≡ true
  pub within : taken s + length piece ≤ stream_limit

pub add-passed : (s : Stream) (piece : List ℕ) → first (add_tests s piece) ≡ 0 → AddPasses s piece
unfolding add_tests
add-passed s piece e =
    let at = passed (add_tests s piece) tt e in
    record { ok = not-false (sound s) (at 0); within = ltb-false stream_limit (taken s + length piece) (at 1) }

pub add-answers : (s : Stream) (piece : List ℕ) → sound s ≡ true →
    first (add_tests s piece) ≡ cond (ltb stream_limit (taken s + length piece)) 7 0
unfolding add_tests first
add-answers s piece ok = rw ok

pub add-passes : (s : Stream) (piece : List ℕ) → AddPasses s piece → first (add_tests s piece) ≡ 0
add-passes s piece p = add-answers s piece p.ok ∙ rw (le-ltb stream_limit (taken s + length piece) p.within)

pub root-answers : (s : Stream) (out : List ℕ) → sound s ≡ true → first (root_tests s out) ≡ cond (ltb (length out) node_bytes) 9 0
unfolding root_tests first
root-answers s out ok = rw ok

pub root-passes : (s : Stream) (out : List ℕ) → sound s ≡ true → node_bytes ≤ length out → first (root_tests s out) ≡ 0
root-passes s out ok room = root-answers s out ok ∙ rw (le-ltb (length out) node_bytes room)

-- a tree of a whole map that is done finds room for a root
pub tree-room : (map out : List ℕ) → first (tree_tests map out) ≡ 0 → node_bytes ≤ length out
unfolding tree_tests
tree-room map out e = ltb-false (length out) node_bytes (passed (tree_tests map out) tt e 1)

-- ---- a piece, and then another

pub same-passes : {s t : Stream} {p q : List ℕ} → s ≡ t → p ≡ q → AddPasses t q → AddPasses s p
same-passes e f h = record { ok = ap sound e ∙ h.ok; within = omega (arith, ap taken e, ap length f, h.within) }

module _ (s : Stream) (shape : Shaped s) (p q : List ℕ) where
  pub passes-both : AddPasses s p → AddPasses (added s p) q → AddPasses s (p ++ q)
  passes-both a b =
      record {
        ok = a.ok;
        within = omega (arith, length-append p q, added-taken s shape a.ok p a.within, b.within);
      }

  pub passes-first : AddPasses s (p ++ q) → AddPasses s p
  passes-first both = record { ok = both.ok; within = omega (arith, length-append p q, both.within) }

  pub passes-second : AddPasses s (p ++ q) → AddPasses (added s p) q
  passes-second both =
      let a = passes-first both in
      record {
        ok = added-sound s shape a.ok p a.within;
        within = omega (arith, length-append p q, added-taken s shape a.ok p a.within, both.within);
      }
