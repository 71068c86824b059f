-- `dwsha2::closing::length_field` meets its contract: two words fill the field. Assumes nothing.
use mathlib.Core.List.{[], ◌∷◌}
use mathlib.Core.Path.{refl, ◌∙◌}
use Prim.Native.Nat.{◌+◌, ◌*◌, ◌/◌, ◌%◌, ◌^◌}
use native.Mathlib.Omega.{arith}
use lib.ListN.{replicate}
use Rattle.bigendian.proofs.Words.{with_words-all}
use Rattle.dwsha2.proofs.Length.{length-words}
use Rattle.dwsha2.proofs.closing.length_field.Goals as goal

pub returns : goal.returns
returns c = let a = c.args in
    let n = a.count in
    let b = a.bits % 8 in
    c.put_words.ensures
    ∙ with_words-all 8 (n / 2 ^ 61 ∷ (n % 2 ^ 61 * 8 + b) ∷ []) (replicate 16 0) (omega arith) refl
    ∙ length-words n b (omega arith)
