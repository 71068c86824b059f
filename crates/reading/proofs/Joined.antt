-- Bytes read into a buffer behind those that are there: `joined`.
use Rattle.std.proofs.Common.{◌≡◌, ℕ, ◌+◌, ◌≤◌, List, ◌++◌, length, take, sym, ap, ◌∙◌}
use Rattle.std.proofs.lemmas.List.{take-append-le}
use Rattle.std.proofs.Math.Seq.{take-append-add}
use lib.Seq.{length-take-le}
use borrow.Rule.Slice.PartMut.{put_mid}

pub joined : (n k m : ℕ) (xs ys : List ℕ) → n ≤ length xs → m ≤ length ys → take (n + m) (put_mid n k xs ys) ≡ take n xs ++ take m ys
joined n k m xs ys p q =
    ap (λ (l : ℕ). take (l + m) (put_mid n k xs ys)) (sym (length-take-le n xs p))
    ∙ take-append-add (take n xs) _ m
    ∙ ap (λ (l : List ℕ). take n xs ++ l) (take-append-le m ys _ q)
