-- The hashes of a chunk tree: hash at once refuses none of them (`hash-done`) and gives them (`hash-law`), of the messages that the code
-- makes in its buffers (`leaf-message`, `parent-message`).
use Prim.Native.Nat.{ℕ, suc, ◌+◌, ◌≤◌, min}
use mathlib.Core.Bool.{true, false}
use mathlib.Core.List.{List, [], ◌∷◌, ◌++◌, append-nil}
use mathlib.Core.Path.{◌≡◌, refl, sym, ap, ap₂, ◌∙◌}
use native.Mathlib.Omega.{arith}
use lib.ListN.{length, take, drop, length-take, length-drop, drop_of_length-le}
use lib.Seq.{take_at, drop_at}
use borrow.Author.Tests.{le-ltb}
use Rattle.std.specs.Prelude.{Ok, IsOk}
use Rattle.answers.specs.Judged.{Judged, first}
use Rattle.answers.specs.Numbers.{Answer, number_of}
use Rattle.answers.proofs.Outcome.{number-injective}
use Rattle.fips.specs.Editions.{known, edition, editions}
use Rattle.slices.specs.AtFront.{at_front}
use Rattle.dwsha2.specs.Limit.{too_long}
use Rattle.dwsha2.specs.Closing.{closing_fits}
use Rattle.dwsha2.specs.Hash.{hash_tests, hashed}
use Rattle.slices.proofs.AtFront.{at_front-room, at_front-all}
use Rattle.treerule.specs.Root.{node_edition, node_bytes, sha256}
use Rattle.treerule.proofs.Hashes.{node-size, length-sha256}
use Rattle.tree.specs.Code.Held.{pair_bytes}

-- ---- hash at once, whole bytes

known-node : known node_edition ≡ true
unfolding known edition editions
known-node = refl

fits-none : closing_fits 0 0 ≡ true
unfolding closing_fits
fits-none = refl

none-applies : (bytes out : List ℕ) → too_long node_edition 0 (length bytes) ≡ false → node_bytes ≤ length out →
    first (hash_tests node_edition bytes 0 0 out) ≡ 0
unfolding hash_tests first
none-applies bytes out h room = rw (known-node, h, fits-none, node-size, le-ltb (length out) node_bytes room)

-- it refuses nothing
pub hash-done : (bytes out : List ℕ) (r : Answer) {left : List ℕ} → too_long node_edition 0 (length bytes) ≡ false →
    length out ≡ node_bytes → Judged (hash_tests node_edition bytes 0 0 out) out (hashed node_edition bytes 0 0 out) (number_of r) left →
    IsOk r
hash-done bytes out r h long j =
    rw (number-injective r (Ok tt) (j.answer ∙ none-applies bytes out h (omega arith))) refl

pub hash-law : (bytes out : List ℕ) {n : ℕ} {left : List ℕ} → too_long node_edition 0 (length bytes) ≡ false → length out ≡ node_bytes →
    Judged (hash_tests node_edition bytes 0 0 out) out (hashed node_edition bytes 0 0 out) n left → left ≡ sha256 bytes
unfolding hashed sha256
hash-law bytes out h long j =
    j.leaves ∙ rw (none-applies bytes out h (omega arith)) (at_front-all (sha256 bytes) out (long ∙ sym (length-sha256 bytes)))

-- ---- the messages of a leaf and of a parent, in their buffers

-- a byte, and the bytes at the front of what follows it
pub leaf-message : (x : ℕ) (bytes room : List ℕ) {y : List ℕ} (n : ℕ) {end : ℕ} → length room ≡ n → y ≡ at_front bytes room →
    end ≡ min (length bytes) n → take (1 + end) (x ∷ (y ++ [])) ≡ x ∷ take n bytes
unfolding at_front
leaf-message x bytes room {y} n {end} long is_y is_end =
    let one : 1 + end ≡ suc end = omega arith in
    let size : length (take n bytes) ≡ end = length-take n bytes ∙ omega arith in
    ap (λ (k : ℕ). take k (x ∷ (y ++ []))) one
    ∙ ap (λ (l : List ℕ). x ∷ take end l)
    (append-nil y ∙ is_y ∙ ap (λ (k : ℕ). take k bytes ++ drop (length bytes) room) long)
    ∙ ap (λ (l : List ℕ). x ∷ l) (take_at (take n bytes) (drop (length bytes) room) end size)

-- a byte and two nodes, the second written behind the first: y and z are how the parts come back
abbrev pub behind : ℕ → List ℕ → List ℕ → List ℕ
behind x y z = x ∷ (take node_bytes (y ++ []) ++ (z ++ drop node_bytes (drop (1 + node_bytes) (x ∷ (y ++ [])))))

pub parent-message : (x : ℕ) (left right room : List ℕ) {y z : List ℕ} →
    length left ≡ node_bytes → length right ≡ node_bytes → length room ≡ pair_bytes → y ≡ at_front left room →
    z ≡ at_front right (take node_bytes (drop (1 + node_bytes) (x ∷ (y ++ [])))) →
    behind x y z ≡ x ∷ (left ++ right)
parent-message x left right room {y} {z} long_l long_r long is_y is_z =
    let w = drop node_bytes room in
    let rest : length w ≡ node_bytes = length-drop node_bytes room ∙ omega arith in
    let both : y ++ [] ≡ left ++ w =
    append-nil y ∙ is_y ∙ at_front-room left room (omega arith) ∙ ap (λ (k : ℕ). left ++ drop k room) long_l in
    let second : z ≡ right =
    is_z
    ∙ ap (λ (l : List ℕ). at_front right (take node_bytes (drop node_bytes l))) both
    ∙ ap (λ (l : List ℕ). at_front right (take node_bytes l)) (drop_at left w node_bytes long_l)
    ∙ at_front-all right (take node_bytes w) (length-take node_bytes w ∙ omega arith) in
    ap₂ (λ (l r : List ℕ). x ∷ (take node_bytes l ++ (r ++ drop node_bytes (drop node_bytes l)))) both second
    ∙ ap₂ (λ (l r : List ℕ). x ∷ (l ++ (right ++ drop node_bytes r))) (take_at left w node_bytes long_l) (drop_at left w node_bytes long_l)
    ∙ ap (λ (l : List ℕ). x ∷ (left ++ (right ++ l))) (drop_of_length-le w {i = node_bytes} (omega arith))
    ∙ ap (λ (l : List ℕ). x ∷ (left ++ l)) (append-nil right)
