-- The last bytes of a message, as `finish` makes them: laws of `last_bytes`, and of the buffer of two blocks that holds them.
use Prim.Native.Nat.{ℕ, suc, ◌+◌, ◌-◌, ◌*◌, ◌≤◌, ◌<◌}
use mathlib.Core.Bool.{Bool}
use mathlib.Core.List.{List, ◌∷◌, ◌++◌}
use mathlib.Core.Path.{◌≡◌, refl, sym, ap, ap₂, ◌∙◌}
use native.Mathlib.Decide.{dec_le}
use native.Mathlib.Nat.{lt_of_not-le}
use native.Mathlib.Omega.{arith}
use lib.ListN.{length, take, drop, set, replicate, length-append, length-replicate}
use lib.Seq.{take_all, take-append-add, set_at, take_at}
use Rattle.bigendian.specs.BigEndian.{be}
use Rattle.bigendian.proofs.BigEndian.{length-be}
use Rattle.fips.specs.Words.{Width, block_bytes}
use Rattle.fips.specs.Padding.{zeros}
use Rattle.fips.specs.Code.ByteForm.{closing_byte}
use Rattle.fips.proofs.Padding.{zeros-one, zeros-two}
use Rattle.slices.specs.AtFront.{at_front}
use Rattle.fips.specs.Sizes.{width_of}
use Rattle.dwsha2.specs.Code.Hashing.{last_bytes, last_length}
use Rattle.slices.proofs.AtFront.{at_front-room, drop-copies, take-copies, at_front-all}
use Rattle.dwsha2.proofs.Length.{be-low}
use Rattle.fips.proofs.Sizes.{thin-bytes}

-- ---- the buffer

-- the tail and a byte in a buffer of zeros
pub tail-and-byte : (size : ℕ) (tail : List ℕ) (x : ℕ) → length tail ≤ size →
    set (at_front tail (replicate (suc size) 0)) (length tail) x ≡ tail ++ (x ∷ replicate (size - length tail) 0)
tail-and-byte size tail x h =
    let n = length tail in
    let room : length tail ≤ length {A = ℕ} (replicate (suc size) 0) = rw (length-replicate {A = ℕ} (suc size) 0) (omega arith) in
    let left : suc size - n ≡ suc (size - n) = omega arith in
    ap (λ (l : List ℕ). set l n x)
    (at_front-room tail (replicate (suc size) 0) room
    ∙ ap (λ (l : List ℕ). tail ++ l) (drop-copies n (suc size) 0 ∙ ap (λ (k : ℕ). replicate k 0) left))
    ∙ set_at tail 0 (replicate (size - n) 0) x n refl

-- the length, put into its place behind the zero bytes; nothing before it is touched
placed : (tail f rest : List ℕ) (x z m : ℕ) → z ≤ m →
    take (length tail + suc z + length f) (take (length tail + suc z) (tail ++ (x ∷ replicate m 0)) ++ (f ++ rest))
    ≡ tail ++ (x ∷ replicate z 0) ++ f
placed tail f rest x z m h =
    let P = tail ++ (x ∷ replicate z 0) in
    let front : take (length tail + suc z) (tail ++ (x ∷ replicate m 0)) ≡ P =
    take-append-add tail (x ∷ replicate m 0) (suc z) ∙ ap (λ (l : List ℕ). tail ++ (x ∷ l)) (take-copies z m 0 h)
    in
    let long : length tail + suc z ≡ length P =
    sym (length-append tail (x ∷ replicate z 0) ∙ ap (λ (n : ℕ). length tail + suc n) (length-replicate z 0))
    in
    ap₂ (λ (n : ℕ) (l : List ℕ). take (n + length f) (l ++ (f ++ rest))) long front
    ∙ take-append-add P (f ++ rest) (length f)
    ∙ ap (λ (l : List ℕ). P ++ l) (take_at f rest (length f) refl)

-- the last bytes fill one block or two
pub last_one : (p : Width) (n : ℕ) → n + 1 + 2 * p.bytes ≤ block_bytes p → last_length p n ≡ block_bytes p
last_one p n h = zeros-one p.bytes n h

pub last-two : (p : Width) (n : ℕ) → n < block_bytes p → block_bytes p < n + 1 + 2 * p.bytes → last_length p n ≡ 2 * block_bytes p
last-two p n h k = zeros-two p.bytes n h k

-- the buffer with the length in its place holds the last bytes
pub last-law : (p : Width) (c : ℕ) (tail : List ℕ) (x b : ℕ) (buffer field rest : List ℕ) (start : ℕ) →
    buffer ≡ tail ++ (closing_byte x b ∷ replicate (255 - length tail) 0) →
    field ≡ be (2 * p.bytes) (8 * c + b) →
    start + 2 * p.bytes ≡ last_length p (length tail) →
    last_length p (length tail) ≤ 256 →
    take (last_length p (length tail)) (take start buffer ++ (field ++ rest)) ≡ last_bytes p c tail x b
unfolding last_bytes
last-law p c tail x b buffer field rest start is_buffer is_field is_start room =
    let n = length tail in
    let z = zeros p.bytes n in
    let f = be (2 * p.bytes) (8 * c + b) in
    let size : length f ≡ 2 * p.bytes = length-be (2 * p.bytes) (8 * c + b) in
    let from : start ≡ n + suc z = omega arith in
    let to : last_length p n ≡ n + suc z + length f = omega arith in
    rw (is_buffer, is_field, from, to) (placed tail f rest (closing_byte x b) z (255 - n) (omega arith))

pub last-room : (t : Bool) (n : ℕ) → n < block_bytes (width_of t) → last_length (width_of t) n ≤ 256
last-room t n h = go (dec_le (n + 1 + 2 * (width_of t).bytes) (block_bytes (width_of t)))
  where
    go : Dec (n + 1 + 2 * (width_of t).bytes ≤ block_bytes (width_of t)) → last_length (width_of t) n ≤ 256
    go (yes k) = omega (arith, last_one (width_of t) n k, thin-bytes t)
    go (no k) = omega (arith, last-two (width_of t) n h (lt_of_not-le k), thin-bytes t)

-- the lower bytes of a 16-byte length, written over a part of their size
pub field-law : (p : Width) (l : ℕ) {field mid : List ℕ} (part : List ℕ) (skip k : ℕ) →
    mid ≡ at_front (take k (drop skip field)) part → field ≡ be 16 l → skip + 2 * p.bytes ≡ 16 → k ≡ 16 - skip →
    length part ≡ 2 * p.bytes →
    mid ≡ be (2 * p.bytes) l
field-law p l part skip k is_mid is_field is_skip is_size long =
    let n = 2 * p.bytes in
    let low : drop skip (be 16 l) ≡ be n l = ap (λ (m : ℕ). drop skip (be m l)) (sym is_skip) ∙ be-low skip n l in
    let size : length (be n l) ≡ n = length-be n l in
    is_mid
    ∙ rw (is_field, low, take_all k (be n l) (omega arith)) (at_front-all (be n l) part (omega arith))
