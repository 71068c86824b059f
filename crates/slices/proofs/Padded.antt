-- Bytes with zeros behind them: how many, `length-padded`; with room for all, `padded-room`, and read back, `take-padded`, `drop-padded`; a
-- piece written behind bytes where zeros stand, `front-behind`; and that a buffer is padded which is zero behind its front, `zeros-padded`.
use Prim.Native.Nat.{ℕ, ◌+◌, ◌-◌, ◌≤◌}
use mathlib.Core.Bool.{true}
use mathlib.Core.List.{List, ◌++◌, append_assoc, append-nil}
use mathlib.Core.Path.{◌≡◌, sym, ap, ap₂, ◌∙◌}
use native.Mathlib.Omega.{arith}
use lib.Dec.{lit<}
use lib.ListN.{length, take, drop, replicate, length-append}
use lib.ListN.{length-replicate, length-take, length-drop, drop_of_length-le, take-append-drop}
use lib.Seq.{take_all, take_at, drop_at, take-append-add, take-append-le, take-take, length-take-le}
use Rattle.slices.specs.Below.{Bytes}
use Rattle.slices.specs.AtFront.{at_front}
use Rattle.slices.specs.Padded.{padded}
use Rattle.slices.specs.Tests.{all_zero}
use Rattle.slices.proofs.Below.{below-replicate}
use Rattle.slices.proofs.AtFront.{length-at_front, below-front, drop-copies}
use Rattle.slices.proofs.Tests.{all_zero-zeros, zeros-all_zero}

pub length-padded : (room : ℕ) (bs : List ℕ) → length (padded room bs) ≡ room
length-padded room bs = length-at_front bs (replicate room 0) ∙ length-replicate {A = ℕ} room 0

padded-zeros : (room : ℕ) (bs : List ℕ) → padded room bs ≡ take room bs ++ replicate (room - length bs) 0
unfolding at_front
padded-zeros room bs =
    ap₂ (λ (n : ℕ) (l : List ℕ). take n bs ++ l) (length-replicate {A = ℕ} room 0) (drop-copies (length bs) room 0)

pub padded-room : (room : ℕ) (bs : List ℕ) → length bs ≤ room → padded room bs ≡ bs ++ replicate (room - length bs) 0
padded-room room bs h = padded-zeros room bs ∙ ap (λ (l : List ℕ). l ++ replicate (room - length bs) 0) (take_all room bs h)

pub take-padded : (room : ℕ) (bs : List ℕ) (n : ℕ) → n ≤ room → length bs ≡ n → take n (padded room bs) ≡ bs
take-padded room bs n h e = ap (take n) (padded-room room bs (omega arith)) ∙ take_at bs (replicate (room - length bs) 0) n e

-- the front of what was padded, whether it had room or not
pub front-padded : (room : ℕ) (bs : List ℕ) (m : ℕ) → m ≤ room → m ≤ length bs → take m (padded room bs) ≡ take m bs
front-padded room bs m h k =
    ap (take m) (padded-zeros room bs)
    ∙ take-append-le m (take room bs) (replicate (room - length bs) 0) (rw (length-take room bs) (omega arith))
    ∙ take-take m room bs h

pub drop-padded : (room : ℕ) (bs : List ℕ) (n : ℕ) → n ≤ room → length bs ≡ n → drop n (padded room bs) ≡ replicate (room - n) 0
drop-padded room bs n h e =
    ap (drop n) (padded-room room bs (omega arith)) ∙ drop_at bs (replicate (room - length bs) 0) n e
    ∙ ap (λ (m : ℕ). replicate (room - m) 0) e

-- a piece written behind the first n bytes, where zeros stand
pub front-behind : (size n : ℕ) (tail piece mid : List ℕ) → n ≤ size → length tail ≡ size → drop n tail ≡ replicate (size - n) 0 →
    mid ≡ at_front piece (take (size - n) (drop n tail)) →
    take n tail ++ (mid ++ drop (size - n) (drop n tail)) ≡ padded size (take n tail ++ piece)
front-behind size n tail piece mid h long zeros is_mid =
    let p = take n tail in
    let z = replicate {A = ℕ} (size - n) 0 in
    let lz : length z ≡ size - n = length-replicate {A = ℕ} (size - n) 0 in
    let lp : length p ≡ n = length-take-le n tail (omega arith) in
    let whole : size ≡ length p + (size - n) = omega arith in
    let left : size - n - length piece ≡ size - length (p ++ piece) = rw (length-append p piece, lp) (omega arith) in
    rw (is_mid, zeros, take_all (size - n) z (omega arith), drop_of_length-le z {i = size - n} (omega arith), append-nil)
    (ap (λ (l : List ℕ). p ++ l) (padded-zeros (size - n) piece)
    ∙ sym (append_assoc p (take (size - n) piece) (replicate (size - n - length piece) 0))
    ∙ ap₂ (λ (l : List ℕ) (m : ℕ). l ++ replicate m 0)
    (sym (ap (λ (m : ℕ). take m (p ++ piece)) whole ∙ take-append-add p piece (size - n))) left
    ∙ sym (padded-zeros size (p ++ piece)))

-- ---- zeros behind the first n, as a test

pub zeros-behind : (n : ℕ) (buffer : List ℕ) → all_zero (drop n buffer) ≡ true → drop n buffer ≡ replicate (length buffer - n) 0
zeros-behind n buffer clear = all_zero-zeros (drop n buffer) clear ∙ ap (λ (m : ℕ). replicate m 0) (length-drop n buffer)

pub zeros-padded : (room n : ℕ) (buffer : List ℕ) → length buffer ≡ room → n ≤ room → all_zero (drop n buffer) ≡ true →
    buffer ≡ padded room (take n buffer)
zeros-padded room n buffer long h clear =
    let front : length (take n buffer) ≡ n = length-take-le n buffer (omega arith) in
    let behind : length buffer - n ≡ room - length (take n buffer) = omega arith in
    sym (take-append-drop n buffer)
    ∙ ap (λ (l : List ℕ). take n buffer ++ l) (zeros-behind n buffer clear ∙ ap (λ (m : ℕ). replicate m 0) behind)
    ∙ sym (padded-room room (take n buffer) (omega arith))

pub padded-clear : (room n : ℕ) (bs : List ℕ) → length bs ≡ n → n ≤ room → all_zero (drop n (padded room bs)) ≡ true
padded-clear room n bs e h = ap all_zero (drop-padded room bs n h e) ∙ zeros-all_zero (room - n)

-- ---- bytes stay bytes

pub padded-bytes : (room : ℕ) (bs : List ℕ) → Bytes bs → Bytes (padded room bs)
padded-bytes room bs h = below-front bs (replicate room 0) h (below-replicate room (lit< tt))
