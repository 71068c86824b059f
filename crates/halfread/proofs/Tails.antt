-- A tail: bytes with zeros behind them. Laws of `padded` and `pending`.
use Prim.Native.Nat.{ℕ, zero, suc, ◌-◌, ◌≤◌}
use mathlib.Core.List.{List, [], ◌∷◌, ◌++◌}
use mathlib.Core.Path.{◌≡◌, refl, ap, ◌∙◌}
use native.Mathlib.Omega.{arith}
use lib.ListN.{length, get_or, take, drop, replicate}
use lib.Seq.{length-take-le}
use Rattle.slices.specs.Below.{Bytes}
use Rattle.slices.proofs.Padded as room
use Rattle.halfread.specs.declared.HalfRead.{HalfRead}
use Rattle.halfread.specs.State.{tail_length, pending, padded, tail_room}
use Rattle.halfread.proofs.Rules.{tail_within}

-- ---- the laws of padded bytes, at the room of a tail

pub length-padded : (bs : List ℕ) → length (padded bs) ≡ tail_room
length-padded bs = room.length-padded tail_room bs

pub padded-room : (bs : List ℕ) → length bs ≤ tail_room → padded bs ≡ bs ++ replicate (tail_room - length bs) 0
padded-room bs h = room.padded-room tail_room bs h

pub take-padded : (bs : List ℕ) (n : ℕ) → n ≤ tail_room → length bs ≡ n → take n (padded bs) ≡ bs
take-padded bs n h e = room.take-padded tail_room bs n h e

pub drop-padded : (bs : List ℕ) (n : ℕ) → n ≤ tail_room → length bs ≡ n → drop n (padded bs) ≡ replicate (tail_room - n) 0
drop-padded bs n h e = room.drop-padded tail_room bs n h e

-- past its bytes a tail has what a list has past its end: 0
zeros-read : (n k : ℕ) → get_or (replicate {A = ℕ} n 0) k 0 ≡ 0
zeros-read zero k = refl
zeros-read (suc n) zero = refl
zeros-read (suc n) (suc k) = zeros-read n k

get_or-zeros : (bs : List ℕ) (n k : ℕ) → get_or (bs ++ replicate n 0) k 0 ≡ get_or bs k 0
get_or-zeros [] n k = zeros-read n k
get_or-zeros (b ∷ bs) n zero = refl
get_or-zeros (b ∷ bs) n (suc k) = get_or-zeros bs n k

pub get_or-padded : (bs : List ℕ) → length bs ≤ tail_room → (k : ℕ) → get_or (padded bs) k 0 ≡ get_or bs k 0
get_or-padded bs h k = ap (λ (l : List ℕ). get_or l k 0) (padded-room bs h) ∙ get_or-zeros bs (tail_room - length bs) k

pub padded-bytes : (bs : List ℕ) → Bytes bs → Bytes (padded bs)
padded-bytes bs h = room.padded-bytes tail_room bs h

pub length-pending : (h : HalfRead) → length h.tail ≡ tail_room → length (pending h) ≡ tail_length h
length-pending h e = length-take-le (tail_length h) h.tail (omega (arith, tail_within h))
