-- The byte form is the bit form: SPEC, "Padding". Main: `digest-bytes`, for every list of bytes, closing byte and count of closing bits.
use Prim.Native.Nat.{ℕ, zero, suc, ◌+◌, ◌-◌, ◌*◌, ◌/◌, ◌%◌, ◌^◌, ◌≤◌, ◌<◌}
use mathlib.Core.Bool.{Bool, true, false}
use mathlib.Core.List.{List, ◌∷◌, ◌++◌, map, append_assoc}
use mathlib.Core.Path.{◌≡◌, refl, sym, ap, ap₂, subst, ◌∙◌}
use native.Mathlib.Nat.{mul-div-mul_left, mul-div_cancel, mul-mod_left, mul_comm, mod-eq_of_lt, le_of_lt, lt-suc_self}
use native.Mathlib.Nat.{zero-add}
use native.Mathlib.Omega.{arith}
use lib.Arith.{digits_lt, mod-mul}
use lib.ListN.{length, take, drop, replicate, length-append, length-take, replicate-append-replicate}
use lib.Pow.{pow-add, pow-lt, shr_lt}
use Rattle.bigendian.specs.BigEndian.{be}
use Rattle.slices.specs.Below.{Bytes}
use Rattle.bigendian.specs.Words.{to_words, from_words}
use Rattle.slices.proofs.Below.{below-take, below-drop, below-append, below-cons, below-replicate}
use Rattle.bigendian.proofs.BigEndian.{be-bytes}
use Rattle.fips.specs.Bits.{bits, value, bits_of, pieces}
use Rattle.fips.specs.Words.{Width, word, block_bytes}
use Rattle.fips.specs.Padding.{zeros, pad, parse}
use Rattle.fips.specs.Constants.{chain, hash_from}
use Rattle.fips.specs.Editions.{width, digest_bytes, start, digest}
use Rattle.fips.specs.Message.{message}
use Rattle.fips.specs.Code.ByteForm.{closing_byte, ending, parse_bytes, hash_bytes, digest_of_bytes}
use Rattle.fips.proofs.Bits.{length-bits, length-bits_of, bits_of-append, bits_of-zeros, bits_of-be, bits-closed, take-bits_of}
use Rattle.fips.proofs.Bits.{drop-bits_of, words-bits_of}
use Rattle.fips.proofs.Editions.{width_some}
use Rattle.fips.proofs.Padding.{zeros-lt, zeros-reach, zeros_of}

-- ---- the message

pub length-message : (bytes : List ℕ) (x b : ℕ) → b ≤ 8 → length (message bytes x b) ≡ 8 * length bytes + b
unfolding message
length-message bytes x b h =
    rw (length-append (bits_of bytes) (take b (bits 8 x)), length-bits_of bytes, length-take b (bits 8 x), length-bits 8 x) (omega arith)

-- ---- padding

-- the closing byte is its upper b bits, the 1 bit, and as many zeros as fill it
module _ (b : ℕ) (h : b < 8) where
  eight : b + suc (7 - b) ≡ 8
  eight = omega arith

  below : 8 - b ≡ suc (7 - b)
  below = omega arith

  bits-closing : (x : ℕ) → bits 8 (closing_byte x b) ≡ take b (bits 8 x) ++ (true ∷ replicate (7 - b) false)
  bits-closing x =
      let k = 7 - b in
      rw below
      (subst (λ (n : ℕ). bits n (x / 2 ^ suc k * 2 ^ suc k + 2 ^ k) ≡ take b (bits n x) ++ (true ∷ replicate k false)) eight
      (bits-closed b k x))

  pub closing-lt : (x : ℕ) → x < 256 → closing_byte x b < 256
  closing-lt x small =
      let k = 7 - b in
      let q : x / 2 ^ suc k < 2 ^ b = shr_lt b (suc k) (subst (λ (n : ℕ). x < 2 ^ n) (sym eight) small) in
      rw below
      (subst (λ (n : ℕ). x / 2 ^ suc k * 2 ^ suc k + 2 ^ k < n) (sym (pow-add 2 b (suc k)) ∙ ap (λ (n : ℕ). 2 ^ n) eight)
      (digits_lt q (pow-lt (lt-suc_self k))))

-- the zero bits are those that fill the closing byte, and the zero bytes
scaled-mod : (a m : ℕ) → 0 < m → 8 * a % (8 * m) ≡ 8 * (a % m)
scaled-mod a m some =
    ap₂ (λ (x y : ℕ). x % y) (mul_comm 8 a) (mul_comm 8 m)
    ∙ mod-mul (a * 8) some (omega arith)
    ∙ ap₂ (λ (x y : ℕ). x % m * 8 + y) (mul-div_cancel a (omega arith)) (mul-mod_left a 8)
    ∙ omega arith

zeros-bytes : (w c b : ℕ) → 0 < w → b < 8 → zeros (8 * w) (8 * c + b) ≡ 7 - b + 8 * zeros w c
zeros-bytes w c b some h =
    let z = zeros w c in
    let k = 7 - b + 8 * z in
    let small = zeros-lt w c some in
    let sum : 8 * c + b + 1 + k ≡ 8 * (c + 1 + z) = omega arith in
    let turn : 16 * (8 * w) ≡ 8 * (16 * w) = omega arith in
    let reach : (8 * c + b + 1 + k) % (16 * (8 * w)) ≡ 14 * (8 * w) =
    ap₂ (λ (x y : ℕ). x % y) sum turn
    ∙ scaled-mod (c + 1 + z) (16 * w) (omega arith)
    ∙ ap (λ (n : ℕ). 8 * n) (zeros-reach w c some)
    ∙ omega arith
    in
    sym (zeros_of (8 * w) (8 * c + b) (omega arith) k reach) ∙ mod-eq_of_lt (omega arith)

join : (A T R S L : List Bool) → A ++ T ++ (true ∷ (R ++ S)) ++ L ≡ A ++ ((T ++ (true ∷ R)) ++ S ++ L)
join A T R S L = simp append_assoc

-- what follows bytes that stand behind `before` others: the upper b bits, the 1 bit, the zeros, and the length of all
module _ (p : Width) (some : 0 < p.bytes) (before : ℕ) (bytes : List ℕ) (x b : ℕ) (h : b < 8) where
  abbrev whole : ℕ
  whole = 8 * before + length (message bytes x b)

  pub behind-bytes : message bytes x b ++ (true ∷ replicate (zeros (word p) whole) false) ++ bits (2 * word p) whole
      ≡ bits_of (bytes ++ ending p (before + length bytes) x b)
  unfolding message ending bits_of
  behind-bytes =
      let c = before + length bytes in
      let z = zeros p.bytes c in
      let l = 8 * c + b in
      let closing = closing_byte x b ∷ replicate z 0 in
      let long : whole ≡ l = omega (arith, length-message bytes x b (le_of_lt h)) in
      let count : zeros (word p) whole ≡ 7 - b + 8 * z =
      ap (zeros (word p)) long ∙ zeros-bytes p.bytes c b some h
      in
      let fill = ap (λ (n : ℕ). replicate n false) count ∙ sym (replicate-append-replicate (7 - b) (8 * z) false) in
      let twice : 2 * word p ≡ 8 * (2 * p.bytes) = omega arith in
      ap₂ (λ (f t : List Bool). bits_of bytes ++ take b (bits 8 x) ++ (true ∷ f) ++ t) fill
      (ap₂ bits twice long ∙ sym (bits_of-be (2 * p.bytes) l))
      ∙ join (bits_of bytes) (take b (bits 8 x)) (replicate (7 - b) false) (replicate (8 * z) false) (bits_of (be (2 * p.bytes) l))
      ∙ sym
      (bits_of-append bytes (closing ++ be (2 * p.bytes) l)
      ∙ ap (λ (m : List Bool). bits_of bytes ++ m)
      (bits_of-append closing (be (2 * p.bytes) l)
      ∙ ap₂ (λ (m n : List Bool). m ++ n ++ bits_of (be (2 * p.bytes) l)) (bits-closing b h x) (bits_of-zeros z)))

-- so a whole message is padded: nothing stands before it
pub pad-bytes : (p : Width) → 0 < p.bytes → (bytes : List ℕ) (x b : ℕ) → b < 8 →
    pad p (message bytes x b) ≡ bits_of (bytes ++ ending p (length bytes) x b)
unfolding pad
pad-bytes p some bytes x b h =
    let m : List Bool = message bytes x b in
    ap (λ (l : ℕ). m ++ (true ∷ replicate (zeros (word p) l) false) ++ bits (2 * word p) l) (sym (zero-add (length m)))
    ∙ behind-bytes p some 0 bytes x b h
    ∙ ap (λ (c : ℕ). bits_of (bytes ++ ending p c x b)) (zero-add (length bytes))

-- ---- parsing

blocks-bits_of : (p : Width) (k : ℕ) (bytes : List ℕ) → Bytes bytes →
    map (λ m. map value (pieces (word p) 16 m)) (pieces (8 * block_bytes p) k (bits_of bytes))
    ≡ map (to_words 16 p.bytes) (pieces (block_bytes p) k bytes)
unfolding pieces
blocks-bits_of p zero bytes h = refl
blocks-bits_of p (suc k) bytes h =
    let n = block_bytes p in
    ap₂ (λ (a : List ℕ) (l : List (List ℕ)). a ∷ l)
    (ap (λ (m : List Bool). map value (pieces (word p) 16 m)) (take-bits_of n bytes)
    ∙ words-bits_of p.bytes 16 (take n bytes) (below-take n bytes h))
    (ap (λ (m : List Bool). map (λ (a : List Bool). map value (pieces (word p) 16 a)) (pieces (8 * n) k m)) (drop-bits_of n bytes)
    ∙ blocks-bits_of p k (drop n bytes) (below-drop n bytes h))

pub parse-bytes : (p : Width) (bytes : List ℕ) → Bytes bytes → parse p (bits_of bytes) ≡ parse_bytes p bytes
unfolding parse parse_bytes
parse-bytes p bytes h =
    let n = block_bytes p in
    let size : 16 * word p ≡ 8 * n = omega arith in
    let count : length (bits_of bytes) / (8 * n) ≡ length bytes / n =
    ap (λ (l : ℕ). l / (8 * n)) (length-bits_of bytes) ∙ mul-div-mul_left (length bytes) n (omega arith)
    in
    rw (size, count) (blocks-bits_of p (length bytes / n) bytes h)

-- ---- the digest

pub ending-bytes : (p : Width) (c x b : ℕ) → x < 256 → b < 8 → Bytes (ending p c x b)
unfolding ending
ending-bytes p c x b small h =
    let z = zeros p.bytes c in
    let l = 8 * c + b in
    below-append (closing_byte x b ∷ replicate z 0) (be (2 * p.bytes) l)
    (below-cons (replicate z 0) (closing-lt b h x small) (below-replicate z (omega arith)))
    (be-bytes (2 * p.bytes) l)

pub hash-bytes : (p : Width) → 0 < p.bytes → (H bytes : List ℕ) (x b : ℕ) → Bytes bytes → x < 256 → b < 8 →
    hash_from p H (message bytes x b) ≡ hash_bytes p H bytes x b
unfolding hash_from hash_bytes
hash-bytes p some H bytes x b all small h =
    let c = length bytes in
    ap (chain p H)
    (ap (parse p) (pad-bytes p some bytes x b h)
    ∙ parse-bytes p (bytes ++ ending p c x b) (below-append bytes (ending p c x b) all (ending-bytes p c x b small h)))

pub digest-bytes : (e : ℕ) (bytes : List ℕ) (x b : ℕ) → Bytes bytes → x < 256 → b < 8 →
    digest e (message bytes x b) ≡ digest_of_bytes e bytes x b
unfolding digest digest_of_bytes
digest-bytes e bytes x b all small h =
    ap (λ (ws : List ℕ). take (digest_bytes e) (from_words (width e).bytes ws))
    (hash-bytes (width e) (width_some e) (start e) bytes x b all small h)
