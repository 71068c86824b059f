-- Words and the functions on them: FIPS 180-4 §2.2.2, §3.2, §4.1.2 and §4.1.3, over one record of the width.
-- A word is a number below 2^w. `w32` and `w64` are the two widths of the standard.
use Rattle.std.specs.Prelude.{ℕ, ◌+◌, ◌-◌, ◌*◌, ◌/◌, ◌%◌, ◌^◌}
use Rattle.std.specs.Int.Bits.{bit_and, bit_or, bit_xor}

-- the three amounts of a Σ or σ
pub record Amounts : Type 0 where
  pub first : ℕ
  pub second : ℕ
  pub third : ℕ

abbrev pub by : ℕ → ℕ → ℕ → Amounts
by a b c = record { first = a; second = b; third = c }

pub record Width : Type 0 where
  pub bytes : ℕ
  pub rounds : ℕ
  pub Σ0 : Amounts
  pub Σ1 : Amounts
  pub σ0 : Amounts
  pub σ1 : Amounts

-- §4.1.2, and §6.2's 64 rounds
abbrev pub w32 : Width
w32 =
    record {
      bytes = 4;
      rounds = 64;
      Σ0 = by 2 13 22;
      Σ1 = by 6 11 25;
      σ0 = by 7 18 3;
      σ1 = by 17 19 10;
    }

-- §4.1.3, and §6.4's 80 rounds
abbrev pub w64 : Width
w64 =
    record {
      bytes = 8;
      rounds = 80;
      Σ0 = by 28 34 39;
      Σ1 = by 14 18 41;
      σ0 = by 1 8 7;
      σ1 = by 19 61 6;
    }

module _ (p : Width) where
  -- w, the bits of a word
  abbrev pub word : ℕ
  word = 8 * p.bytes

  -- the bytes of a block, which is sixteen words
  abbrev pub block_bytes : ℕ
  block_bytes = 16 * p.bytes

  -- §3.2: addition modulo 2^w, the complement, SHR and ROTR
  abbrev pub add : ℕ → ℕ → ℕ
  add x y = (x + y) % 2 ^ word

  abbrev pub complement : ℕ → ℕ
  complement x = 2 ^ word - 1 - x

  abbrev pub shr : ℕ → ℕ → ℕ
  shr n x = x / 2 ^ n

  abbrev pub rotr : ℕ → ℕ → ℕ
  rotr n x = bit_or (x / 2 ^ n) (x * 2 ^ (word - n) % 2 ^ word)

  -- §4.1.2 and §4.1.3
  abbrev pub ch : ℕ → ℕ → ℕ → ℕ
  ch x y z = bit_xor (bit_and x y) (bit_and (complement x) z)

  abbrev pub maj : ℕ → ℕ → ℕ → ℕ
  maj x y z = bit_xor (bit_xor (bit_and x y) (bit_and x z)) (bit_and y z)

  -- two rotations and a third, or two rotations and a shift
  abbrev pub turned : Amounts → ℕ → ℕ
  turned n x = bit_xor (bit_xor (rotr n.first x) (rotr n.second x)) (rotr n.third x)

  abbrev pub shifted : Amounts → ℕ → ℕ
  shifted n x = bit_xor (bit_xor (rotr n.first x) (rotr n.second x)) (shr n.third x)

  abbrev pub big0 : ℕ → ℕ
  big0 = turned p.Σ0

  abbrev pub big1 : ℕ → ℕ
  big1 = turned p.Σ1

  abbrev pub small0 : ℕ → ℕ
  small0 = shifted p.σ0

  abbrev pub small1 : ℕ → ℕ
  small1 = shifted p.σ1
