-- The saved record by its rules: SPEC, "The saved record", its table line by line and what stands under it. Numbers are read where they
-- stand in the bytes. `Rules`: what makes bytes a record of a form; `Lengths`: how long the records of an edition are.
use Rattle.std.specs.Prelude.{ℕ, ◌+◌, ◌-◌, ◌*◌, ◌%◌, ◌≤◌, true, List, ◌≡◌, length, get_or}
use Rattle.slices.specs.Below.{Bytes}
use Rattle.bigendian.specs.Rows.{field_in}
use Rattle.fips.specs.Words.{block_bytes}
use Rattle.fips.specs.Editions.{width}
use Rattle.halfread.specs.FiveRules.{FiveRules}
use Rattle.records.specs.Record.{Form, word_count, number_bytes, edition_at, word_count_at, words_field_at, tail_field_at, count_at}
use Rattle.records.specs.Record.{tail_length_at, whole_length_at, zeros_at, words_at, tail_at, is_record_in}

-- the edition that bytes tell of
abbrev pub edition_told : List ℕ → ℕ
edition_told bytes = field_in bytes edition_at number_bytes

module _ (f : Form) (bytes : List ℕ) where
  -- the bytes taken, c, and how many of them are left after whole blocks, c mod B
  abbrev pub count_told : ℕ
  count_told = field_in bytes count_at f.count_bytes

  abbrev pub left_in : ℕ
  left_in = count_told % block_bytes (width (edition_told bytes))

  -- chaining word j, w/8 bytes of the record
  abbrev pub chain_in : ℕ → ℕ
  chain_in j = let n : ℕ = (width (edition_told bytes)).bytes in field_in bytes (words_at f + j * n) n

  -- byte k of the tail; behind the last byte of the record there are zeros
  abbrev pub tail_in : ℕ → ℕ
  tail_in k = get_or bytes (tail_at f (edition_told bytes) + k) 0

  -- the lines of the table but edition and count, which the rules below ask: count of words, words at, tail at, tail length, whole
  -- length, spare; then what is lent, words and tail
  pub record Rules : Type 0 where
    pub counted : field_in bytes word_count_at number_bytes ≡ word_count
    pub words_from : field_in bytes words_field_at number_bytes ≡ words_at f
    pub tail_from : field_in bytes tail_field_at number_bytes ≡ tail_at f (edition_told bytes)
    pub tail_long : field_in bytes (tail_length_at f) number_bytes ≡ left_in
    pub whole_long : field_in bytes (whole_length_at f) number_bytes ≡ tail_at f (edition_told bytes) + left_in
    pub zeros : field_in bytes (zeros_at f) f.zero_bytes ≡ 0
    -- as many bytes are lent as the whole length says
    pub lent : length bytes ≡ field_in bytes (whole_length_at f) number_bytes
    -- what they tell of keeps the five rules of a sound, taken bay: edition, length, words, tail, start
    pub keeps : FiveRules (edition_told bytes) count_told chain_in tail_in

-- the longest record of an edition, whose tail wants one byte of a block
abbrev pub longest_of : Form → ℕ → ℕ
longest_of f e = tail_at f e + block_bytes (width e) - 1

-- records of an edition have from `least` to `most` bytes, and each length between is that of one
pub record Lengths (f : Form) (e least most : ℕ) : Type 0 where
  pub within : (bytes : List ℕ) → is_record_in f bytes ≡ true → edition_told bytes ≡ e → (least ≤ length bytes) × (length bytes ≤ most)
  pub met : (n : ℕ) → least ≤ n → n ≤ most →
      (bytes : List ℕ) × Bytes bytes × (is_record_in f bytes ≡ true) × (edition_told bytes ≡ e) × (length bytes ≡ n)
