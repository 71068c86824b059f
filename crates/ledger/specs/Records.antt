-- The saved record as the plain ledger has it: SPEC, "The saved record". `record_bytes` are its bytes, of an edition, a length, the
-- chaining
-- words and a tail; `loads` says which bytes load. That the calls write and take the same is part of the theorem `ledger`.
use Rattle.std.specs.Prelude.{ℕ, ◌+◌, ◌*◌, ◌%◌, Bool, not, ◌||◌, List, [], ◌∷◌, ◌++◌, leb, eqb, length, take, drop}
use Rattle.slices.specs.Tests.{holds, same}
use Rattle.bigendian.specs.BigEndian.{be, number}
use Rattle.bigendian.specs.Words.{from_words, to_words}
use Rattle.fips.specs.Words.{block_bytes}
use Rattle.fips.specs.Editions.{known, width, start}
use Rattle.dwsha2.specs.Limit.{too_long}

-- where the tail begins: behind the 24 bytes of the header and the eight words
abbrev pub tail_place : ℕ → ℕ
tail_place e = 24 + 8 * (width e).bytes

-- the edition, 8 words, from 24 on, and where the tail begins; the length, that of the tail and that of the record; zeros; words and tail
unfoldable pub record_bytes : ℕ → ℕ → List ℕ → List ℕ → List ℕ
record_bytes e n words tail =
    be 2 e ++ be 2 8 ++ be 2 24 ++ be 2 (tail_place e) ++ be 8 n ++ be 2 (length tail) ++ be 2 (tail_place e + length tail) ++ be 4 0
    ++ from_words (width e).bytes words ++ tail

-- what stands in bytes at those places
module _ (bytes : List ℕ) where
  abbrev pub read_edition : ℕ
  read_edition = number (take 2 bytes)

  abbrev pub read_length : ℕ
  read_length = number (take 8 (drop 8 bytes))

  abbrev pub read_words : List ℕ
  read_words = to_words 8 (width read_edition).bytes (drop 24 bytes)

  abbrev pub read_tail : List ℕ
  read_tail = drop (tail_place read_edition) bytes

  abbrev read_block : ℕ
  read_block = block_bytes (width read_edition)

  -- an edition; a length within the limit; a tail of what is left after whole blocks; the edition's starting words where no block is
  -- taken; and every byte as the record of these has it
  unfoldable pub loads : Bool
  loads =
      holds
      (known read_edition
      ∷ not (too_long read_edition read_length 0)
      ∷ eqb (length read_tail) (read_length % read_block)
      ∷ (leb read_block read_length || same read_words (start read_edition))
      ∷ same (record_bytes read_edition read_length read_words read_tail) bytes
      ∷ [])
