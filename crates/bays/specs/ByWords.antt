-- The table word by word: SPEC, "The table of bays". `TableRules`: what makes a run a table. `Laid`: what a layout leaves. `ByWords`: which
-- words of a bay tell what of a half-read message. `TakenRules`: the rules of a taken bay, asked of its words.
use Rattle.std.specs.Prelude.{ℕ, ◌+◌, ◌-◌, ◌/◌, ◌%◌, ◌^◌, ◌≤◌, ◌<◌, List, ◌≡◌, length, get_or}
use Rattle.halfread.specs.declared.HalfRead.{HalfRead}
use Rattle.halfread.specs.State.{tail_room}
use Rattle.halfread.specs.FiveRules.{FiveRules}
use Rattle.bays.specs.Places.{bays_word, first_word, size_word, zero_word, first_bay, most_bays, bay_words, place_of}
use Rattle.bays.specs.Places.{edition_word, count_word, chain_from, chain_words, tail_from}

-- the first four words, and as many behind them as they say
pub record TableRules (t : List ℕ) : Type 0 where
  pub some : 1 ≤ get_or t bays_word 0
  pub few : get_or t bays_word 0 ≤ most_bays
  pub first : get_or t first_word 0 ≡ first_bay
  pub size : get_or t size_word 0 ≡ bay_words
  pub spare : get_or t zero_word 0 ≡ 0
  pub long : place_of (get_or t bays_word 0) ≤ length t

-- t laid out for n bays as `new`
pub record Laid (n : ℕ) (t new : List ℕ) : Type 0 where
  pub count : get_or new bays_word 0 ≡ n
  pub first : get_or new first_word 0 ≡ first_bay
  pub size : get_or new size_word 0 ≡ bay_words
  pub spare : get_or new zero_word 0 ≡ 0
  -- word j of bay i
  pub empty : (i j : ℕ) → i < n → j < bay_words → get_or new (place_of i + j) 0 ≡ 0
  -- the caller's words
  pub callers : (k : ℕ) → place_of n ≤ k → get_or new k 0 ≡ get_or t k 0
  pub long : length new ≡ length t

-- word j of bay i of a table
abbrev pub word_at : List ℕ → ℕ → ℕ → ℕ
word_at t i j = get_or t (place_of i + j) 0

-- the byte at i of a word, 0 its most significant and 7 its least
abbrev pub byte_of_word : ℕ → ℕ → ℕ
byte_of_word x i = x / 256 ^ (7 - i) % 256

-- of a bay whose word j is `bay j`
module _ (bay : ℕ → ℕ) where
  -- byte k of its tail
  abbrev pub tail_byte : ℕ → ℕ
  tail_byte k = byte_of_word (bay (tail_from + k / 8)) (k % 8)

  -- what it holds
  pub record ByWords (h : HalfRead) : Type 0 where
    pub edition : h.edition ≡ bay edition_word
    pub count : h.count ≡ bay count_word
    pub chain : (j : ℕ) → j < chain_words → get_or h.words j 0 ≡ bay (chain_from + j)
    pub tail : (k : ℕ) → k < tail_room → get_or h.tail k 0 ≡ tail_byte k

  -- empty: every word is 0
  abbrev pub Vacant : Type 0
  Vacant = (j : ℕ) → j < bay_words → bay j ≡ 0

  -- taken, and the five rules kept: edition, length, words, tail, start
  abbrev pub TakenRules : Type 0
  TakenRules = FiveRules (bay edition_word) (bay count_word) (λ j. bay (chain_from + j)) tail_byte
