-- Where everything stands in the lent run of words: SPEC, "The table of bays". Each number of the layout stands here once.
use Rattle.std.specs.Prelude.{ℕ, ◌+◌, ◌*◌, ◌/◌}
use Rattle.halfread.specs.State.{chain_room, tail_room}

-- the header: how many bays, where the first begins, how many words each has, and a zero
abbrev pub bays_word : ℕ
bays_word = 0

abbrev pub first_word : ℕ
first_word = 1

abbrev pub size_word : ℕ
size_word = 2

abbrev pub zero_word : ℕ
zero_word = 3

-- the header's words, in front of the first bay; and the most bays that a table has
abbrev pub first_bay : ℕ
first_bay = 4

abbrev pub most_bays : ℕ
most_bays = 64

-- a bay: the edition, the bytes taken, the chaining words, the words of the tail
abbrev pub edition_word : ℕ
edition_word = 0

abbrev pub count_word : ℕ
count_word = 1

abbrev pub chain_from : ℕ
chain_from = 2

abbrev pub chain_words : ℕ
chain_words = chain_room

abbrev pub tail_from : ℕ
tail_from = chain_from + chain_words

abbrev pub tail_words : ℕ
tail_words = tail_room / 8

abbrev pub bay_words : ℕ
bay_words = tail_from + tail_words

-- where bay i begins; and where, with n bays, the caller's words begin
abbrev pub place_of : ℕ → ℕ
place_of i = first_bay + bay_words * i
