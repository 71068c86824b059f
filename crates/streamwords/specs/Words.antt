-- The words of a stream: SPEC, "Tree over a stream". Each word of the roots and of the bytes is eight bytes, most significant first.
use Rattle.std.specs.Prelude.{ℕ, ◌+◌, ◌/◌, List, ◌∷◌, ◌++◌, get_or}
use Rattle.slices.specs.Parts.{part}
use Rattle.bigendian.specs.Words.{from_words, to_words}
use Rattle.treerule.specs.Root.{chunk_bytes}
use Rattle.stream.specs.declared.Stream.{Stream}
use Rattle.stream.specs.State.{root_room}

-- where they stand: the finished chunks, how many bytes follow them, the roots, and those bytes
abbrev pub chunks_word : ℕ
chunks_word = 0

abbrev pub further_word : ℕ
further_word = 1

abbrev pub roots_from : ℕ
roots_from = 2

abbrev pub root_words : ℕ
root_words = root_room / 8

abbrev pub bytes_from : ℕ
bytes_from = roots_from + root_words

abbrev pub byte_words : ℕ
byte_words = chunk_bytes / 8

abbrev pub stream_words : ℕ
stream_words = bytes_from + byte_words

-- the stream that words hold
unfoldable pub stream_in : List ℕ → Stream
stream_in ws =
    record {
      chunks = get_or ws chunks_word 0;
      further = get_or ws further_word 0;
      roots = from_words 8 (part ws roots_from root_words);
      bytes = from_words 8 (part ws bytes_from byte_words);
    }

-- the words that hold a stream
unfoldable pub words_of : Stream → List ℕ
words_of s = s.chunks ∷ s.further ∷ (to_words root_words 8 s.roots ++ to_words byte_words 8 s.bytes)
