-- A bay's words and the half-read message that they hold: SPEC, "The table of bays". Each word of the tail is eight of its bytes.
use Rattle.std.specs.Prelude.{ℕ, Bool, ◌||◌, List, ◌∷◌, ◌++◌, drop, get_or, replicate}
use Rattle.slices.specs.Parts.{part}
use Rattle.slices.specs.Tests.{all_zero}
use Rattle.bigendian.specs.Words.{from_words, to_words}
use Rattle.halfread.specs.declared.HalfRead.{HalfRead}
use Rattle.halfread.specs.State.{sound}
use Rattle.bays.specs.Places.{edition_word, count_word, chain_from, chain_words, tail_from, tail_words, bay_words}

unfoldable pub half_of : List ℕ → HalfRead
half_of b =
    record {
      edition = get_or b edition_word 0;
      count = get_or b count_word 0;
      words = part b chain_from chain_words;
      tail = from_words 8 (drop tail_from b);
    }

unfoldable pub bay_of : HalfRead → List ℕ
bay_of h = h.edition ∷ h.count ∷ (h.words ++ to_words tail_words 8 h.tail)

-- empty: no word is other than 0
unfoldable pub is_empty : List ℕ → Bool
is_empty b = all_zero b

abbrev pub empty_bay : List ℕ
empty_bay = replicate bay_words 0

-- sound: empty, or what it holds is sound
unfoldable pub sound_bay : List ℕ → Bool
sound_bay b = is_empty b || sound (half_of b)
