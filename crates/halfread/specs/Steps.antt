-- What becomes of a half-read message: opened, with a piece added, closed. Adding and closing ask first whether it is sound.
-- SPEC, "Calls and their numbers".
use Rattle.std.specs.Prelude.{ℕ, ◌+◌, not, List, [], ◌∷◌, ◌++◌, ltb, length, replicate}
use Rattle.answers.specs.Judged.{Test, ◌when◌}
use Rattle.fips.specs.Editions.{start, digest_bytes}
use Rattle.dwsha2.specs.Limit.{too_long}
use Rattle.dwsha2.specs.Closing.{closing_fits}
use Rattle.slices.specs.Blocks.{rest}
use Rattle.dwsha2.specs.Code.Hashing.{absorbed, finished, digest_from}
use Rattle.halfread.specs.declared.HalfRead.{HalfRead}
use Rattle.halfread.specs.State.{block_of, pending, padded, sound, tail_room}

-- a message of which nothing is taken
unfoldable pub opened : ℕ → HalfRead
opened e = record { edition = e; count = 0; words = start e; tail = replicate tail_room 0 }

module _ (h : HalfRead) where
  -- ---- add: 6, 7

  unfoldable pub add_tests : List ℕ → List Test
  add_tests piece = 6 when not (sound h) ∷ 7 when too_long h.edition h.count (length piece) ∷ []

  -- the bytes not yet absorbed, once the piece has come
  abbrev pub waiting : List ℕ → List ℕ
  waiting piece = pending h ++ piece

  -- whole blocks of them are absorbed, the rest is the new tail
  unfoldable pub added : List ℕ → HalfRead
  added piece =
      record {
        edition = h.edition;
        count = h.count + length piece;
        words = absorbed h.edition h.words (waiting piece);
        tail = padded (rest (block_of h) (waiting piece));
      }

  -- ---- close: 6, 8, 9

  unfoldable pub close_tests : ℕ → ℕ → List ℕ → List Test
  close_tests closing b out =
      6 when not (sound h) ∷ 8 when not (closing_fits closing b) ∷ 9 when ltb (length out) (digest_bytes h.edition) ∷ []

  -- the digest of all that was taken and of the upper b bits of the closing byte
  unfoldable pub closed_digest : ℕ → ℕ → List ℕ
  closed_digest closing b = digest_from h.edition (finished h.edition h.words h.count (pending h) closing b)
