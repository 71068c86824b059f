-- `samples`: the samples hold. antt computes one test over the whole table, and a law turns the test into the claim.
use mathlib.Core.Bool.{Bool, true, false, cond}
use mathlib.Core.List.{List, [], ◌∷◌, zip_with}
use mathlib.Core.Path.{◌≡◌, refl}
use Rattle.bigendian.specs.BigEndian.{be, number}
use Rattle.bigendian.specs.Words.{to_words, from_words}
use Rattle.fips.specs.Bits.{bits, value, bits_of, pieces}
use Rattle.fips.specs.Primes.{primes, primes_below, is_prime, undivided}
use Rattle.fips.specs.Roots.{root_word, root}
use Rattle.fips.specs.Block.{next, schedule, round, rounds, block, blocks}
use Rattle.fips.specs.Padding.{zeros, pad, parse}
use Rattle.fips.specs.Constants.{round_words, hash_from, start224, start256, start384, start512, ascii, generated}
use Rattle.fips.specs.Editions.{editions, edition, digest}
use Rattle.fips.specs.Message.{message, bytes_in}
use Rattle.fips.specs.Code.ByteForm.{parse_bytes}
use Rattle.slices.specs.AtFront.{at_front}
use Rattle.slices.specs.Tests.{same, same_by}
use Rattle.slices.proofs.Tests.{cond_both, same-eq}
use Rattle.bigendian.specs.Rows.{row_bytes}
use Rattle.dwsha2.specs.Closing.{closing_fits}
use Rattle.dwsha2.specs.Code.Hashing.{fit, absorbed}
use Rattle.halfread.specs.Steps.{opened, added}
use Rattle.records.specs.Record.{header, record_in}
use Rattle.lists.specs.Layout.{list_bytes, entry_bytes, entry_run, name_run}
use Rattle.treerule.specs.Root.{sha256, leaf, parent}
use Rattle.treerule.specs.Split.{power_to, power_below, split_in, split}
use Rattle.samples.specs.Samples.{Sample, Hold, table}

abbrev agree : List Sample → Bool
agree [] = true
agree (s ∷ ss) = cond (same s.given s.said) (agree ss) false

agree-hold : (ss : List Sample) → agree ss ≡ true → Hold ss
agree-hold [] e = tt
agree-hold (s ∷ ss) e =
    let p = cond_both (same s.given s.said) (agree ss) e in
    (same-eq s.given s.said p.0, agree-hold ss p.1)

test : agree table ≡ true
unfolding table be number to_words from_words bits value bits_of pieces primes primes_below is_prime undivided root_word root next schedule round rounds block blocks zeros pad parse round_words hash_from start224 start256 start384 start512 ascii generated editions edition digest message bytes_in zip_with parse_bytes at_front fit absorbed opened added record_in header row_bytes list_bytes entry_bytes entry_run name_run closing_fits sha256 leaf parent power_to power_below split_in split same_by
test = refl

pub samples : Hold table
samples = agree-hold table test
