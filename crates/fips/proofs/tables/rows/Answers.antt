-- `fips::tables::rows` meets its contract: antt computes the six rows from their rules. Assumes nothing.
use mathlib.Core.Path.{refl}
use mathlib.Core.List.{zip_with}
use Rattle.fips.specs.Bits.{bits, value, bits_of, pieces}
use Rattle.fips.specs.Primes.{primes, primes_below, is_prime, undivided}
use Rattle.fips.specs.Roots.{root_word, root}
use Rattle.fips.specs.Block.{next, schedule, round, rounds, block, blocks}
use Rattle.fips.specs.Padding.{zeros, pad, parse}
use Rattle.fips.specs.Constants.{round_words, hash_from, start224, start256, start384, start512, ascii, generated}
use Rattle.fips.specs.Editions.{editions, start_rows}
use Rattle.fips.proofs.tables.rows.Goals as goal

pub returns : goal.returns
unfolding bits value bits_of pieces primes primes_below is_prime undivided root_word root next schedule round rounds block blocks zeros pad parse round_words hash_from start224 start256 start384 start512 ascii generated editions start_rows zip_with
returns c = refl
