-- `fips::tables::round64_lent` meets its contract: antt computes the table from the rule. Assumes nothing.
use Rattle.fips.specs.Primes.{primes, primes_below, is_prime, undivided}
use Rattle.fips.specs.Roots.{root_word, root}
use Rattle.fips.specs.Constants.{round_words}
use mathlib.Core.Path.{refl}
use Rattle.fips.proofs.tables.round64_lent.Goals as goal

pub returns : goal.returns
unfolding primes primes_below is_prime undivided root_word root round_words
returns c = refl
