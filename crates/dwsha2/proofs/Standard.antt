-- `hash-standard`: a hash at once that is answered Done leaves the standard's digest at the front of the output, and what was there behind
-- it. It is said of calls of the function, by its own contract.
use Prim.Native.Nat.{◌<◌}
use mathlib.Core.Path.{◌≡◌}
use Rattle.contracts.specs.Says.{Made, exit}
use Rattle.answers.specs.Numbers.{number_of}
use Rattle.std.specs.Prelude.{Ok}
use Rattle.answers.proofs.Refusals.{done-leaves, refused-leaves}
use Rattle.slices.specs.AtFront.{at_front}
use Rattle.fips.specs.Editions.{digest}
use Rattle.fips.specs.Message.{message}
use Rattle.dwsha2.specs.Hash.{hashed}
use Rattle.dwsha2.specs.contracts.hash.hash as hash
use Rattle.dwsha2.proofs.hash.hash.Reads as hash-reads

pub hash-standard : (m : Made hash.ended hash-reads.Learnt) → m.result ≡ Ok tt →
    (exit m).1.1.1.1.0.now
    ≡ at_front (digest m.args.0 (message m.args.1.0.now m.args.1.1.0 m.args.1.1.1.0)) m.args.1.1.1.1.0.now
unfolding hashed
hash-standard m e = done-leaves m.learnt e

-- and one that is refused leaves the output as it was
pub hash-refused : (m : Made hash.ended hash-reads.Learnt) → 0 < number_of m.result →
    (exit m).1.1.1.1.0.now ≡ m.args.1.1.1.1.0.now
hash-refused m p = refused-leaves m.learnt p
