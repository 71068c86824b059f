-- What the three bays of the night hold between its steps, in the plain ledger's words: SPEC, "The plain ledger".
-- `Held` says it of a table; `Fitting` and `Roomy` are what the tests of the night give once they are passed.
use Rattle.std.specs.Prelude.{ℕ, ◌≤◌, true, false, List, [], ◌∷◌, ◌≡◌, length}
use Rattle.fips.specs.Editions.{known, digest_bytes}
use Rattle.dwsha2.specs.Limit.{too_long}
use Rattle.ledger.specs.Ledger.{Slot, entry, opened_entry, with}
use Rattle.ledger.proofs.Follows.{Follows}
use Rattle.night.specs.Night.{Digests}

-- a bay that was opened and given the message m
abbrev pub holding : ℕ → List ℕ → Slot
holding e m = entry (with (opened_entry e) m)

-- the table follows a ledger with these three bays
abbrev pub Held : List ℕ → Slot → Slot → Slot → Type 0
Held t x y z = Follows (length t) t (x ∷ y ∷ z ∷ [])

-- three files of an edition, none of them too long
pub record Fitting (e : ℕ) (a b c : List ℕ) : Type 0 where
  pub is_known : known e ≡ true
  pub short_a : too_long e 0 (length a) ≡ false
  pub short_b : too_long e 0 (length b) ≡ false
  pub short_c : too_long e 0 (length c) ≡ false

-- outputs with room for a digest
pub record Roomy (e : ℕ) (out : Digests) : Type 0 where
  pub room_a : digest_bytes e ≤ length out.of_a
  pub room_b : digest_bytes e ≤ length out.of_b
  pub room_c : digest_bytes e ≤ length out.of_c
