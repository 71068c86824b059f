-- A message from its beginning to its digest, among whatever else is called: SPEC, "The plain ledger". `given_to` is what a bay was given,
-- and `Stays` says that no call that was done ended it. The theorems are `opened-writes` and `loaded-writes`, of the functions in src
-- `code-opened-writes` and `code-loaded-writes`; that calls reach sound tables only is `stays-sound`.
use Rattle.std.specs.Prelude.{ℕ, Bool, true, false, cond, List, [], ◌∷◌, ◌++◌, ◌≡◌, eqb, length}
use Rattle.answers.specs.Judged.{after}
use Rattle.slices.specs.AtFront.{at_front}
use Rattle.slices.specs.Below.{Bytes}
use Rattle.fips.specs.Editions.{known, digest}
use Rattle.fips.specs.Message.{message}
use Rattle.dwsha2.specs.Limit.{too_long}
use Rattle.calls.specs.Calls.{Call, lay_out, opening, adding, closing, saving, loading, asking, dropping, Seen}
use Rattle.ledger.specs.Ledger.{opened_entry, with, entry_record}
use Rattle.ledger.specs.Sound.{SoundTable}
use Rattle.ledger.specs.Traces.{Doing, Trace}

module _ (i : ℕ) where
  -- what a call would give to bay i
  abbrev pub piece_for : Call → List ℕ
  piece_for (lay_out n) = []
  piece_for (opening j e) = []
  piece_for (adding j piece) = cond (eqb j i) piece []
  piece_for (closing j x b out) = []
  piece_for (saving j out) = []
  piece_for (loading j bytes) = []
  piece_for (asking j) = []
  piece_for (dropping j) = []

  -- whether a call, if it is done, ends what is in bay i: a layout, or one that closes or drops it
  abbrev pub ends_bay : Call → Bool
  ends_bay (lay_out n) = true
  ends_bay (opening j e) = false
  ends_bay (adding j piece) = false
  ends_bay (closing j x b out) = eqb j i
  ends_bay (saving j out) = false
  ends_bay (loading j bytes) = false
  ends_bay (asking j) = false
  ends_bay (dropping j) = eqb j i

  -- what bay i was given by calls that showed that: the pieces of its adds that were done, joined
  unfoldable pub given_to : List Call → List Seen → List ℕ
  given_to [] ss = []
  given_to (c ∷ cs) [] = []
  given_to (c ∷ cs) (s ∷ ss) = after s.answer [] (piece_for c) ++ given_to cs ss

  -- no call that was done ended it
  abbrev pub Stays : List Call → List Seen → Type 0
  Stays [] ss = Unit {0}
  Stays (c ∷ cs) [] = Unit {0}
  Stays (c ∷ cs) (s ∷ ss) = (s.answer ≡ 0 → ends_bay c ≡ false) × Stays cs ss

-- the record of a message
abbrev pub record_of_message : ℕ → List ℕ → List ℕ
record_of_message e m = entry_record (with (opened_entry e) m)

module _ (Did : Doing) where
  -- bay i was begun by the call c, with m in it, on a table with a right header and sound bays; after any calls that leave it there, `last`
  -- was done: the output is `wrote` of all that the bay was given
  abbrev pub Ends : ℕ → List ℕ → Call → Call → (List ℕ → List ℕ) → Type 0
  Ends i m c last wrote =
      (t t' : List ℕ) (s : Seen) → SoundTable t → Did t c s t' → s.answer ≡ 0 →
      (calls : List Call) (shown : List Seen) (u : List ℕ) → Trace Did t' calls shown u → Stays i calls shown →
      (z : Seen) (v : List ℕ) → Did u last z v → z.answer ≡ 0 → z.output ≡ wrote (m ++ given_to i calls shown)

  -- closed, it writes the standard's digest of that message; saved, the record of it
  abbrev pub Writes : ℕ → ℕ → List ℕ → Call → Type 0
  Writes i e m c =
      ((x b : ℕ) (out : List ℕ) → Ends i m c (closing i x b out) (λ g. at_front (digest e (message g x b)) out))
      × ((out : List ℕ) → Ends i m c (saving i out) (λ g. at_front (record_of_message e g) out))

  abbrev pub OpenedWrites : Type 0
  OpenedWrites = (i e : ℕ) → Writes i e [] (opening i e)

  -- the record of a message of bytes within the limit: loaded, the bay goes on from that message; and it is never refused as none, 10
  abbrev pub LoadedWrites : Type 0
  LoadedWrites =
      (i e : ℕ) (m : List ℕ) → known e ≡ true → Bytes m → too_long e 0 (length m) ≡ false →
      Writes i e m (loading i (record_of_message e m))
      × ((t t' : List ℕ) (s : Seen) → SoundTable t → Did t (loading i (record_of_message e m)) s t' → s.answer ≡ 10 → ⊥)
