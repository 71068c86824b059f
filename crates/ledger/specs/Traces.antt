-- Calls that were made, one after the other, each on the table that the one before left: `Trace`. What a call did is a relation `Did`,
-- which for the functions in src is their own contract (`Code`), and so for the C names. SPEC, "The plain ledger".
use Rattle.std.specs.Prelude.{ℕ, ◌≤◌, List, [], ◌∷◌, ◌≡◌, length, drop, replicate}
use Rattle.bays.specs.Places.{place_of}
use Rattle.calls.specs.Calls.{Call, lay_out, output_of, Seen, Told, nothing_told}
use Rattle.ledger.specs.Ledger.{nothing}
use Rattle.ledger.specs.Promise.{said_of, Undamaged, reach}
use Rattle.ledger.specs.Sound.{SoundTable, ledger_of}

-- `Did t c s u`: lent the table t, the call c showed s and left u
abbrev pub Doing : Type 1
Doing = List ℕ → Call → Seen → List ℕ → Type 0

-- what a call shows that answers the number n: with an output; and what it told
abbrev pub shows : ℕ → List ℕ → Seen
shows n out = record { answer = n; says = nothing_told; output = out }

abbrev pub shows_told : ℕ → Told → Seen
shows_told n says = record { answer = n; says = says; output = [] }

pub data Trace (Did : Doing) : List ℕ → List Call → List Seen → List ℕ → Type 0 where
  none : (t : List ℕ) → Trace Did t [] [] t
  then : {t u v : List ℕ} {c : Call} {s : Seen} {cs : List Call} {ss : List Seen} →
      Did t c s u → Trace Did u cs ss v → Trace Did t (c ∷ cs) (s ∷ ss) v

module _ (Did : Doing) where
  -- from every table with a right header and sound bays, the calls show what the plain ledger gives, and none is answered 1 or 6
  abbrev pub FromSound : Type 0
  FromSound =
      (t : List ℕ) → SoundTable t → (calls : List Call) (shown : List Seen) (left : List ℕ) → Trace Did t calls shown left →
      (shown ≡ said_of (length t) (ledger_of t) calls) × Undamaged shown

  -- the same after a layout that is done, over words that held anything: a ledger in which nothing is
  abbrev pub FromLayout : Type 0
  FromLayout =
      (words t : List ℕ) (n : ℕ) (s : Seen) → Did words (lay_out n) s t → s.answer ≡ 0 →
      (calls : List Call) (shown : List Seen) (left : List ℕ) → Trace Did t calls shown left →
      (shown ≡ said_of (length words) (replicate n nothing) calls) × Undamaged shown

  -- calls leave a sound table sound, and a layout that is done makes one
  abbrev pub StaySound : Type 0
  StaySound =
      (t : List ℕ) → SoundTable t → (calls : List Call) (shown : List Seen) (left : List ℕ) → Trace Did t calls shown left → SoundTable left

  abbrev pub LaySound : Type 0
  LaySound = (words t : List ℕ) (n : ℕ) (s : Seen) → Did words (lay_out n) s t → s.answer ≡ 0 → SoundTable t

  -- on any table, a call that is refused leaves every word and every byte of its output, and tells nothing
  abbrev pub RefusedKeeps : Type 0
  RefusedKeeps =
      (t : List ℕ) (c : Call) (s : Seen) (u : List ℕ) → Did t c s u → (s.answer ≡ 0 → ⊥) →
      (u ≡ t) × (s.output ≡ output_of c) × (s.says ≡ nothing_told)

  -- on any table, no call touches a word past the bays that it reaches
  abbrev pub CallersKept : Type 0
  CallersKept =
      (t : List ℕ) (c : Call) (s : Seen) (u : List ℕ) → Did t c s u → (n : ℕ) → reach t c ≤ n → drop (place_of n) u ≡ drop (place_of n) t
