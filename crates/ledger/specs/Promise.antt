-- The ledger's promise, as one statement: after a layout that is done, over memory that held anything, every sequence of calls gives
-- answer for answer and byte for byte what the plain ledger gives. The theorem is `ledger`. SPEC, "The plain ledger".
use Rattle.std.specs.Prelude.{ℕ, ◌^◌, ◌≤◌, List, [], ◌∷◌, ◌≡◌, length, replicate}
use Rattle.slices.specs.Below.{Below}
use Rattle.bays.specs.Table.{bays_of}
use Rattle.calls.specs.Calls.{Call, lay_out, opening, adding, closing, saving, loading, asking, dropping, Passed, Seen, run}
use Rattle.ledger.specs.Ledger.{Slot, nothing, keep}
use Rattle.ledger.specs.Sound.{SoundTable, ledger_of}

abbrev pub AllPassed : List Call → Type 0
AllPassed [] = Unit {0}
AllPassed (c ∷ cs) = Passed c × AllPassed cs

-- what is seen of a sequence of calls on a table, and the table at its end
unfoldable pub seen_of : List ℕ → List Call → List Seen
seen_of t [] = []
seen_of t (c ∷ cs) = (run t c).seen ∷ seen_of (run t c).table cs

unfoldable pub table_of : List ℕ → List Call → List ℕ
table_of t [] = t
table_of t (c ∷ cs) = table_of (run t c).table cs

-- what the ledger gives for the sequence, in a run of L words
unfoldable pub said_of : ℕ → List Slot → List Call → List Seen
said_of L l [] = []
said_of L l (c ∷ cs) = (keep L l c).seen ∷ said_of L (keep L l c).slots cs

-- and the slots at its end
unfoldable pub slots_after : ℕ → List Slot → List Call → List Slot
slots_after L l [] = l
slots_after L l (c ∷ cs) = slots_after L (keep L l c).slots cs

abbrev pub Promise : Type 0
Promise =
    (words : List ℕ) (n : ℕ) (calls : List Call) → AllPassed calls → (run words (lay_out n)).seen.answer ≡ 0 →
    seen_of (run words (lay_out n)).table calls ≡ said_of (length words) (replicate n nothing) calls

-- the same of every table with a right header and sound bays, in words of 64 bits
abbrev pub SoundPromise : Type 0
SoundPromise =
    (t : List ℕ) (calls : List Call) → SoundTable t → Below (2 ^ 64) t → AllPassed calls →
    seen_of t calls ≡ said_of (length t) (ledger_of t) calls

-- no answer is 1 or 6
abbrev pub Undamaged : List Seen → Type 0
Undamaged [] = Unit {0}
Undamaged (s ∷ ss) = (s.answer ≡ 1 → ⊥) × (s.answer ≡ 6 → ⊥) × Undamaged ss

-- how many bays a call reaches: those of the table, or those that it lays out
abbrev pub reach : List ℕ → Call → ℕ
reach t (lay_out n) = n
reach t (opening i e) = bays_of t
reach t (adding i piece) = bays_of t
reach t (closing i x b out) = bays_of t
reach t (saving i out) = bays_of t
reach t (loading i bytes) = bays_of t
reach t (asking i) = bays_of t
reach t (dropping i) = bays_of t

-- no call lays out more than m bays; read of a table whose header says m, so that only layouts can reach further
abbrev pub LaidWithin : ℕ → List Call → Type 0
LaidWithin m [] = Unit {0}
LaidWithin m (c ∷ cs) = (reach (m ∷ []) c ≤ m) × LaidWithin m cs
