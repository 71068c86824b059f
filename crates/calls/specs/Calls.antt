-- The calls on the table: which refuses when, and what it leaves. SPEC, "Calls and their numbers".
-- `Outcome` and `Asks` say what a call did; `run` is one call as a value: its answer, what ask tells, table and output after it.
use Rattle.std.specs.Prelude.{ℕ, ◌^◌, ◌<◌, not, List, [], ◌∷◌, ◌++◌, ltb, length, Result, Ok, Err}
use Rattle.answers.specs.declared.Refusal.{Refusal}
use Rattle.answers.specs.Judged.{Test, ◌when◌, first, after, Lent, lent, Judged}
use Rattle.fips.specs.Editions.{known, digest_bytes}
use Rattle.slices.specs.AtFront.{at_front}
use Rattle.slices.specs.Below.{Below, Bytes}
use Rattle.dwsha2.specs.Limit.{too_long}
use Rattle.dwsha2.specs.Closing.{closing_fits}
use Rattle.halfread.specs.Steps.{opened, added, closed_digest}
use Rattle.records.specs.Record.{record_of, record_length, loaded, is_record}
use Rattle.calls.specs.declared.Asked.{Asked}
use Rattle.bays.specs.Table.{put_bay, laid_out}
use Rattle.bays.specs.Bay.{bay_of, empty_bay}
use Rattle.bays.specs.Gate.{layout_tests, half_at, gate_tests, not_sound, occupied, vacant, taken_tests, sound_tests}

-- a call with its arguments; the output of a call that has one is the lent buffer as it was
pub data Call : Type 0 where
  lay_out : (n : ℕ) → Call
  opening : (bay edition : ℕ) → Call
  adding : (bay : ℕ) (piece : List ℕ) → Call
  closing : (bay byte bits : ℕ) (out : List ℕ) → Call
  saving : (bay : ℕ) (out : List ℕ) → Call
  loading : (bay : ℕ) (bytes : List ℕ) → Call
  asking : (bay : ℕ) → Call
  dropping : (bay : ℕ) → Call

-- what ask tells of a bay: its edition and its count
pub record Told : Type 0 where
  pub edition : ℕ
  pub count : ℕ

abbrev pub told : ℕ → ℕ → Told
told e c = record { edition = e; count = c }

abbrev pub nothing_told : Told
nothing_told = told 0 0

-- what is told by a call of ask; a refusal tells nothing
abbrev pub told_of : Result Asked Refusal → Told
told_of (Ok asked) = told asked.edition asked.count
told_of (Err refusal) = nothing_told

-- the output that is lent with the call
abbrev pub output_of : Call → List ℕ
output_of (lay_out n) = []
output_of (opening i e) = []
output_of (adding i piece) = []
output_of (closing i x b out) = out
output_of (saving i out) = out
output_of (loading i bytes) = []
output_of (asking i) = []
output_of (dropping i) = []

-- what a caller passes: pieces and records are bytes, and so is a closing byte; every number and every output buffer is taken
abbrev pub Passed : Call → Type 0
Passed (lay_out n) = Unit {0}
Passed (opening i e) = Unit {0}
Passed (adding i piece) = Bytes piece
Passed (closing i x b out) = x < 256
Passed (saving i out) = Unit {0}
Passed (loading i bytes) = Bytes bytes
Passed (asking i) = Unit {0}
Passed (dropping i) = Unit {0}

-- what is lent to a call: a table of words of 64 bits, and what a caller passes. The types of the functions see to it, and each call
-- hands it on in its contract, so that no theorem about calls that were made has to ask for it
abbrev pub Lends : List ℕ → Call → Type 0
Lends t c = Below (2 ^ 64) t × Passed c

module _ (t : List ℕ) where
  -- the refusals in order
  unfoldable pub tests : Call → List Test
  tests (lay_out n) = layout_tests t n
  tests (opening i e) = gate_tests t i ++ (5 when not (known e) ∷ not_sound t i ∷ occupied t i ∷ [])
  tests (adding i piece) = gate_tests t i ++
      (not_sound t i ∷ vacant t i ∷ 7 when too_long (half_at t i).edition (half_at t i).count (length piece) ∷ [])
  tests (closing i x b out) =
      gate_tests t i
      ++ (not_sound t i ∷ vacant t i ∷ 8 when not (closing_fits x b) ∷ 9 when ltb (length out) (digest_bytes (half_at t i).edition) ∷ [])
  tests (saving i out) = gate_tests t i ++ (not_sound t i ∷ vacant t i ∷ 9 when ltb (length out) (record_length (half_at t i)) ∷ [])
  tests (loading i bytes) = gate_tests t i ++ (10 when not (is_record bytes) ∷ not_sound t i ∷ occupied t i ∷ [])
  tests (asking i) = sound_tests t i
  tests (dropping i) = taken_tests t i

  -- what is left where nothing refuses
  unfoldable pub leaves : Call → Lent
  leaves (lay_out n) = lent (laid_out n t) []
  leaves (opening i e) = lent (put_bay t i (bay_of (opened e))) []
  leaves (adding i piece) = lent (put_bay t i (bay_of (added (half_at t i) piece))) []
  leaves (closing i x b out) = lent (put_bay t i empty_bay) (at_front (closed_digest (half_at t i) x b) out)
  leaves (saving i out) = lent t (at_front (record_of (half_at t i)) out)
  leaves (loading i bytes) = lent (put_bay t i (bay_of (loaded bytes))) []
  leaves (asking i) = lent t []
  leaves (dropping i) = lent (put_bay t i empty_bay) []

  -- what ask tells of the bay, which is nothing where it is empty; no other call tells anything
  unfoldable pub tells : Call → Told
  tells (lay_out n) = nothing_told
  tells (opening i e) = nothing_told
  tells (adding i piece) = nothing_told
  tells (closing i x b out) = nothing_told
  tells (saving i out) = nothing_told
  tells (loading i bytes) = nothing_told
  tells (asking i) = told (half_at t i).edition (half_at t i).count
  tells (dropping i) = nothing_told

-- ---- what a call did: the relation that the contracts, the C names and the theorems cite

-- the call c on the table t answered the number n, and left the table and the output as they are then
abbrev pub Outcome : List ℕ → Call → ℕ → List ℕ → List ℕ → Type 0
Outcome t c n left out = Judged (tests t c) (lent t (output_of c)) (leaves t c) n (lent left out)

-- an ask, which leaves everything, answered the number n and told that
abbrev pub Asks : List ℕ → ℕ → ℕ → Told → Type 0
Asks t i n says = Judged (tests t (asking i)) nothing_told (tells t (asking i)) n says

-- ---- the same as a value

-- what the caller sees of a call: the answer's number, what ask told, and the output buffer
pub record Seen : Type 0 where
  pub answer : ℕ
  pub says : Told
  pub output : List ℕ

pub record Ran : Type 0 where
  pub seen : Seen
  pub table : List ℕ

-- one call
unfoldable pub run : List ℕ → Call → Ran
run t c =
    let n : ℕ = first (tests t c) in
    let left : Lent = after n (lent t (output_of c)) (leaves t c) in
    record {
      seen = record { answer = n; says = after n nothing_told (tells t c); output = left.output };
      table = left.table;
    }
