-- The plain ledger: SPEC, "The plain ledger". Of a message in a bay it has every byte since the start words, and hashes them all
-- anew each time. No word of a table is known to it, and none of its answers is 1 or 6.
use Rattle.std.specs.Prelude.{ℕ, ◌+◌, ◌-◌, ◌*◌, ◌/◌, ◌^◌, Bool, true, false, not, List, [], ◌∷◌, ◌++◌, ◌≡◌, leb, ltb, length, take, drop}
use Rattle.std.specs.Prelude.{get_or, set, replicate}
use Rattle.answers.specs.Judged.{Test, ◌when◌, first, after}
use Rattle.slices.specs.AtFront.{at_front}
use Rattle.slices.specs.Below.{Below, Bytes}
use Rattle.bigendian.specs.Words.{from_words}
use Rattle.fips.specs.Bits.{bits, bits_of}
use Rattle.fips.specs.Words.{Width, word, block_bytes}
use Rattle.fips.specs.Padding.{zeros, parse}
use Rattle.fips.specs.Constants.{chain}
use Rattle.fips.specs.Editions.{known, width, digest_bytes, start}
use Rattle.fips.specs.Message.{message}
use Rattle.dwsha2.specs.Limit.{too_long}
use Rattle.dwsha2.specs.Closing.{closing_fits}
use Rattle.bays.specs.Table.{room_for}
use Rattle.calls.specs.Calls.{Call, lay_out, opening, adding, closing, saving, loading, asking, dropping, output_of, Told, told}
use Rattle.calls.specs.Calls.{nothing_told, Seen}
use Rattle.ledger.specs.Records.{record_bytes, read_edition, read_length, read_words, read_tail, loads}

-- a message: the words that its hashing goes on from, how many bytes led to them, and all that came after
pub record Entry : Type 0 where
  pub edition : ℕ
  pub start_words : List ℕ
  pub before : ℕ
  pub since : List ℕ

-- a bay as the ledger has it
pub data Slot : Type 0 where
  nothing : Slot
  entry : Entry → Slot

-- a message of which nothing has come
abbrev pub opened_entry : ℕ → Entry
opened_entry e = record { edition = e; start_words = start e; before = 0; since = [] }

-- a message out of a record: only its tail is known byte by byte
unfoldable pub loaded_entry : List ℕ → Entry
loaded_entry bytes =
    record {
      edition = read_edition bytes;
      start_words = read_words bytes;
      before = read_length bytes - length (read_tail bytes);
      since = read_tail bytes;
    }

module _ (en : Entry) where
  abbrev pub with : List ℕ → Entry
  with piece = record { edition = en.edition; start_words = en.start_words; before = en.before; since = en.since ++ piece }

  -- how long it is by now
  abbrev pub entry_length : ℕ
  entry_length = en.before + length en.since

  abbrev entry_width : Width
  entry_width = width en.edition

  -- the chaining words after every whole block, FIPS 180-4 §5.2 and §6, and the bytes behind the last
  unfoldable pub entry_words : List ℕ
  entry_words = chain entry_width en.start_words (parse entry_width (bits_of en.since))

  abbrev pub entry_tail : List ℕ
  entry_tail = drop (length en.since / block_bytes entry_width * block_bytes entry_width) en.since

  unfoldable pub entry_record : List ℕ
  entry_record = record_bytes en.edition entry_length entry_words entry_tail

  -- the bits that its digest hashes: all since and those of the closing byte, and the padding of FIPS 180-4 §5.1, a 1 bit, the zero bits
  -- and the length of the whole message, what came before included
  unfoldable pub closed_bits : ℕ → ℕ → List Bool
  closed_bits x b =
      let m : List Bool = message en.since x b in
      let l : ℕ = 8 * en.before + length m in
      m ++ (true ∷ replicate (zeros (word entry_width) l) false) ++ bits (2 * word entry_width) l

  unfoldable pub entry_digest : ℕ → ℕ → List ℕ
  entry_digest x b =
      take (digest_bytes en.edition)
      (from_words entry_width.bytes (chain entry_width en.start_words (parse entry_width (closed_bits x b))))

-- what an entry can be: of an edition, eight words of its width, whole blocks before, bytes since, within the limit; and begun where its
-- edition begins if nothing stands before
pub record Fine (en : Entry) : Type 0 where
  pub is_known : known en.edition ≡ true
  pub eight : length en.start_words ≡ 8
  pub below : Below (2 ^ word (width en.edition)) en.start_words
  pub blocks : ℕ
  pub whole : en.before ≡ blocks * block_bytes (width en.edition)
  pub bytes : Bytes en.since
  pub within : too_long en.edition (entry_length en) 0 ≡ false
  pub begun : en.before ≡ 0 → en.start_words ≡ start en.edition

abbrev pub FineSlot : Slot → Type 0
FineSlot nothing = Unit {0}
FineSlot (entry en) = Fine en

-- what the tests and ask read of a slot; where it holds nothing: false, 0, []
abbrev pub is_entry : Slot → Bool
is_entry nothing = false
is_entry (entry en) = true

abbrev pub slot_edition : Slot → ℕ
slot_edition nothing = 0
slot_edition (entry en) = en.edition

abbrev pub slot_length : Slot → ℕ
slot_length nothing = 0
slot_length (entry en) = entry_length en

abbrev pub slot_record : Slot → List ℕ
slot_record nothing = []
slot_record (entry en) = entry_record en

abbrev pub slot_digest : Slot → ℕ → ℕ → List ℕ
slot_digest nothing x b = []
slot_digest (entry en) x b = entry_digest en x b

abbrev pub slot_with : Slot → List ℕ → Slot
slot_with nothing piece = nothing
slot_with (entry en) piece = entry (with en piece)

-- the slots of N bays, in a run of L words
module _ (L : ℕ) (l : List Slot) where
  abbrev pub slot : ℕ → Slot
  slot i = get_or l i nothing

  abbrev pub beyond : ℕ → Test
  beyond i = 2 when leb (length l) i

  -- what each call refuses, in its order
  unfoldable pub ledger_tests : Call → List Test
  ledger_tests (lay_out n) = 11 when not (room_for n L) ∷ []
  ledger_tests (opening i e) = beyond i ∷ 5 when not (known e) ∷ 3 when is_entry (slot i) ∷ []
  ledger_tests (adding i piece) = beyond i ∷ 4 when not (is_entry (slot i)) ∷ 7 when too_long (slot_edition (slot i)) (slot_length (slot i))
      (length piece) ∷ []
  ledger_tests (closing i x b out) =
      beyond i ∷ 4 when not (is_entry (slot i)) ∷ 8 when not (closing_fits x b) ∷ 9 when ltb (length out)
      (digest_bytes (slot_edition (slot i))) ∷ []
  ledger_tests (saving i out) = beyond i ∷ 4 when not (is_entry (slot i)) ∷ 9 when ltb (length out) (length (slot_record (slot i))) ∷ []
  ledger_tests (loading i bytes) = beyond i ∷ 10 when not (loads bytes) ∷ 3 when is_entry (slot i) ∷ []
  ledger_tests (asking i) = beyond i ∷ []
  ledger_tests (dropping i) = beyond i ∷ 4 when not (is_entry (slot i)) ∷ []

  -- the slots afterwards
  unfoldable pub kept : Call → List Slot
  kept (lay_out n) = replicate n nothing
  kept (opening i e) = set l i (entry (opened_entry e))
  kept (adding i piece) = set l i (slot_with (slot i) piece)
  kept (closing i x b out) = set l i nothing
  kept (saving i out) = l
  kept (loading i bytes) = set l i (entry (loaded_entry bytes))
  kept (asking i) = l
  kept (dropping i) = set l i nothing

  -- the output afterwards
  unfoldable pub written : Call → List ℕ
  written (lay_out n) = []
  written (opening i e) = []
  written (adding i piece) = []
  written (closing i x b out) = at_front (slot_digest (slot i) x b) out
  written (saving i out) = at_front (slot_record (slot i)) out
  written (loading i bytes) = []
  written (asking i) = []
  written (dropping i) = []

  -- what ask tells
  unfoldable pub saying : Call → Told
  saying (lay_out n) = nothing_told
  saying (opening i e) = nothing_told
  saying (adding i piece) = nothing_told
  saying (closing i x b out) = nothing_told
  saying (saving i out) = nothing_told
  saying (loading i bytes) = nothing_told
  saying (asking i) = told (slot_edition (slot i)) (slot_length (slot i))
  saying (dropping i) = nothing_told

pub record Kept : Type 0 where
  pub seen : Seen
  pub slots : List Slot

-- one call
unfoldable pub keep : ℕ → List Slot → Call → Kept
keep L l c =
    let n : ℕ = first (ledger_tests L l c) in
    record {
      seen =
          record {
            answer = n;
            says = after n nothing_told (saying L l c);
            output = after n (output_of c) (written L l c);
          };
      slots = after n l (kept L l c);
    }

-- a ledger of a table in a run of L words: its number of bays has room there, and its entries are fine
pub record Ready (L : ℕ) (l : List Slot) : Type 0 where
  pub room : room_for (length l) L ≡ true
  pub fine : (i : ℕ) → FineSlot (get_or l i nothing)

-- two ledgers of as many bays, each slot of one with the record of the other's
pub record SameRecords (l m : List Slot) : Type 0 where
  pub bays : length l ≡ length m
  pub records : (i : ℕ) → slot_record (get_or l i nothing) ≡ slot_record (get_or m i nothing)
