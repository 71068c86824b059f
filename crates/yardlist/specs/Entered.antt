-- What the list maker does with a file: SPEC, "The list maker". `Entered` says it of a name and the buffer with the list: where the name is
-- refused, no byte of the buffer is changed; where it is listed, there is a file that was met, and the buffer is what `writer::put` leaves
-- for the name and the standard's digest of the file's bytes.
use Rattle.std.specs.Prelude.{ℕ, true, false, List, Result, Ok, Err, ◌≡◌, length, take}
use Rattle.fips.specs.Editions.{known, digest_bytes, digest}
use Rattle.fips.specs.Message.{message}
use Rattle.dwsha2.specs.Limit.{too_long}
use Rattle.bays.specs.Table.{room_for}
use Rattle.lists.specs.Layout.{edition_in}
use Rattle.writer.specs.Writing.{Puts}
use Rattle.listing.specs.declared.Reason.{Reason}
use Rattle.report.specs.Report.{bytes}
use Rattle.report.specs.Code.Files.{close}
use Rattle.report.specs.Code.Program.{File, Over, came}

-- what closing the bay of a table brings, as long as a digest of the buffer's edition
abbrev pub closed_digest : List ℕ → List ℕ → List ℕ
closed_digest buffer t = take (digest_bytes (edition_in buffer)) (close t).seen.output

-- the bay of the table t closed, and its digest put in the list
pub record Closed (buffer name t : List ℕ) (step : Result Unit Reason) (left : List ℕ) : Type 0 where
  pub kept : (r : Reason) → step ≡ Err r → left ≡ buffer
  pub listed : step ≡ Ok tt → ((close t).seen.answer ≡ 0) × Puts buffer name (closed_digest buffer t) 0 left

-- these are the bytes of a file, no more than the limit, and the name is listed with their digest
pub record Listed (buffer name : List ℕ) (f : File) (left : List ℕ) : Type 0 where
  pub content : List ℕ
  pub came-so : came f ≡ bytes content
  pub short : too_long (edition_in buffer) 0 (length content) ≡ false
  pub listed : Puts buffer name (digest (edition_in buffer) (message content 0 0)) 0 left

-- a name whose file is led through a table over these words
pub record Entered (buffer name words : List ℕ) (step : Result Unit Reason) (left : List ℕ) : Type 0 where
  pub file : File
  pub over : Over words file
  pub kept : (r : Reason) → step ≡ Err r → left ≡ buffer
  pub done : known (edition_in buffer) ≡ true → room_for 1 (length words) ≡ true → step ≡ Ok tt → Listed buffer name file left
