-- What is saved, and what loads: the laws of Forms at the form that is saved. `saved-loads`: the record of a sound state loads as that
-- state. `loaded-saves`: a record that loads is the record of what it loads. `one-record` and `the-record`: so there is one, and no second.
use Prim.Native.Nat.{ℕ}
use mathlib.Core.Bool.{true}
use mathlib.Core.List.{List}
use mathlib.Core.Path.{◌≡◌, sym, ap, ◌∙◌}
use native.Mathlib.Omega.{arith}
use lib.ListN.{length}
use Rattle.slices.specs.Below.{Bytes}
use Rattle.halfread.specs.declared.HalfRead.{HalfRead}
use Rattle.halfread.specs.State.{sound, Shaped}
use Rattle.records.specs.Record.{newest, record_length, record_of, loaded, is_record}
use Rattle.records.proofs.Forms.{length-record_in, record_in-bytes, form-loaded-shaped, form-loaded-sound}
use Rattle.records.proofs.Forms.{form-loaded-saves, form-one-record, form-saved-loads}

pub length-record_of : (h : HalfRead) → Shaped h → length (record_of h) ≡ record_length h
length-record_of h s = length-record_in newest h s

pub record_of-bytes : (h : HalfRead) → Shaped h → Bytes (record_of h)
record_of-bytes h s = record_in-bytes newest h s

pub loaded-shaped : (bytes : List ℕ) → Bytes bytes → Shaped (loaded bytes)
loaded-shaped bytes all = form-loaded-shaped newest bytes (omega arith) all

pub loaded-sound : (bytes : List ℕ) → is_record bytes ≡ true → sound (loaded bytes) ≡ true
loaded-sound bytes e = form-loaded-sound newest bytes e

pub loaded-saves : (bytes : List ℕ) → is_record bytes ≡ true → record_of (loaded bytes) ≡ bytes
loaded-saves bytes e = form-loaded-saves newest bytes e

pub one-record : (a b : List ℕ) → is_record a ≡ true → is_record b ≡ true → loaded a ≡ loaded b → a ≡ b
one-record a b p q e = form-one-record newest a b p q e

pub saved-loads : (h : HalfRead) → sound h ≡ true → Shaped h → (loaded (record_of h) ≡ h) × (is_record (record_of h) ≡ true)
saved-loads h ok s = form-saved-loads newest (omega arith) h ok s

-- r is a record, and what it loads is h
pub record RecordOf (h : HalfRead) (r : List ℕ) : Type 0 where
  pub loads : is_record r ≡ true
  pub state : loaded r ≡ h

-- there is one, and every other is the same
pub the-record : (h : HalfRead) → sound h ≡ true → Shaped h → RecordOf h (record_of h) × ((r : List ℕ) → RecordOf h r → r ≡ record_of h)
the-record h ok s =
    let both = saved-loads h ok s in
    (record { loads = both.1; state = both.0 }, λ r q. sym (loaded-saves r q.loads) ∙ ap record_of q.state)
