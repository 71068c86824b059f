-- Records of bays: a sound bay's record loads as that bay again, a record that loads is the record of its bay, and each bay has one.
use Prim.Native.Nat.{ℕ, ◌^◌}
use mathlib.Core.Bool.{true}
use mathlib.Core.List.{List}
use mathlib.Core.Path.{◌≡◌, sym, ap, ◌∙◌}
use lib.ListN.{length}
use Rattle.slices.specs.Below.{Bytes, Below}
use Rattle.halfread.specs.State.{sound}
use Rattle.records.specs.Record.{record_of, loaded, is_record}
use Rattle.records.proofs.Records.{saved-loads, loaded-saves, loaded-shaped}
use Rattle.bays.specs.Places.{bay_words}
use Rattle.bays.specs.Bay.{half_of, bay_of}
use Rattle.bays.proofs.Packing.{shaped-half_of, bay_of-half_of, half_of-bay_of}

pub bay-saved-loads : (b : List ℕ) → length b ≡ bay_words → Below (2 ^ 64) b → sound (half_of b) ≡ true →
    (bay_of (loaded (record_of (half_of b))) ≡ b) × (is_record (record_of (half_of b)) ≡ true)
bay-saved-loads b l f s =
    let back = saved-loads (half_of b) s (shaped-half_of b l f) in (ap bay_of back.0 ∙ bay_of-half_of b l f, back.1)

pub bay-loaded-saves : (r : List ℕ) → Bytes r → is_record r ≡ true → record_of (half_of (bay_of (loaded r))) ≡ r
bay-loaded-saves r f k = ap record_of (half_of-bay_of (loaded r) (loaded-shaped r f)) ∙ loaded-saves r k

pub bay-one-record : (r s : List ℕ) → Bytes r → Bytes s → is_record r ≡ true → is_record s ≡ true →
    bay_of (loaded r) ≡ bay_of (loaded s) → r ≡ s
bay-one-record r s f g k m e = sym (bay-loaded-saves r f k) ∙ ap (λ b. record_of (half_of b)) e ∙ bay-loaded-saves s g m
