-- What makes bytes a record, one test at a time, as the code asks them: SPEC, "The saved record".
-- Main statements: `no_record`, a load refused, and `both-pass`, the tests of one that is done.
use Prim.Native.Nat.{ℕ}
use mathlib.Core.Bool.{true, false}
use mathlib.Core.List.{List, [], ◌∷◌}
use mathlib.Core.Path.{◌≡◌, refl, ◌∙◌}
use Rattle.answers.specs.Judged.{Judged, first}
use Rattle.answers.proofs.Outcome.{refused}
use Rattle.slices.specs.Tests.{same}
use Rattle.halfread.specs.State.{sound, blank}
use Rattle.records.specs.Record.{record_of, loaded, is_record, is_record_in, load_tests}
use Rattle.slices.proofs.Tests.{fails-at, holds_on, holds-last}

module _ (s : List ℕ) where
  pub not_sound : sound (loaded s) ≡ false → is_record s ≡ false
  unfolding is_record_in
  not_sound p = fails-at (sound (loaded s) ∷ same (record_of (loaded s)) s ∷ []) 0 p

  pub not_same : same (record_of (loaded s)) s ≡ false → is_record s ≡ false
  unfolding is_record_in
  not_same p = fails-at (sound (loaded s) ∷ same (record_of (loaded s)) s ∷ []) 1 p

  pub both-pass : sound (loaded s) ≡ true → same (record_of (loaded s)) s ≡ true → is_record s ≡ true
  unfolding is_record_in
  both-pass p q = holds_on _ _ p ∙ holds-last _ ∙ q

  ten : is_record s ≡ false → first (load_tests s) ≡ 10
  unfolding load_tests first
  ten p = rw p

  pub no_record : is_record s ≡ false → Judged (load_tests s) blank (loaded s) 10 blank
  no_record p = refused (ten p) tt refl
