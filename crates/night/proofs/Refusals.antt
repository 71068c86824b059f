-- What the night's tests tell: a run has room for three bays where it has 82 words, `has_room`; what is known once they are passed,
-- `fitting`; and the night's outcome out of those of its parts, `no-night` and `whole-night`.
use Prim.Native.Nat.{ℕ, ◌≤◌, ◌<◌, min}
use mathlib.Core.Bool.{true, false, not}
use mathlib.Core.List.{List}
use mathlib.Core.Path.{◌≡◌, refl, sym, ap, ◌∙◌}
use native.Mathlib.Omega.{arith}
use Rattle.answers.specs.declared.Refusal.{Refusal}
use Rattle.answers.specs.Numbers.{refusal_number}
use lib.ListN.{length, take, length-take}
use borrow.Author.Tests.{le-leb, lt-leb, not-false, ltb-false}
use Rattle.answers.specs.Judged.{Test, first}
use Rattle.answers.proofs.Outcome.{refused, done, refusing-number}
use Rattle.answers.proofs.Tests.{passed}
use Rattle.slices.specs.Tests.{holds}
use Rattle.bays.specs.Table.{room_for}
use Rattle.ledger.specs.Ends.{record_of_message}
use Rattle.night.specs.Night.{Digests, record_room, night_tests, file_digests, Night}
use Rattle.night.specs.Code.Held.{holding, Held, Fitting, Roomy}

-- ---- room for three bays

pub has_room : (n : ℕ) → 82 ≤ n → not (room_for 3 n) ≡ false
unfolding room_for holds
has_room n h = rw (le-leb 82 n h)

pub no_room : (n : ℕ) → n < 82 → not (room_for 3 n) ≡ true
unfolding room_for holds
no_room n h = rw (lt-leb 82 n h)

-- ---- the outcome

module _ (table anew : List ℕ) (e : ℕ) (a : List ℕ) (cut : ℕ) (b c saved : List ℕ) (out : Digests) (half size : ℕ)
    (is_half : half ≡ min cut (length a)) (is_size : size ≡ record_room e half) where
  -- the tests with the size of the record as the code has it
  abbrev sized : ℕ → List Test
  sized n =
      night_tests (length table) (length anew) e (length a) (length b) (length c) n (length saved) (length out.of_a) (length out.of_b)
      (length out.of_c)

  long : size ≡ record_room e (length (take cut a))
  long = is_size ∙ ap (record_room e) (is_half ∙ sym (length-take cut a))

  same : first (sized (record_room e (length (take cut a)))) ≡ first (sized size)
  same = ap (λ (n : ℕ). first (sized n)) (sym long)

  pub no-night : (r : Refusal) → refusal_number r ≡ first (sized size) → Night table anew e a cut b c saved out (refusal_number r) out
  no-night r p = refused (same ∙ sym p) (refusing-number r) refl

  -- what is known once the tests are passed
  module _ (z : first (sized size) ≡ 0) where
    pub fitting : Fitting e a b c
    unfolding night_tests
    fitting =
        let p = passed (sized size) tt z in
        record { is_known = not-false _ (p 2); short_a = p 3; short_b = p 4; short_c = p 5 }

    roomy : Roomy e out
    unfolding night_tests
    roomy =
        let p = passed (sized size) tt z in
        record { room_a = ltb-false _ _ (p 7); room_b = ltb-false _ _ (p 8); room_c = ltb-false _ _ (p 9) }

    rooms : (room_for 3 (length table) ≡ true) × (room_for 3 (length anew) ≡ true) × (size ≤ length saved)
    unfolding night_tests
    rooms =
        let p = passed (sized size) tt z in
        (not-false _ (p 0), not-false _ (p 1), ltb-false _ _ (p 6))

    -- the evening leaves the record of what had come of the first file, from that the morning goes on, and all are closed
    pub whole-night : (saved1 anew1 : List ℕ) (left : Digests) →
        (room_for 3 (length table) ≡ true → Fitting e a b c → record_room e (length (take cut a)) ≤ length saved →
        take (record_room e (length (take cut a))) saved1 ≡ record_of_message e (take cut a)) →
        (room_for 3 (length anew) ≡ true → Fitting e a b c → take size saved1 ≡ record_of_message e (take cut a) →
        Held anew1 (holding e a) (holding e b) (holding e c)) →
        (Held anew1 (holding e a) (holding e b) (holding e c) → Roomy e out → left ≡ file_digests e a b c out) →
        Night table anew e a cut b c saved out 0 left
    whole-night saved1 anew1 left evening morning closed =
        let kept = evening rooms.0 fitting (omega (arith, rooms.2, long)) in
        let held = morning rooms.1 fitting (ap (λ (k : ℕ). take k saved1) long ∙ kept) in
        done (same ∙ z) (closed held roomy)
