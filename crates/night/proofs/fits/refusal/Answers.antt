-- `night::fits::refusal` meets its contract: the tests so far are passed, and the first that applies decides. Assumes nothing.
use Prim.Native.Nat.{ℕ}
use mathlib.Core.Bool.{not}
use mathlib.Core.List.{List}
use mathlib.Core.Path.{◌≡◌, sym, ap, ◌∙◌}
use lib.Dec.{ltb}
use lib.ListN.{length, drop}
use borrow.Author.Tests.{lt-ltb, le-ltb}
use Rattle.answers.specs.Judged.{Test, first}
use Rattle.night.specs.Night.{night_tests}
use Rattle.night.specs.declared.Files.{Files}
use Rattle.night.specs.declared.fits.Lengths.{Lengths}
use Rattle.night.proofs.Refusals.{no_room, has_room}
use Rattle.night.proofs.fits.refusal.Goals as goal
use Rattle.night.proofs.fits.refusal.Goals.{Else-not-known, Else-too_long-3}

abbrev tests : Files → Lengths → List Test
tests f l =
    night_tests l.table l.anew f.edition (length f.a.now) (length f.b.now) (length f.c.now) l.size l.saved l.first l.second l.third

-- the first k tests are passed: the others decide
abbrev Past : ℕ → Files → Lengths → Type 0
Past k f l = first (tests f l) ≡ first (drop k (tests f l))

pub returns-then-lent-lt-THREE_BAYS : goal.returns-then-lent-lt-THREE_BAYS
unfolding night_tests first
returns-then-lent-lt-THREE_BAYS c =
    rw (no_room _ c.if-lent-lt-THREE_BAYS.true)

pub returns-then-lent-lt-THREE_BAYS-2 : goal.returns-then-lent-lt-THREE_BAYS-2
unfolding night_tests first
returns-then-lent-lt-THREE_BAYS-2 c =
    rw (
      has_room _ c.if-lent-lt-THREE_BAYS.false,
      no_room _ c.if-lent-lt-THREE_BAYS-2.true,
    )

pub returns-then-not-known : goal.returns-then-not-known
unfolding night_tests first
returns-then-not-known c =
    rw (
      has_room _ c.if-lent-lt-THREE_BAYS.false,
      has_room _ c.if-lent-lt-THREE_BAYS-2.false,
      ap not (sym c.known.ensures ∙ c.if-not-known.true),
    )

-- tables and edition

laid : (c : Else-not-known) → Past 3 c.args.files c.args.lent
unfolding night_tests first
laid c =
    rw (
      has_room _ c.if-lent-lt-THREE_BAYS.false,
      has_room _ c.if-lent-lt-THREE_BAYS-2.false,
      ap not (sym c.known.ensures ∙ c.if-not-known.false),
    )

pub returns-then-too_long : goal.returns-then-too_long
unfolding night_tests first
returns-then-too_long c =
    sym (laid (goal.at.returns-then-too_long c).Else-not-known ∙ rw (sym c.if-too_long.ensures))

pub returns-then-too_long-2 : goal.returns-then-too_long-2
unfolding night_tests first
returns-then-too_long-2 c =
    sym (laid (goal.at.returns-then-too_long-2 c).Else-not-known ∙ rw (
      sym c.if-too_long.ensures,
      sym c.if-too_long-2.ensures,
    ))

pub returns-then-too_long-3 : goal.returns-then-too_long-3
unfolding night_tests first
returns-then-too_long-3 c =
    sym (laid (goal.at.returns-then-too_long-3 c).Else-not-known ∙ rw (
      sym c.if-too_long.ensures,
      sym c.if-too_long-2.ensures,
      sym c.if-too_long-3.ensures,
    ))

-- and the three files

filed : (c : Else-too_long-3) → Past 6 c.args.files c.args.lent
unfolding night_tests first
filed c =
    rw (
      has_room _ c.if-lent-lt-THREE_BAYS.false,
      has_room _ c.if-lent-lt-THREE_BAYS-2.false,
      ap not (sym c.known.ensures ∙ c.if-not-known.false),
      sym c.if-too_long.ensures,
      sym c.if-too_long-2.ensures,
      sym c.if-too_long-3.ensures,
    )

pub returns-then-lent : goal.returns-then-lent
unfolding night_tests first
returns-then-lent c =
    sym (filed (goal.at.returns-then-lent c).Else-too_long-3 ∙ rw (lt-ltb _ _ c.if-lent.true))

pub returns-then-lent-room : goal.returns-then-lent-room
unfolding night_tests first
returns-then-lent-room c =
    sym (filed (goal.at.returns-then-lent-room c).Else-too_long-3 ∙ rw (
      le-ltb _ _ c.if-lent.false,
      ap (ltb c.args.lent.first) (sym c.digest_bytes-room.ensures) ∙ lt-ltb _ _ c.if-lent-room.true,
    ))

pub returns-then-lent-room-2 : goal.returns-then-lent-room-2
unfolding night_tests first
returns-then-lent-room-2 c =
    sym (filed (goal.at.returns-then-lent-room-2 c).Else-too_long-3 ∙ rw (
      le-ltb _ _ c.if-lent.false,
      ap (ltb c.args.lent.first) (sym c.digest_bytes-room.ensures) ∙ le-ltb _ _ c.if-lent-room.false,
      ap (ltb c.args.lent.second) (sym c.digest_bytes-room.ensures) ∙ lt-ltb _ _ c.if-lent-room-2.true,
    ))

pub returns-then-lent-room-3 : goal.returns-then-lent-room-3
unfolding night_tests first
returns-then-lent-room-3 c =
    sym (filed (goal.at.returns-then-lent-room-3 c).Else-too_long-3 ∙ rw (
      le-ltb _ _ c.if-lent.false,
      ap (ltb c.args.lent.first) (sym c.digest_bytes-room.ensures) ∙ le-ltb _ _ c.if-lent-room.false,
      ap (ltb c.args.lent.second) (sym c.digest_bytes-room.ensures) ∙ le-ltb _ _ c.if-lent-room-2.false,
      ap (ltb c.args.lent.third) (sym c.digest_bytes-room.ensures) ∙ lt-ltb _ _ c.if-lent-room-3.true,
    ))

pub returns : goal.returns
unfolding night_tests first
returns c =
    sym (filed (goal.at.returns c).Else-too_long-3 ∙ rw (
      le-ltb _ _ c.if-lent.false,
      ap (ltb c.args.lent.first) (sym c.digest_bytes-room.ensures) ∙ le-ltb _ _ c.if-lent-room.false,
      ap (ltb c.args.lent.second) (sym c.digest_bytes-room.ensures) ∙ le-ltb _ _ c.if-lent-room-2.false,
      ap (ltb c.args.lent.third) (sym c.digest_bytes-room.ensures) ∙ le-ltb _ _ c.if-lent-room-3.false,
    ))
